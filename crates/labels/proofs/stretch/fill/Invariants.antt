-- `labels::stretch::fill`: what is left to set from `j` on gives the same as setting all.
use mathlib.Core.Path.{◌≡◌}
use mathlib.Core.List.{List}
use Prim.Native.Nat.{ℕ, ◌+◌, ◌*◌, ◌-◌}
use lib.ListN.{length}
use Rattle.labels.specs.Stretch.{strided}
use Rattle.labels.proofs.stretch.fill.Given as goal

pub record Inv (part₀ : List ℕ) (from count x : ℕ) (part : List ℕ) (j : ℕ) : Type 0 where
  pub long : length part ≡ length part₀
  pub left : strided part₀ from count x ≡ strided part (from + 2 * j) (count - j) x

abbrev pub invariant-loop-j : goal.invariant-loop-j
invariant-loop-j l = Inv l.initial.part l.from l.count l.x l.part l.j
