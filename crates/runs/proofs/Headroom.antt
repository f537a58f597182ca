-- The headroom of a least delay and the least delay of a headroom are one function: where a frame was delivered it takes from the largest delay,
-- and where none was it leaves what it is given. Either way it undoes itself on delays up to the largest.
-- Assumes nothing.
use mathlib.Core.Path.{◌≡◌}
use mathlib.Core.Bool.{Bool, true, false, cond}
use Prim.Native.Nat.{ℕ, ◌-◌, ◌≤◌, ◌<◌}
use native.Mathlib.Omega.{arith}
use lib.Dec.{eqb}
use borrow.Author.Tests.{eq-eqb, ne_eqb}
use Rattle.numbers.specs.Limits.{largest_delay}
use Rattle.runs.specs.Figures.{turned}

pub turned_heard : (sent lost x : ℕ) → lost < sent → turned sent lost x ≡ largest_delay - x
unfolding turned
turned_heard sent lost x h = rw (ne_eqb sent lost (λ e. omega arith))

pub turned_silent : (sent lost x : ℕ) → sent ≡ lost → turned sent lost x ≡ x
unfolding turned
turned_silent sent lost x e = rw (eq-eqb sent lost e)

pub turned_within : (sent lost x : ℕ) → x ≤ largest_delay → turned sent lost x ≤ largest_delay
unfolding turned
turned_within sent lost x h = by (eqb sent lost)
  where
    by : (none : Bool) → cond none x (largest_delay - x) ≤ largest_delay
    by true = h
    by false = omega arith

pub turned_twice : (sent lost x : ℕ) → x ≤ largest_delay → turned sent lost (turned sent lost x) ≡ x
unfolding turned
turned_twice sent lost x h = by (eqb sent lost)
  where
    by : (none : Bool) → cond none (cond none x (largest_delay - x)) (largest_delay - cond none x (largest_delay - x)) ≡ x
    by true = omega arith
    by false = omega arith
