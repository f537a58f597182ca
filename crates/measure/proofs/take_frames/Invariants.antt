-- `measure::take_frames` meets its contract: at each turn the laws of `Taking` say what the frame at k does.
use mathlib.Core.Path.{◌≡◌}
use mathlib.Core.List.{List}
use Prim.Native.Nat.{ℕ, ◌-◌}
use Rattle.measure.specs.Outcome.{frames_in, reads_from}
use Rattle.measure.specs.Running.{nothing, taken_of, Small}
use Rattle.measure.specs.declared.Tally.{Tally}
use Rattle.measure.proofs.take_frames.Given as goal

-- k frames are taken, and the answer is that of the frames from k on
pub record Inv (s : List ℕ) (n from to dl jt : ℕ) (t : Tally) (earliest k : ℕ) : Type 0 where
  pub sent : t.sent ≡ k
  pub small : Small t
  pub goes_on :
      taken_of dl jt nothing (frames_in from to 0 0 (reads_from n s 0)) ≡ taken_of dl jt t (frames_in from to k earliest (reads_from (n - k) s k))

abbrev pub invariant-loop-k : goal.invariant-loop-k
invariant-loop-k l = Inv l.s l.n l.from l.to l.dl l.jt l.t l.earliest l.k
