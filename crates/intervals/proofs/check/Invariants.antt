-- `intervals::check` meets its contract. The loop's invariant: the answer is that of the records from k on, with the number that is due.
use mathlib.Core.Path.{◌≡◌}
use Prim.Native.Nat.{◌-◌}
use Rattle.intervals.specs.Sequence.{reads_from, intervals_in, checked}
use Rattle.intervals.proofs.check.Given as goal

abbrev pub invariant-loop-k : goal.invariant-loop-k
invariant-loop-k l = checked l.first 0 (intervals_in l.s) ≡ checked l.next l.k (reads_from (l.k-end - l.k) l.s l.k)
