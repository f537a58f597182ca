-- `gather` meets its contract. The invariant: what is kept, and what is left to keep, are all; so there is always room for one more.
use Rattle.std.proofs.Common.{length}
use Rattle.percentile.specs.Ranks.{inside}
use Rattle.percentile.proofs.Gather.{Gathered}
use Rattle.percentile.proofs.few.gather.Given as goal

abbrev pub invariant-loop-x : goal.invariant-loop-x
invariant-loop-x l = Gathered (inside l.p.lo l.p.hi) l.list (length l.initial.few) l.n l.x-index l.few
