-- `survey` meets its contract. The invariant: each count of the delays passed, and that of those left, make up the whole.
use Rattle.percentile.proofs.Survey.{Seen}
use Rattle.percentile.proofs.few.survey.Given as goal

abbrev pub invariant-loop-x : goal.invariant-loop-x
invariant-loop-x l = Seen l.list l.largest l.p.lo l.p.hi l.x-index l.s
