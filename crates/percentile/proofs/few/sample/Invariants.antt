-- What stands at each turn of `sample`: what has been stored is listed.
use Rattle.percentile.proofs.Sample.{Drawing}
use Rattle.percentile.proofs.few.sample.Given as goal

abbrev pub invariant-loop-i : goal.invariant-loop-i
invariant-loop-i l = Drawing l.list l.initial.few l.few l.i
