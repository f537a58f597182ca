-- `tally` counts the delays by buckets. The invariant: the table holds the counts of the delays passed.
use Rattle.std.proofs.Common.{◌^◌}
use Rattle.percentile.proofs.Buckets.{Tallied}
use Rattle.percentile.proofs.table.tally.Given as goal

abbrev pub invariant-loop-i : goal.invariant-loop-i
invariant-loop-i l = Tallied l.list l.lo (2 ^ l.s) l.i l.t
