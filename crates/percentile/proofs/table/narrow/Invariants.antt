-- `narrow` walks over the table to the bucket in which rank k lies. A bucket's begin fits, since fewer than k delays are below it.
use Rattle.percentile.proofs.Buckets.{Walk}
use Rattle.percentile.proofs.table.narrow.Given as goal

abbrev pub invariant-loop-count : goal.invariant-loop-count
invariant-loop-count l = Walk l.k l.list l.fn.from.lo l.width l.count-items l.count-index l.at
