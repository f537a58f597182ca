-- `tally` counts the delays by buckets. The invariant: the table holds the counts of the delays passed.
use Rattle.std.proofs.Common.{arith}
use Rattle.percentile.proofs.Buckets.{tallied_start, tallied_step, tallied_end}
use Rattle.percentile.proofs.table.tally.Goals as goal

pub loop-i-init : goal.loop-i-init
loop-i-init c = tallied_start _ _ _

pub overflow_add-t : goal.overflow_add-t
overflow_add-t c =
    omega (
      arith,
      c.loop-i.invariant.small c.slot.result,
      c.loop-i-test.true,
      c.requires.1,
    )

pub loop-i-preserved : goal.loop-i-preserved
loop-i-preserved c =
    tallied_step _ _ _ _ _ _ c.loop-i-test.true c.loop-i.invariant c.slot.ensures

pub returns : goal.returns
returns c = tallied_end _ _ _ _ _ c.loop-i-test.false c.loop-i.invariant
