-- `gather` meets its contract. The invariant: what is kept, and what is left to keep, are all; so there is always room for one more.
use Rattle.percentile.proofs.Gather.{gathered_step, gathered_room_lem, gathered_end}
use Rattle.percentile.proofs.few.gather.Goals as goal

pub loop-x-preserved : goal.loop-x-preserved
loop-x-preserved c =
    gathered_step _ _ _ _ _ _ c.loop-x-test.true
    (gathered_room_lem _ _ _ _ _ _ c.requires c.loop-x.invariant) c.loop-x.invariant

pub returns : goal.returns
returns c = gathered_end _ _ _ _ _ _ c.loop-x-test.false c.loop-x.invariant
