-- `sample` meets its contract. Place i of 16,384 stands for i × length / 16,384, which is below the length; the invariant: what has been
-- stored is listed.
use Rattle.std.proofs.Common.{length, arith}
use Rattle.percentile.proofs.Sample.{spread_within, drawing_step, drawing_end}
use Rattle.percentile.proofs.few.sample.Goals as goal

pub loop-i-preserved : goal.loop-i-preserved
loop-i-preserved c = drawing_step _ _ _ _ _ (omega arith) (spread_within c.loop-i.i (length c.args.list.now) (omega arith) c.requires.0) c.loop-i.invariant

pub returns : goal.returns
returns c = drawing_end _ _ _ _ (omega arith) c.loop-i.invariant
