-- `slot` gives the one bucket in which a delay is counted: the quotient of its distance from lo, where that is a bucket's number.
use Rattle.std.proofs.Common.{◌^◌, arith, pow_pos, pow_mono}
use Rattle.percentile.proofs.Buckets.{slot_found, slot_outside}
use Rattle.percentile.proofs.table.slot.Goals as goal

pub returns-then-q : goal.returns-then-q
returns-then-q c =
    slot_found c.args.lo (2 ^ c.args.s) c.args.x _ (pow_pos c.args.s) (pow_mono {j = 31} (omega arith)) (omega arith) (omega arith)
    (omega arith) (omega arith) c.if-q.true

pub returns-else-q : goal.returns-else-q
returns-else-q c =
    slot_outside c.args.lo (2 ^ c.args.s) c.args.x _ (pow_pos c.args.s) (pow_mono {j = 31} (omega arith)) (omega arith) (omega arith)
    (omega arith) (omega arith) c.args.spare c.requires.1 c.requires.2 c.if-q.false
