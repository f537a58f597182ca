-- `ranked` meets its contract by the counts at the pivots: one of them is the delay, or it lies between them, or the whole list is
-- searched.
use Rattle.std.proofs.Common.{arith}
use Rattle.percentile.proofs.Between.{count_between_lem, ranked_between}
use Rattle.percentile.proofs.few.ranked.Goals as goal

pub between-requires : goal.between-requires
between-requires c =
    let start = c in
    omega (arith, count_between_lem start.args.p.lo start.args.p.hi start.args.list.now (omega arith))

pub returns-then-s-lt-FEW : goal.returns-then-s-lt-FEW
returns-then-s-lt-FEW c = ranked_between _ _ _ _ _ _ c.requires.3.1.upto_lo c.if-s-k-3.true c.between.ensures
