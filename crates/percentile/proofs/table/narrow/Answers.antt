-- `narrow` walks over the table to the bucket in which rank k lies. A bucket's begin fits, since fewer than k delays are below it.
use Rattle.std.proofs.Common.{◌^◌, sym, arith}
use Rattle.std.proofs.lemmas.List.{length-take-le}
use Rattle.percentile.proofs.Buckets.{walk_start, walk_count, walk_step, walk_found, walk_last, walk_fits}
use Rattle.percentile.proofs.table.narrow.Goals as goal

pub slice_bounds-count-items-length : goal.slice_bounds-count-items-length
slice_bounds-count-items-length c = sym (length-take-le 2047 c.tally-t.result (omega arith))

pub loop-count-init : goal.loop-count-init
loop-count-init c = walk_start _ _ _ _ _ _ (omega arith) c.width_of-width.ensures c.tally-t.ensures c.requires.2

pub overflow_add-next : goal.overflow_add-next
overflow_add-next c = omega (arith, walk_count _ _ _ _ _ _ _ c.loop-count.invariant c.loop-count-test.true, c.requires.1)

pub returns-then-k-next : goal.returns-then-k-next
returns-then-k-next c =
    walk_found _ _ _ _ _ _ _ c.loop-count.invariant _ c.width_of-width.ensures c.loop-count-test.true c.if-k-next.true

pub overflow_add-at : goal.overflow_add-at
overflow_add-at c =
    record {
      fits =
          walk_fits _ _ _ _ _ _ _ c.loop-count.invariant (2 ^ 32) c.loop-count-test.true c.if-k-next.false
          (λ i p. omega (arith, c.type_inv.list i));
    }

pub loop-count-preserved : goal.loop-count-preserved
loop-count-preserved c =
    walk_step _ _ _ _ _ _ _ c.loop-count.invariant c.loop-count-test.true c.if-k-next.false

pub returns : goal.returns
returns c =
    walk_last _ _ _ _ _ _ _ c.loop-count.invariant _ c.width_of-width.ensures c.loop-count-test.false
