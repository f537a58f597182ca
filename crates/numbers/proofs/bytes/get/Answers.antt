-- `numbers::bytes::get` meets its contract: each turn fills in one byte more.
use Rattle.std.proofs.Common.{◌+◌, ◌-◌, ◌^◌, get_or, ap, sym, ◌∙◌, arith, length-set}
use Rattle.std.proofs.lemmas.List.{take_more_set}
use Rattle.numbers.proofs.Numbers.{get_far, part_more}
use Rattle.numbers.proofs.bytes.get.Goals as goal

pub loop-k-preserved : goal.loop-k-preserved
loop-k-preserved g c =
    let l = c.loop-k in
    let far = get_far c.args.s.now (c.args.i + l.k) (2 ^ 64 - 1) (omega (arith, c.well_formed.0.0)) in
    let read = c.get_u8.ensures ∙ ap (λ j. get_or c.args.s.now j 0) c.saturating_add.ensures ∙ far in (
      length-set l.x-items l.k _ ∙ l.invariant.0,
      rw (take_more_set l.x-items l.k _ (omega (arith, l.invariant.0)), l.invariant.1, read) (sym (part_more l.k c.args.s.now c.args.i)),
    )
