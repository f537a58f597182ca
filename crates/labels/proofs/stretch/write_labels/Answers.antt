-- `labels::stretch::write_labels`: before record `k` both lanes hold what the first `k` marks settle, and at the end the label bytes.
use borrow.Author.Rules.{rules}
use mathlib.Core.Path.{◌≡◌}
use Prim.Native.Nat.{◌/◌}
use native.Mathlib.Omega.{arith}
use lib.ListN.{length}
use Rattle.labels.proofs.Writing.{lanes_start, lanes_settling, lanes_leaving}
use Rattle.labels.proofs.stretch.write_labels.Goals as goal

pub loop-k-init : goal.loop-k-init
loop-k-init c = lanes_start c.args.l c.args.r.now c.args.part.now c.requires.room

pub settle_both-t-requires : goal.settle_both-t-requires
settle_both-t-requires c =
    let o = c.loop-k in
    lanes_settling c.args.l c.args.r.now o.k o.t c.args.part.now o.part c.requires o.invariant (search rules)

pub leave_both-requires : goal.leave_both-requires
leave_both-requires c =
    let o = c.loop-k in
    let e : o.k ≡ length c.args.r.now / 48 = omega (arith, o.invariant.most) in
    rw e at (lanes_leaving c.args.l c.args.r.now o.k o.t c.args.part.now o.part c.requires o.invariant e)
