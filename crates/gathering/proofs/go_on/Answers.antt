-- `gathering::go_on` meets its contract: at each turn the laws of `Gathering` and `Segments` say what the record at k does.
use mathlib.Core.Path.{ap, sym, ◌∙◌}
use native.Mathlib.Omega.{arith}
use Rattle.std.specs.Prelude.{Err}
use Rattle.numbers.specs.Limits.{intervals}
use Rattle.tracks.specs.Tracks.{push}
use Rattle.gathering.specs.Gathering.{toned}
use Rattle.gathering.proofs.Gathering.{on_done, on_invalid, on_disordered}
use Rattle.gathering.proofs.Segments.{of_first, going_begun, going_valid, going_room, going_longer, going_next, longer_fits, loss_fits, composite_fits}
use Rattle.gathering.proofs.go_on.Goals as goal
use Rattle.gathering.proofs.go_on.Goals.{then-m-high, else-m-high}

pub overflow_add-next : goal.overflow_add-next
unfolding intervals
overflow_add-next c = omega (arith, c.requires.known)

pub loop-k-init : goal.loop-k-init
loop-k-init c =
    let a = c.args in
    going_begun a.l a.s.now a.n a.first a.start a.begun c.requires

pub returns-in_default-read_at : goal.returns-in_default-read_at
returns-in_default-read_at c =
    let a = c.args in
    let l = c.loop-k in
    ap Err c.at.ensures
    ∙ sym (l.invariant.goes_on ∙ on_invalid a.l a.first a.n l.k l.next a.s.now (push a.l.n a.l.p l.loss (toned l.high.loss l.segment)) (push a.l.n a.l.p l.composite (toned l.high.composite l.segment)) c.loop-k-test.true (sym c.read_at.ensures ∙ c.in_default-read_at.is))

pub returns-then-v-next : goal.returns-then-v-next
returns-then-v-next c =
    let a = c.args in
    let l = c.loop-k in
    let v = c.in-Some.v in
    let e = sym c.read_at.ensures ∙ c.in-Some.is in
    ap Err c.at-then-v-next.ensures
    ∙ sym (l.invariant.goes_on ∙ on_disordered a.l a.first a.n l.k l.next a.s.now (push a.l.n a.l.p l.loss (toned l.high.loss l.segment)) (push a.l.n a.l.p l.composite (toned l.high.composite l.segment)) v c.loop-k-test.true e c.if-v-next.true)

pub glue-segment-requires : goal.glue-segment-requires
glue-segment-requires c =
    let a = c.args in
    let l = c.loop-k in
    let v = c.in-Some.v in
    let e = sym c.read_at.ensures ∙ c.in-Some.is in
    let more = c.loop-k-test.true in
    let due = c.if-v-next.false in
    rw c.run_of-x.ensures
    (longer_fits a.l l.loss l.composite l.segment l.k l.invariant.held v (going_valid a.l a.s.now a.n a.first (of_first a.l a.s.now a.n a.first a.start a.begun) l.loss l.composite l.segment l.high l.next l.k l.invariant v more e due)
    (omega (arith, going_room a.l a.s.now a.n a.first (of_first a.l a.s.now a.n a.first a.start a.begun) l.loss l.composite l.segment l.high l.next l.k l.invariant v more e due, l.invariant.numbered)))

pub push-loss-requires : goal.push-loss-requires
push-loss-requires c =
    let a = c.args in
    let l = c.loop-k in
    rw c.toned.ensures (loss_fits a.l l.loss l.composite l.segment l.k l.invariant.held l.high.loss (omega (arith, l.invariant.few, l.invariant.numbered)))

pub push-composite-requires : goal.push-composite-requires
push-composite-requires c =
    let a = c.args in
    let l = c.loop-k in
    rw c.toned-else-m-high.ensures (composite_fits a.l l.loss l.composite l.segment l.k l.invariant.held l.high.composite (omega (arith, l.invariant.few, l.invariant.numbered)))

pub overflow_add-next-in-loop-k : goal.overflow_add-next-in-loop-k
unfolding intervals
overflow_add-next-in-loop-k c = omega (arith, c.loop-k.invariant.few)

pub loop-k-preserved : goal.loop-k-preserved
loop-k-preserved c =
    let a = c.args in
    let l = c.loop-k in
    let v = c.in-Some.v in
    let e = sym c.read_at.ensures ∙ c.in-Some.is in
    let more = c.loop-k-test.true in
    let due = c.if-v-next.false in
    let run = c.run_of-x.ensures in
    let marks = c.marks-m.ensures in
    elim c.if-m-high.branch [
      | then-m-high w ↦ going_longer a.l a.s.now a.n a.first (of_first a.l a.s.now a.n a.first a.start a.begun) l.loss l.composite l.segment l.high l.next l.k l.invariant v more e due run marks w.if-m-high.true w.loss-is w.composite-is (w.segment-is ∙ w.glue-segment.ensures) w.high-is
      | else-m-high w ↦ going_next a.l a.s.now a.n a.first (of_first a.l a.s.now a.n a.first a.start a.begun) l.loss l.composite l.segment l.high l.next l.k l.invariant v more e due run marks (w.loss-is ∙ w.push-loss.ensures) w.toned.ensures (w.composite-is ∙ w.push-composite.ensures) w.toned-else-m-high.ensures w.segment-is w.high-is
    ]

pub push-requires : goal.push-requires
push-requires c =
    let a = c.args in
    let l = c.loop-k in
    rw c.toned-2.ensures (loss_fits a.l l.loss l.composite l.segment l.k l.invariant.held l.high.loss (omega (arith, l.invariant.few, l.invariant.numbered)))

pub push-requires-2 : goal.push-requires-2
push-requires-2 c =
    let a = c.args in
    let l = c.loop-k in
    rw c.toned-3.ensures (composite_fits a.l l.loss l.composite l.segment l.k l.invariant.held l.high.composite (omega (arith, l.invariant.few, l.invariant.numbered)))

pub returns : goal.returns
returns c =
    let a = c.args in
    let l = c.loop-k in
    rw (c.push-2.ensures, c.toned-3.ensures, c.push.ensures, c.toned-2.ensures)
    (sym (l.invariant.goes_on ∙ on_done a.l a.first a.n l.k l.next a.s.now (push a.l.n a.l.p l.loss (toned l.high.loss l.segment)) (push a.l.n a.l.p l.composite (toned l.high.composite l.segment)) c.loop-k-test.false))
