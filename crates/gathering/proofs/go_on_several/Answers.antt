-- `gathering::go_on_several` meets its contract: at each turn the laws of `Gathering` and `Segments` say what the record at k does. The
-- first runs stay, and a run behind each track changes its middle and its last run as `push` does.
use mathlib.Core.Path.{refl, ap, sym, ◌∙◌}
use native.Mathlib.Omega.{arith}
use Rattle.std.specs.Prelude.{Err}
use Rattle.numbers.specs.Limits.{intervals}
use Rattle.tracks.specs.declared.Track.TheVariants.{Many}
use Rattle.tracks.specs.Tracks.{push}
use Rattle.tracks.proofs.Fitting.{push_shuts, push_glues}
use Rattle.gathering.specs.Gathering.{toned, several_of}
use Rattle.gathering.proofs.Gathering.{on_done, on_invalid, on_disordered}
use Rattle.gathering.proofs.Segments.{of_rest, going_valid, going_room, going_longer, going_next, longer_fits, loss_fits, composite_fits, several_kept, several_next}
use Rattle.gathering.proofs.go_on_several.Goals as goal
use Rattle.gathering.proofs.go_on_several.Goals.{then-now-high, else-now-high}

pub returns-in_default : goal.returns-in_default
returns-in_default c =
    let a = c.args in
    let l = c.loop-k in
    ap Err c.at.ensures
    ∙ sym (l.invariant.goes_on ∙ on_invalid a.l a.first a.n l.k l.due a.s.now (push a.l.n a.l.p (Many a.held.loss.first l.loss l.loss_last) (toned l.high.loss l.segment)) (push a.l.n a.l.p (Many a.held.composite.first l.composite l.composite_last) (toned l.high.composite l.segment)) c.loop-k-test.true (sym c.read_at.ensures ∙ c.in_default.is))

pub returns-then-v-due : goal.returns-then-v-due
returns-then-v-due c =
    let a = c.args in
    let l = c.loop-k in
    let v = c.in-Some.v in
    let e = sym c.read_at.ensures ∙ c.in-Some.is in
    ap Err c.at-then-v-due.ensures
    ∙ sym (l.invariant.goes_on ∙ on_disordered a.l a.first a.n l.k l.due a.s.now (push a.l.n a.l.p (Many a.held.loss.first l.loss l.loss_last) (toned l.high.loss l.segment)) (push a.l.n a.l.p (Many a.held.composite.first l.composite l.composite_last) (toned l.high.composite l.segment)) v c.loop-k-test.true e c.if-v-due.true)

pub glue-segment-requires : goal.glue-segment-requires
glue-segment-requires c =
    let a = c.args in
    let l = c.loop-k in
    let v = c.in-Some.v in
    let e = sym c.read_at.ensures ∙ c.in-Some.is in
    let more = c.loop-k-test.true in
    let due = c.if-v-due.false in
    rw c.run_of-x.ensures
    (longer_fits a.l (Many a.held.loss.first l.loss l.loss_last) (Many a.held.composite.first l.composite l.composite_last) l.segment l.k l.invariant.held v (going_valid a.l a.s.now a.n a.first (of_rest a.l a.s.now a.n a.first (several_of a.held.loss) (several_of a.held.composite) a.start a.begun a.from a.place) (Many a.held.loss.first l.loss l.loss_last) (Many a.held.composite.first l.composite l.composite_last) l.segment l.high l.due l.k l.invariant v more e due)
    (omega (arith, going_room a.l a.s.now a.n a.first (of_rest a.l a.s.now a.n a.first (several_of a.held.loss) (several_of a.held.composite) a.start a.begun a.from a.place) (Many a.held.loss.first l.loss l.loss_last) (Many a.held.composite.first l.composite l.composite_last) l.segment l.high l.due l.k l.invariant v more e due, l.invariant.numbered)))

pub middle_with-loss-requires : goal.middle_with-loss-requires
middle_with-loss-requires c =
    let a = c.args in
    let l = c.loop-k in
    push_shuts a.l.n a.l.p (Many a.held.loss.first l.loss l.loss_last) (toned l.high.loss l.segment) a.held.loss.first l.loss l.loss_last (loss_fits a.l (Many a.held.loss.first l.loss l.loss_last) (Many a.held.composite.first l.composite l.composite_last) l.segment l.k l.invariant.held l.high.loss (omega (arith, l.invariant.few, l.invariant.numbered))) refl

pub last_with-loss_last-requires : goal.last_with-loss_last-requires
last_with-loss_last-requires c =
    let a = c.args in
    let l = c.loop-k in
    rw c.toned-r.ensures
    (push_glues a.l.n a.l.p (Many a.held.loss.first l.loss l.loss_last) (toned l.high.loss l.segment) a.held.loss.first l.loss l.loss_last (loss_fits a.l (Many a.held.loss.first l.loss l.loss_last) (Many a.held.composite.first l.composite l.composite_last) l.segment l.k l.invariant.held l.high.loss (omega (arith, l.invariant.few, l.invariant.numbered))) refl)

pub middle_with-composite-requires : goal.middle_with-composite-requires
middle_with-composite-requires c =
    let a = c.args in
    let l = c.loop-k in
    push_shuts a.l.n a.l.p (Many a.held.composite.first l.composite l.composite_last) (toned l.high.composite l.segment) a.held.composite.first l.composite l.composite_last (composite_fits a.l (Many a.held.loss.first l.loss l.loss_last) (Many a.held.composite.first l.composite l.composite_last) l.segment l.k l.invariant.held l.high.composite (omega (arith, l.invariant.few, l.invariant.numbered))) refl

pub last_with-composite_last-requires : goal.last_with-composite_last-requires
last_with-composite_last-requires c =
    let a = c.args in
    let l = c.loop-k in
    rw c.toned-q.ensures
    (push_glues a.l.n a.l.p (Many a.held.composite.first l.composite l.composite_last) (toned l.high.composite l.segment) a.held.composite.first l.composite l.composite_last (composite_fits a.l (Many a.held.loss.first l.loss l.loss_last) (Many a.held.composite.first l.composite l.composite_last) l.segment l.k l.invariant.held l.high.composite (omega (arith, l.invariant.few, l.invariant.numbered))) refl)

pub overflow_add-due : goal.overflow_add-due
unfolding intervals
overflow_add-due c = omega (arith, c.loop-k.invariant.few)

pub loop-k-preserved : goal.loop-k-preserved
loop-k-preserved c =
    let a = c.args in
    let l = c.loop-k in
    let v = c.in-Some.v in
    let e = sym c.read_at.ensures ∙ c.in-Some.is in
    let more = c.loop-k-test.true in
    let due = c.if-v-due.false in
    let run = c.run_of-x.ensures in
    let marks = c.marks-now.ensures in
    elim c.if-now-high.branch [
      | then-now-high w ↦ going_longer a.l a.s.now a.n a.first (of_rest a.l a.s.now a.n a.first (several_of a.held.loss) (several_of a.held.composite) a.start a.begun a.from a.place) (Many a.held.loss.first l.loss l.loss_last) (Many a.held.composite.first l.composite l.composite_last) l.segment l.high l.due l.k l.invariant v more e due run marks w.if-now-high.true (several_kept a.held.loss.first w.loss-is w.loss_last-is) (several_kept a.held.composite.first w.composite-is w.composite_last-is) (w.segment-is ∙ w.glue-segment.ensures) w.high-is
      | else-now-high w ↦ going_next a.l a.s.now a.n a.first (of_rest a.l a.s.now a.n a.first (several_of a.held.loss) (several_of a.held.composite) a.start a.begun a.from a.place) (Many a.held.loss.first l.loss l.loss_last) (Many a.held.composite.first l.composite l.composite_last) l.segment l.high l.due l.k l.invariant v more e due run marks
          (several_next a.l.n a.l.p a.held.loss.first l.loss l.loss_last w.toned-r.result (w.loss-is ∙ w.middle_with-loss.ensures) (w.loss_last-is ∙ w.last_with-loss_last.ensures)) w.toned-r.ensures
          (several_next a.l.n a.l.p a.held.composite.first l.composite l.composite_last w.toned-q.result (w.composite-is ∙ w.middle_with-composite.ensures) (w.composite_last-is ∙ w.last_with-composite_last.ensures)) w.toned-q.ensures
          w.segment-is w.high-is
    ]

pub push-requires : goal.push-requires
push-requires c =
    let a = c.args in
    let l = c.loop-k in
    rw c.toned.ensures (loss_fits a.l (Many a.held.loss.first l.loss l.loss_last) (Many a.held.composite.first l.composite l.composite_last) l.segment l.k l.invariant.held l.high.loss (omega (arith, l.invariant.few, l.invariant.numbered)))

pub push-requires-2 : goal.push-requires-2
push-requires-2 c =
    let a = c.args in
    let l = c.loop-k in
    rw c.toned-2.ensures (composite_fits a.l (Many a.held.loss.first l.loss l.loss_last) (Many a.held.composite.first l.composite l.composite_last) l.segment l.k l.invariant.held l.high.composite (omega (arith, l.invariant.few, l.invariant.numbered)))

pub returns : goal.returns
returns c =
    let a = c.args in
    let l = c.loop-k in
    rw (c.push-2.ensures, c.toned-2.ensures, c.push.ensures, c.toned.ensures)
    (sym (l.invariant.goes_on ∙ on_done a.l a.first a.n l.k l.due a.s.now (push a.l.n a.l.p (Many a.held.loss.first l.loss l.loss_last) (toned l.high.loss l.segment)) (push a.l.n a.l.p (Many a.held.composite.first l.composite l.composite_last) (toned l.high.composite l.segment)) c.loop-k-test.false))
