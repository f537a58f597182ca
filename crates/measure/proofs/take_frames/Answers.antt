-- `measure::take_frames` meets its contract: at each turn the laws of `Taking` say what the frame at k does.
use mathlib.Core.Path.{ap, sym, ◌∙◌}
use Prim.Native.Nat.{◌+◌}
use Rattle.numbers.specs.Many.{record_at}
use Rattle.frames.specs.Frame.{frame_of}
use Rattle.frames.proofs.FrameRecord.{frame_valid}
use Rattle.measure.proofs.Taking.{small_more, sent_more, take_next}
use Rattle.measure.proofs.take_frames.Goals as goal

pub loop-k-preserved : goal.loop-k-preserved
loop-k-preserved c = let a = c.args in let l = c.loop-k in
    let f = c.in-Some.f in
    let e = sym (c.read.ensures ∙ ap frame_of c.part.ensures) ∙ c.in-Some.is in
    rw c.add-t.ensures
    record {
      sent = sent_more a.dl a.jt l.t f ∙ ap (λ k. k + 1) l.invariant.sent;
      small = small_more a.dl a.jt l.t f l.invariant.small (frame_valid (record_at a.s.now 16 l.k) f e).delay_fact;
      goes_on = l.invariant.goes_on ∙ take_next a.dl a.jt a.from a.to a.n l.k l.earliest a.s.now l.t f c.loop-k-test.true e c.if-time-from.false c.if-to-time.false c.if-time-earliest.false;
    }
