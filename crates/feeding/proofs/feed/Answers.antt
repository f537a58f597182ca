-- `feeding::feed` meets its contract: no record has begun, or one goes on, or one ends and the rest of the piece stands behind it.
use mathlib.Core.Path.{ap, sym, ◌∙◌, subst}
use mathlib.Core.List.{◌++◌}
use Prim.Native.Nat.{◌-◌}
use native.Mathlib.Omega.{arith}
use lib.ListN.{length, take, drop, length-take, length-drop}
use lib.Seq.{take_all}
use Rattle.feeding.specs.Feeding.{Growing, fed, filled}
use Rattle.feeding.proofs.Waiting.{goes_on, ends, waiting_length}
use Rattle.feeding.proofs.Whole.{held_known}
use Rattle.feeding.proofs.feed.Goals as goal

pub returns-then-left-eq0 : goal.returns-then-left-eq0
unfolding fed
returns-then-left-eq0 c = let a = c.args in
    record {
      tail_after = c.feed_whole.ensures.tail_after ∙ sym (ap (λ k. filled a.state.held (take k a.tail.now ++ a.piece.now)) c.if-left-eq0.true);
      ready = c.feed_whole.ensures.ready;
    }

pub returns-then-piece-room : goal.returns-then-piece-room
returns-then-piece-room c = let a = c.args in let r = c.requires in
    let w = goes_on a.state.held a.tail.now a.piece.now a.state.left c.copy-more.result r.room (omega (arith, r.few, c.if-piece-room.true)) c.copy-more.ensures.count r.valid c.copy-more.ensures.after in
    record { tail_after = w.0; ready = w.1 }

pub feed_whole-requires-2 : goal.feed_whole-requires-2
feed_whole-requires-2 c = let a = c.args in let r = c.requires in (
  waiting_length a.tail.now (take (48 - a.state.left) a.piece.now) a.state.left c.copy.result r.room (simp length-take (omega (arith, r.few))) c.copy.ensures.count c.copy.ensures.after,
  subst Growing (sym c.take_in-next.ensures) (held_known a.state.held _ r.valid),
)

pub returns : goal.returns
returns c = let a = c.args in let r = c.requires in
    record {
      tail_after =
          ends a.state.held a.tail.now a.piece.now a.state.left c.copy.result r.room r.few (omega (arith, r.few, c.if-piece-room.false)) c.copy.ensures.count r.valid
          c.copy.ensures.after
          (take_all (length a.piece.now - (48 - a.state.left)) (drop (48 - a.state.left) a.piece.now) (simp length-drop (omega arith)))
          c.take_in-next.ensures
          c.feed_whole-2.ensures.tail_after;
      ready = c.feed_whole-2.ensures.ready;
    }
