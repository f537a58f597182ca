-- `feeding::feed_whole` meets its contract: the whole records are taken in, and fewer than 48 bytes are left to wait.
use Prim.Native.Nat.{◌-◌, ◌*◌, ◌/◌}
use native.Mathlib.Omega.{arith}
use lib.ListN.{length, drop, length-drop}
use lib.Seq.{take_all}
use Rattle.feeding.specs.Feeding.{rest_of}
use Rattle.feeding.proofs.Pieces.{whole_of}
use Rattle.feeding.proofs.Waiting.{waits}
use Rattle.feeding.proofs.feed_whole.Goals as goal

pub returns : goal.returns
unfolding whole_of rest_of
returns c = let a = c.args in
    let pre = c.requires in
    let p = a.piece.now in
    let w = waits a.held c.take_in-next.result a.tail.now p _ c.copy-left.result pre.0 pre.1
    c.take_in-next.ensures
    (take_all (length p - length p / 48 * 48) (drop (length p / 48 * 48) p) (simp length-drop (omega arith)))
    c.copy-left.ensures.count
    c.copy-left.ensures.after in
    record { tail_after = w.0; ready = w.1 }
