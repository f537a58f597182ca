-- Laws of the window of an output, for whoever lends it on. Each is the test's own meaning.
-- Assumes nothing.
use mathlib.Core.Path.{◌≡◌, ap, sym, ◌∙◌}
use mathlib.Core.Bool.{true}
use mathlib.Core.List.{List, ◌++◌, append-nil, append_assoc}
use Prim.Native.Nat.{ℕ, ◌+◌, ◌-◌, ◌≤◌}
use native.Mathlib.Omega.{arith}
use lib.ListN.{length, take, drop, length-take, length-drop, drop_of_length-le}
use lib.Seq.{sets, sets-eq, drop-drop}
use borrow.Author.Tests.{leb-true}
use borrow.Rule.Slice.PartMut.{put_mid}
use Rattle.numbers.specs.Bytes.{placed}
use Rattle.numbers.specs.Room.{has_room}

pub room_within : (len at size : ℕ) → has_room len at size ≡ true → at + size ≤ len
unfolding has_room
room_within len at size h = leb-true (at + size) len h

-- a part that is written over whole
pub put_whole : {A : Type 0} (i k : ℕ) (s bs : List A) → k ≡ length bs → i + k ≤ length s → put_mid i k s bs ≡ sets s i bs
put_whole i k s bs e h =
    let there : i + length bs ≤ length s = omega arith in
    rw (e, drop-drop) (sym (sets-eq bs s i there ∙ append_assoc (take i s) bs (drop (i + length bs) s)))

-- a part that is filled whole, and the buffer that it was lent from

pub sets_whole : (l bs : List ℕ) → length l ≡ length bs → sets l 0 bs ≡ bs
sets_whole l bs h =
    sets-eq bs l 0 (omega arith)
    ∙ ap (λ (r : List ℕ). bs ++ r) (drop_of_length-le l {i = 0 + length bs} (omega arith))
    ∙ append-nil bs

pub part_placed :
    (out bs : List ℕ) (at n : ℕ) → length bs ≡ n → at + n ≤ length out → put_mid at (at + n - at) out (sets (take (at + n - at) (drop at out)) 0 bs) ≡ placed out at bs
unfolding placed
part_placed out bs at n e h =
    let k : at + n - at ≡ length bs = omega arith in
    let l : length (take (length bs) (drop at out)) ≡ length bs = simp (length-take, length-drop) (omega arith) in
    rw (k, sets_whole (take (length bs) (drop at out)) bs l, drop-drop)
