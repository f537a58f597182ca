-- The pieces of a summary, put one behind the other into 1,024 bytes, are its bytes; the label settings go through a part that is lent on.
-- Assumes nothing.
use mathlib.Core.Path.{◌≡◌, sym, ◌∙◌}
use mathlib.Core.List.{List, [], ◌∷◌, append_assoc}
use Prim.Native.Nat.{ℕ, ◌+◌, ◌-◌, ◌≤◌}
use native.Mathlib.Omega.{arith}
use lib.ListN.{length, take, drop, length-append}
use lib.Seq.{sets, sets-eq, length-sets, drop-drop}
use borrow.Rule.Slice.PartMut.{put_mid}
use Rattle.numbers.specs.Bytes.{bytes_of, placed}
use Rattle.numbers.proofs.Numbers.{length_bytes}
use Rattle.numbers.proofs.Window.{part_placed, sets_whole}
use Rattle.settings.specs.Settings.{label_bytes}
use Rattle.settings.proofs.RoundTrip.{length_label}
use Rattle.layout.specs.Bytes.{track_bytes}
use Rattle.layout.proofs.Laying.{piece, laid_joined}
use Rattle.layout.proofs.Sizes.{size_track}
use Rattle.summaries.specs.Stored.{summary_bytes}
use Rattle.summaries.specs.declared.Summary.{Summary}

-- a part that is lent on and filled from its start is the buffer filled from there
part_sets :
    (l bs : List ℕ) (at n : ℕ) → length bs ≡ n → at + n ≤ length l → put_mid at (at + n - at) l (sets (take (at + n - at) (drop at l)) 0 bs) ≡ sets l at bs
unfolding placed
part_sets l bs at n e h =
    part_placed l bs at n e h ∙ sym (sets-eq bs l at (omega arith) ∙ append_assoc (take at l) bs (drop (at + length bs) l))

-- a part that is lent on and left as bs
pub part_filled : (out bs : List ℕ) (at n : ℕ) → length bs ≡ n → put_mid at (at + n - at) out bs ≡ placed out at bs
unfolding placed
part_filled out bs at n e = let k : at + n - at ≡ length bs = omega arith in rw (k, drop-drop)

pub size_summary : (v : Summary) → length (summary_bytes v) ≡ 1024
unfolding summary_bytes
size_summary v =
    simp (length-append, length_bytes, length_label, size_track)

pub put_whole :
    (v : Summary) (l : List ℕ) → length l ≡ 1024 →
    sets
    (sets
    (sets
    (put_mid 8 24 (sets (sets l 0 (bytes_of 4 v.first)) 4 (bytes_of 4 v.after))
    (sets (take 24 (drop 8 (sets (sets l 0 (bytes_of 4 v.first)) 4 (bytes_of 4 v.after)))) 0 (label_bytes v.label)))
    32 (track_bytes v.loss))
    248 (track_bytes v.composite))
    464 (bytes_of 560 0)
    ≡ summary_bytes v
unfolding summary_bytes
put_whole v l h =
    let l2 : List ℕ = sets (sets l 0 (bytes_of 4 v.first)) 4 (bytes_of 4 v.after) in
    let n2 : length l2 ≡ length l = length-sets (sets l 0 (bytes_of 4 v.first)) 4 (bytes_of 4 v.after) ∙ length-sets l 0 (bytes_of 4 v.first) in
    rw (part_sets l2 (label_bytes v.label) 8 24 (length_label v.label) (omega arith))
    (laid_joined l 0 (piece 4 (bytes_of 4 v.first) (length_bytes 4 v.first))
    (piece 4 (bytes_of 4 v.after) (length_bytes 4 v.after)
    ∷ piece 24 (label_bytes v.label) (length_label v.label)
    ∷ piece 216 (track_bytes v.loss) (size_track v.loss)
    ∷ piece 216 (track_bytes v.composite) (size_track v.composite)
    ∷ piece 560 (bytes_of 560 0) (length_bytes 560 0)
    ∷ [])
    ∙ sets_whole l (summary_bytes v) (h ∙ sym (size_summary v)))
