-- `mip_interval`: the place of a refusal is that of a frame, so it fits its word.
use Prim.Native.Nat.{ℕ, suc, ◌+◌, ◌*◌, ◌≤◌, ◌<◌, ◌^◌}
use mathlib.Core.Bool.{Bool, true, false, ◌&&◌}
use mathlib.Core.List.{List, [], ◌∷◌}
use mathlib.Core.Path.{◌≡◌, refl, ap, sym, ◌∙◌}
use native.Mathlib.Decide.{dec_le}
use native.Mathlib.Nat.{le_trans}
use native.Mathlib.Omega.{arith}
use lib.ListN.{length}
use lib.Dec.{leb, ltb, eqb}
use borrow.Author.Tests.{le-ltb, lt-ltb}
use Rattle.std.specs.Prelude.{Option, Some, None, Result, Ok, Err}
use Rattle.numbers.proofs.Parts.{each_many}
use Rattle.frames.specs.Frame.{frame_of}
use Rattle.measure.specs.Outcome.{Frames, sound, faulty, with, unless, frames_in, reads_from, length_of, judged_of, refuse_if, judged_frames, judged_count, judged_settings, judged, answer_of, Outcome}
use Rattle.numbers.specs.Limits.{frames, intervals}
use Rattle.numbers.specs.Many.{count_of}
use Rattle.numbers.specs.Refusals.{refusal}
use Rattle.numbers.specs.Room.{has_room}
use Rattle.numbers.specs.declared.refusal.Fault.{Fault}
use Rattle.numbers.specs.declared.refusal.Refusal.{Refusal}
use Rattle.settings.specs.Settings.{settings_of}
use Rattle.settings.specs.declared.LabelSettings.{LabelSettings}
use Rattle.frames.specs.declared.Frame.{Frame}
use Rattle.interval_words.specs.FrameList.{IntervalLeft}
use Rattle.intervals.specs.declared.Interval.{Interval}
use Rattle.settings.specs.declared.Settings.{Settings}

-- the place of a fault, 0 where there is none

fault_place : Frames → ℕ
fault_place (sound fs) = 0
fault_place (faulty r) = r.place

with_place : (f : Frame) (fs : Frames) (m : ℕ) → fault_place fs ≤ m → fault_place (with f fs) ≤ m
unfolding fault_place
with_place f (sound fs) m h = h
with_place f (faulty r) m h = h

unless_place : (b : Bool) (r : Refusal) (fs : Frames) (m : ℕ) → r.place ≤ m → fault_place fs ≤ m → fault_place (unless b r fs) ≤ m
unfolding fault_place
unless_place true r fs m h k = k
unless_place false r fs m h k = h

frames_place : (from to place earliest : ℕ) (reads : List (Option Frame)) → fault_place (frames_in from to place earliest reads) ≤ place + length reads
unfolding fault_place frames_in
frames_place from to place earliest [] = omega arith
frames_place from to place earliest (None ∷ rest) = omega arith
frames_place from to place earliest (Some f ∷ rest) =
    let here : place ≤ place + suc (length rest) = omega arith in
    let more : suc place + length rest ≤ place + suc (length rest) = omega arith in
    unless_place (leb from f.time && ltb f.time to) (refusal Fault.Outside place)
    (unless (leb earliest f.time) (refusal Fault.Order place) (with f (frames_in from to (suc place) (f.time + 1) rest)))
    (place + suc (length rest)) here
    (unless_place (leb earliest f.time) (refusal Fault.Order place) (with f (frames_in from to (suc place) (f.time + 1) rest)) (place + suc (length rest)) here
    (with_place f (frames_in from to (suc place) (f.time + 1) rest) (place + suc (length rest))
    (le_trans (frames_place from to (suc place) (f.time + 1) rest) more)))

place_of : Result Interval Refusal → ℕ
place_of (Ok v) = 0
place_of (Err r) = r.place

of_place : (l : LabelSettings) (k : ℕ) (maintenance : Bool) (fs : Frames) (m : ℕ) → fault_place fs ≤ m → place_of (judged_of l k maintenance fs) ≤ m
unfolding fault_place place_of
of_place l k maintenance (sound fs) m h = omega arith
of_place l k maintenance (faulty r) m h = h

refuse_place : (b : Bool) (f : Fault) (j : Result Interval Refusal) (m : ℕ) → place_of j ≤ m → place_of (refuse_if b f j) ≤ m
unfolding place_of
refuse_place true f j m h = omega arith
refuse_place false f j m h = h

judged_place : (l : LabelSettings) (n number maintenance : ℕ) (s : List ℕ) → place_of (judged_frames l n number maintenance s) ≤ frames
unfolding judged_frames place_of
judged_place l n number maintenance s =
    elim (dec_le n frames) [
      | yes h ↦
          let within = frames_place (number * length_of l) ((number + 1) * length_of l) 0 0 (reads_from n s 0) in
          let count = each_many frame_of 16 s n 0 in
          let few : fault_place (frames_in (number * length_of l) ((number + 1) * length_of l) 0 0 (reads_from n s 0)) ≤ frames = omega (arith, within, count, h) in
          rw (le-ltb frames n h)
          (refuse_place (leb intervals number) Fault.Field _ frames
          (refuse_place (ltb 1 maintenance) Fault.Field _ frames
          (of_place l number (eqb maintenance 1) (frames_in (number * length_of l) ((number + 1) * length_of l) 0 0 (reads_from n s 0)) frames few)))
      | no h ↦ rw (lt-ltb frames n (omega arith)) (omega arith)
    ]

count_place : (l : LabelSettings) (o : Option ℕ) (room : Bool) (number maintenance : ℕ) (s : List ℕ) → place_of (judged_count l o room number maintenance s) ≤ frames
unfolding place_of
count_place l None room number maintenance s = omega arith
count_place l (Some n) false number maintenance s = omega arith
count_place l (Some n) true number maintenance s = judged_place l n number maintenance s

read_place : (o : Option Settings) (room : Bool) (number maintenance : ℕ) (s : List ℕ) → place_of (judged_settings o room number maintenance s) ≤ frames
unfolding place_of
read_place None room number maintenance s = omega arith
read_place (Some v) room number maintenance s = count_place v.label (count_of (length s) 16) room number maintenance s

answer_place : Result (Unit {0}) Refusal → ℕ
answer_place (Ok tt) = 0
answer_place (Err r) = r.place

answer_place_lem : (j : Result Interval Refusal) → answer_place (answer_of j) ≡ place_of j
unfolding answer_place place_of
answer_place_lem (Ok v) = refl
answer_place_lem (Err r) = refl

module _ (settings s : List ℕ) (number maintenance : ℕ) (out : List ℕ) (at : ℕ) where
  pub place_fits : {after : List ℕ} (a : Result (Unit {0}) Refusal) (r : Refusal) → Outcome settings s number maintenance out at a after → a ≡ Err r → r.place < 2 ^ 32
  unfolding answer_place judged frames
  place_fits a r o e =
      let same : r.place ≡ place_of (judged settings s number maintenance (length out) at) =
      ap answer_place (sym e ∙ o.answered) ∙ answer_place_lem (judged settings s number maintenance (length out) at) in
      omega (arith, same, read_place (settings_of settings) (has_room (length out) at 48) number maintenance s)

-- two results, with the buffers that they leave, that the contract of `mip_interval` allows coincide
pub intervals_coincide :
    (settings s : List ℕ) (number maintenance : ℕ) (out : List ℕ) (at m n : ℕ) (a b : List ℕ) →
    IntervalLeft settings s number maintenance out at m a → IntervalLeft settings s number maintenance out at n b → (m ≡ n) × (a ≡ b)
intervals_coincide settings s number maintenance out at m n a b p q = (p.word ∙ sym q.word, p.left ∙ sym q.left)
