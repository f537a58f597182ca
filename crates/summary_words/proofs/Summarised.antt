-- `mip_summary` and `mip_join`: the place of a refusal fits its word, since a record before the faulty one is valid and has the next number, and of two
-- summaries the later one is at place 1.
use Prim.Native.Nat.{ℕ, ◌+◌, ◌/◌, ◌≤◌, ◌<◌, ◌^◌}
use mathlib.Core.Bool.{Bool, true, false}
use mathlib.Core.List.{List}
use mathlib.Core.Path.{◌≡◌, refl, ap, sym, ◌∙◌}
use native.Mathlib.Decide.{dec_le}
use native.Mathlib.Omega.{arith}
use lib.ListN.{length}
use lib.Dec.{eqb}
use borrow.Author.Tests.{le-ltb, lt-ltb}
use Rattle.std.specs.Prelude.{Option, Some, None, Result, Ok, Err}
use Rattle.numbers.specs.Limits.{intervals}
use Rattle.numbers.specs.Many.{count_of}
use Rattle.numbers.specs.Room.{has_room}
use Rattle.numbers.specs.declared.refusal.Fault.{Fault}
use Rattle.numbers.specs.declared.refusal.Refusal.{Refusal}
use Rattle.settings.specs.Settings.{settings_of, same_label}
use Rattle.settings.specs.declared.LabelSettings.{LabelSettings}
use Rattle.intervals.specs.Sequence.{reads_from, intervals_in, checked}
use Rattle.labels.proofs.Places.{checked_place}
use Rattle.summaries.specs.Stored.{summary_of}
use Rattle.summaries.specs.declared.Summary.{Summary}
use Rattle.gathering.specs.Gathering.{good_if, gathered}
use Rattle.making.specs.Making
use Rattle.joining.specs.Joining
use Rattle.summary_words.specs.SummaryList.{SummaryLeft, JoinLeft}
use Rattle.settings.specs.declared.Settings.{Settings}

-- the place of a fault, 0 where there is none

fault_place : Result (Unit {0}) Refusal → ℕ
fault_place (Ok tt) = 0
fault_place (Err r) = r.place

fault_place_lem : (n : ℕ) (s : List ℕ) (k next place : ℕ) → next ≤ intervals → fault_place (checked next place (reads_from n s k)) + next ≤ place + intervals
unfolding fault_place
fault_place_lem n s k next place h = by (checked next place (reads_from n s k)) refl
  where
    by : (q : Result (Unit {0}) Refusal) → checked next place (reads_from n s k) ≡ q → fault_place q + next ≤ place + intervals
    by (Ok tt) e = omega arith
    by (Err r) e = checked_place n s k next place r h e

gathered_place : Result Summary Refusal → ℕ
gathered_place (Ok v) = 0
gathered_place (Err r) = r.place

good_place : (q : Result (Unit {0}) Refusal) (v : Summary) → fault_place q ≤ intervals → gathered_place (good_if q v) ≤ intervals
unfolding gathered_place fault_place
good_place (Ok tt) v h = h
good_place (Err r) v h = h

gathered_place_lem : (l : LabelSettings) (first : ℕ) (s : List ℕ) → first ≤ intervals → gathered_place (gathered l first s) ≤ intervals
unfolding gathered intervals_in
gathered_place_lem l first s h = good_place (checked first 0 (intervals_in s)) _ (omega (arith, fault_place_lem (length s / 48) s 0 first 0 h))

room_place : (l : LabelSettings) (room : Bool) (first : ℕ) (s : List ℕ) → gathered_place (Making.gathered_room l room first s) ≤ intervals
unfolding gathered_place
room_place l false first s = omega arith
room_place l true first s =
    elim (dec_le first intervals) [
      | yes h ↦ rw (le-ltb intervals first h) (gathered_place_lem l first s h)
      | no h ↦ rw (lt-ltb intervals first (omega arith)) (omega arith)
    ]

count_place : (l : LabelSettings) (o : Option ℕ) (room : Bool) (first : ℕ) (s : List ℕ) → gathered_place (Making.gathered_count l o room first s) ≤ intervals
unfolding gathered_place
count_place l None room first s = omega arith
count_place l (Some n) room first s = room_place l room first s

made_place : (o : Option Settings) (room : Bool) (first : ℕ) (s : List ℕ) → gathered_place (Making.gathered_settings o room first s) ≤ intervals
unfolding gathered_place
made_place None room first s = omega arith
made_place (Some v) room first s = count_place v.label (count_of (length s) 48) room first s

made_at : Result (Unit {0}) Refusal → ℕ
made_at (Ok tt) = 0
made_at (Err r) = r.place

made_at_lem : (g : Result Summary Refusal) → made_at (Making.answer_of g) ≡ gathered_place g
unfolding made_at gathered_place
made_at_lem (Ok v) = refl
made_at_lem (Err r) = refl

module _ (settings : List ℕ) (first : ℕ) (s out : List ℕ) (at : ℕ) where
  pub summary_fits : {after : List ℕ} (a : Result (Unit {0}) Refusal) (r : Refusal) → Making.Outcome settings first s out at a after → a ≡ Err r → r.place < 2 ^ 32
  unfolding made_at Making.made intervals
  summary_fits a r o e =
      let same : r.place ≡ gathered_place (Making.made settings first s (length out) at) = ap made_at (sym e ∙ o.answered) ∙ made_at_lem (Making.made settings first s (length out) at) in
      omega (arith, same, made_place (settings_of settings) (has_room (length out) at 1024) first s)

-- a refusal of `join`

joined_at : Result (Unit {0}) Refusal → ℕ
joined_at (Ok tt) = 0
joined_at (Err r) = r.place

judged_at : Joining.Judged → ℕ
judged_at j = joined_at (Joining.answer_of j)

unless_at : (b : Bool) (f : Fault) (k : ℕ) (j : Joining.Judged) → k ≤ 1 → judged_at j ≤ 1 → judged_at (Joining.unless b f k j) ≤ 1
unfolding judged_at joined_at
unless_at true f k j h i = i
unless_at false f k j h i = h

reads_at : (a b : Option Summary) → judged_at (Joining.judged_reads a b) ≤ 1
unfolding judged_at joined_at
reads_at None b = omega arith
reads_at (Some a) None = omega arith
reads_at (Some a) (Some b) =
    unless_at (same_label a.label b.label) Fault.Mismatch 1 _ (omega arith)
    (unless_at (eqb a.after b.first) Fault.Order 1 (Joining.good (Joining.joined_of a b)) (omega arith) (omega arith))

judged_at_lem : (a b : List ℕ) (len at : ℕ) → judged_at (Joining.judged a b len at) ≤ 1
unfolding Joining.judged
judged_at_lem a b len at =
    unless_at (eqb (length a) 1024) Fault.Length 0 _ (omega arith)
    (unless_at (eqb (length b) 1024) Fault.Length 0 _ (omega arith)
    (unless_at (has_room len at 1024) Fault.Room 0 _ (omega arith) (reads_at (summary_of a) (summary_of b))))

module _ (a b out : List ℕ) (at : ℕ) where
  pub join_fits : {after : List ℕ} (j : Result (Unit {0}) Refusal) (r : Refusal) → Joining.Outcome a b out at j after → j ≡ Err r → r.place < 2 ^ 32
  unfolding judged_at joined_at
  join_fits j r o e =
      let same : r.place ≡ judged_at (Joining.judged a b (length out) at) = ap joined_at (sym e ∙ o.answered) in
      omega (arith, same, judged_at_lem a b (length out) at)

-- two results, with the buffers that they leave, that the contract of `mip_summary` allows coincide
pub summaries_coincide :
    (settings : List ℕ) (first : ℕ) (s out : List ℕ) (at m n : ℕ) (a b : List ℕ) →
    SummaryLeft settings first s out at m a → SummaryLeft settings first s out at n b → (m ≡ n) × (a ≡ b)
summaries_coincide settings first s out at m n a b p q = (p.word ∙ sym q.word, p.left ∙ sym q.left)

-- the same of `mip_join`
pub joins_coincide : (x y out : List ℕ) (at m n : ℕ) (a b : List ℕ) → JoinLeft x y out at m a → JoinLeft x y out at n b → (m ≡ n) × (a ≡ b)
joins_coincide x y out at m n a b p q = (p.word ∙ sym q.word, p.left ∙ sym q.left)
