-- The third demand on bytes: however the records that `summary` takes are cut and grouped, under whatever objectives and wherever each record is written, what is written in the end are the bytes of
-- the uncut sequence, and no call is refused. By induction over the grouping: a sound sequence is sound in both parts, each part's bytes are those of its made summary, two made ones that adjoin are
-- never refused a join, and their join is the summary made of both.
-- Assumes nothing.
use mathlib.Core.Path.{◌≡◌, refl, ap, sym, ◌∙◌, subst}
use mathlib.Core.Bool.{Bool, true, false, cond}
use mathlib.Core.List.{List, ◌++◌}
use Prim.Native.Nat.{ℕ, ◌+◌, ◌*◌, ◌/◌, ◌%◌, ◌≤◌}
use native.Mathlib.Omega.{arith}
use lib.ListN.{length, take, drop, length-append}
use lib.Seq.{length-take-le, take_at, drop_at}
use lib.Dec.{ltb}
use borrow.Author.Tests.{eq-eqb, le-ltb, ltb-false}
use Rattle.std.specs.Prelude.{Option, Some, None, Result, Ok, Err}
use Rattle.numbers.specs.Bytes.{placed}
use Rattle.numbers.specs.Limits.{intervals}
use Rattle.numbers.specs.Many.{count_of}
use Rattle.numbers.specs.Refusals.{refusal}
use Rattle.numbers.specs.Room.{has_room}
use Rattle.numbers.specs.declared.refusal.Fault.{Fault}
use Rattle.numbers.proofs.Window.{room_within}
use Rattle.settings.specs.Settings.{label_meets, settings_of}
use Rattle.settings.specs.declared.LabelSettings.{LabelSettings}
use Rattle.settings.specs.declared.Settings.{Settings}
use Rattle.intervals.specs.Sequence.{intervals_in, checked}
use Rattle.labels.specs.Stretch.{intervals_of}
use Rattle.labels.proofs.Placing.{read_label}
use Rattle.summaries.specs.Stored.{summary_bytes, summary_of}
use Rattle.summaries.specs.declared.Summary.{Summary}
use Rattle.summaries.specs.Made.{made_of}
use Rattle.summaries.proofs.Made.{made_reads_back}
use Rattle.summaries.proofs.RoundTrip.{length_summary}
use Rattle.gathering.specs.Gathering.{good_if, gathered}
use Rattle.making.specs.Making as making
use Rattle.making.specs.Making.{gathered_count, gathered_settings, made}
use Rattle.joining.proofs.Cut.{join_made}
use Rattle.joining.specs.Joining.{joined_of}
use Rattle.joining.proofs.Joins.{always_written}
use Rattle.feeding.proofs.Pieces.{records_both, records_many}
use Rattle.feeding.proofs.Sound.{then_if, checked_both, moved_by, checked_moved, intervals_both, SoundPart, sound_part}
use Rattle.demands.specs.Cuts.{Cut, stretch, group, uncut, BetweenRecords, Under, behind, record_in, SummaryCalled, JoinCalled, Gives, NoneRefused}
use Rattle.demands.specs.Pairs.{held}
use Rattle.numbers.specs.declared.refusal.Refusal.{Refusal}

-- the summary of records
abbrev pub summary_at : LabelSettings → ℕ → List ℕ → Summary
summary_at l first s = made_of l first (held s)

-- records are sound: each meets its rules, and they are numbered from `first` on
pub record Sound (first : ℕ) (s : List ℕ) : Type 0 where
  pub from : first ≤ intervals
  pub checks : checked first 0 (intervals_in s) ≡ Ok tt

pub sound_facts : (first : ℕ) (s : List ℕ) → Sound first s → SoundPart first (intervals_in s)
unfolding intervals_in
sound_facts first s h = sound_part first 0 (length s / 48) s 0 h.from h.checks

-- as many as there are records
pub held_many : (first : ℕ) (s : List ℕ) → Sound first s → length (held s) ≡ length s / 48
held_many first s h = (sound_facts first s h).many ∙ records_many s

-- the intervals of two parts
pub held_both : (s t : List ℕ) (m : ℕ) → length s ≡ m * 48 → held (s ++ t) ≡ held s ++ held t
held_both s t m e = ap intervals_of (records_both s m e t) ∙ intervals_both (intervals_in s) (intervals_in t)

-- a sound sequence is sound in both parts

then_left : (x y : Result (Unit {0}) Refusal) → then_if x y ≡ Ok tt → x ≡ Ok tt
then_left (Ok tt) y e = refl
then_left (Err r) y e = e

then_right : (x y : Result (Unit {0}) Refusal) → then_if x y ≡ Ok tt → y ≡ Ok tt
then_right (Ok tt) y e = e
then_right (Err r) y e = let z : ◌≡◌ {A = ℕ} 0 1 = cc in absurd (omega arith)

unmoved : (by : ℕ) (x : Result (Unit {0}) Refusal) → moved_by by x ≡ Ok tt → x ≡ Ok tt
unmoved by (Ok tt) e = refl
unmoved by (Err r) e = let z : ◌≡◌ {A = ℕ} 0 1 = cc in absurd (omega arith)

module _ (first : ℕ) (s t : List ℕ) (m : ℕ) (e : length s ≡ m * 48) (h : Sound first (s ++ t)) where
  checks_both : then_if (checked first 0 (intervals_in s)) (checked (first + length (intervals_in s)) (0 + length (intervals_in s)) (intervals_in t)) ≡ Ok tt
  checks_both = sym (ap (checked first 0) (records_both s m e t) ∙ checked_both first 0 (intervals_in s) (intervals_in t)) ∙ h.checks

  pub left_sound : Sound first s
  left_sound = record { from = h.from; checks = then_left (checked first 0 (intervals_in s)) (checked (first + length (intervals_in s)) (0 + length (intervals_in s)) (intervals_in t)) checks_both }

  pub right_sound : Sound (behind first s) t
  right_sound =
      subst (λ k. Sound (first + k) t) (records_many s)
      (record {
        from = (sound_facts first s left_sound).within;
        checks =
            unmoved (length (intervals_in s)) (checked (first + length (intervals_in s)) 0 (intervals_in t))
            (sym (checked_moved (first + length (intervals_in s)) 0 (length (intervals_in s)) (intervals_in t))
            ∙ then_right (checked first 0 (intervals_in s)) (checked (first + length (intervals_in s)) (0 + length (intervals_in s)) (intervals_in t)) checks_both);
      })

  -- and its summary is the join of theirs
  pub summary_both : (l : LabelSettings) → joined_of (summary_at l first s) (summary_at l (behind first s) t) ≡ summary_at l first (s ++ t)
  summary_both l =
      ap (λ k. joined_of (summary_at l first s) (made_of l (first + k) (held t))) (sym (held_many first s left_sound))
      ∙ sym (join_made l first (held s) (held t))
      ∙ ap (made_of l first) (sym (held_both s t m e))

-- a cut is a whole number of records
pub uncut_whole : (c : Cut) → BetweenRecords c → (n : ℕ) × (length (uncut c) ≡ n * 48)
unfolding BetweenRecords uncut
uncut_whole (stretch settings s) h = h
uncut_whole (group a b) h =
    let p = uncut_whole a h.0 in
    let q = uncut_whole b h.1 in
    (p.0 + q.0, length-append (uncut a) (uncut b) ∙ omega (arith, p.1, q.1))

-- a record of 1,024 bytes stands where it was put
record_there : (out bs : List ℕ) (at : ℕ) → has_room (length out) at 1024 ≡ true → length bs ≡ 1024 → record_in (placed out at bs) at ≡ bs
unfolding placed
record_there out bs at room e =
    ap (take 1024) (drop_at (take at out) (bs ++ drop (at + length bs) out) at (length-take-le at out (omega (arith, room_within (length out) at 1024 room))))
    ∙ take_at bs (drop (at + length bs) out) 1024 e

-- the settings of a cut are valid
pub under_valid : (l : LabelSettings) (c : Cut) → Under l c → label_meets l ≡ true
unfolding Under
under_valid l (stretch settings s) u = ap label_meets (sym u.2) ∙ read_label settings u.0 u.1
under_valid l (group a b) u = under_valid l a u.0

-- what a call of `summary` leaves of sound records

stretch_made :
    (settings : List ℕ) (v : Settings) → settings_of settings ≡ Some v → (first : ℕ) (s : List ℕ) (n len at : ℕ) → length s ≡ n * 48 → Sound first s → has_room len at 1024 ≡ true →
    made settings first s len at ≡ Ok (summary_at v.label first s)
unfolding made count_of gathered
stretch_made settings v read first s n len at e h room =
    rw (read, room, eq-eqb (length s % 48) 0 (omega arith), le-ltb intervals first h.from, h.checks)

module _ (l : LabelSettings) where
  pub stretch_gives :
      (settings : List ℕ) (v : Settings) → settings_of settings ≡ Some v → v.label ≡ l → (first : ℕ) (s : List ℕ) (n : ℕ) → length s ≡ n * 48 → Sound first s →
      (bytes : List ℕ) (g : SummaryCalled settings first s bytes) → (bytes ≡ summary_bytes (summary_at l first s)) × (g.answer ≡ Ok tt)
  stretch_gives settings v read same first s n e h bytes g =
      let m = stretch_made settings v read first s n (length g.out) g.at e h g.room in (
        g.there
            ∙ ap (λ b. record_in b g.at) (g.contract.left ∙ ap (λ x. making.left_of x g.out g.at) m)
            ∙ record_there g.out (summary_bytes (summary_at v.label first s)) g.at g.room (length_summary (summary_at v.label first s))
            ∙ ap (λ k. summary_bytes (summary_at k first s)) same,
        g.contract.answered ∙ ap making.answer_of m,
      )

  module _ (valid : label_meets l ≡ true) where
    -- what a call of `join` leaves of two made ones that adjoin

    made_read : (first : ℕ) (s : List ℕ) → Sound first s → summary_of (summary_bytes (summary_at l first s)) ≡ Some (summary_at l first s)
    made_read first s h =
        made_reads_back l first (held s) valid (sound_facts first s h).valid (omega (arith, (sound_facts first s h).many, (sound_facts first s h).within))

    joined_gives :
        (first : ℕ) (s t : List ℕ) → Sound first s → Sound (behind first s) t → (left right : List ℕ) →
        left ≡ summary_bytes (summary_at l first s) → right ≡ summary_bytes (summary_at l (behind first s) t) → (bytes : List ℕ) (g : JoinCalled left right bytes) →
        (bytes ≡ summary_bytes (joined_of (summary_at l first s) (summary_at l (behind first s) t))) × (g.answer ≡ Ok tt)
    unfolding made_of
    joined_gives first s t h k left right el er bytes g =
        let a = summary_at l first s in
        let b = summary_at l (behind first s) t in
        let read_left : summary_of left ≡ Some a = ap summary_of el ∙ made_read first s h in
        let read_right : summary_of right ≡ Some b = ap summary_of er ∙ made_read (behind first s) t k in
        let w = always_written left right a b read_left read_right refl (ap (λ k. first + k) (held_many first s h)) g.out g.at g.room g.contract in (
          g.there ∙ ap (λ x. record_in x g.at) w.1 ∙ record_there g.out (summary_bytes (joined_of a b)) g.at g.room (length_summary (joined_of a b)),
          w.0,
        )

    -- however a sound sequence is cut and grouped
    pub cut_gives :
        (first : ℕ) (c : Cut) → BetweenRecords c → Under l c → Sound first (uncut c) → (bytes : List ℕ) (g : Gives first c bytes) →
        (bytes ≡ summary_bytes (summary_at l first (uncut c))) × NoneRefused first c bytes g
    unfolding BetweenRecords Under uncut Gives NoneRefused
    cut_gives first (stretch settings s) h u k bytes g = stretch_gives settings u.0 u.1 u.2 first s h.0 h.1 k bytes g
    cut_gives first (group a b) h u k bytes (left, right, x, y, j) =
        let p = uncut_whole a h.0 in
        let sound_left = left_sound first (uncut a) (uncut b) p.0 p.1 k in
        let sound_right = right_sound first (uncut a) (uncut b) p.0 p.1 k in
        let m = cut_gives first a h.0 u.0 sound_left left x in
        let n = cut_gives (behind first (uncut a)) b h.1 u.1 sound_right right y in
        let w = joined_gives first (uncut a) (uncut b) sound_left sound_right left right m.0 n.0 bytes j in
        (w.0 ∙ ap summary_bytes (summary_both first (uncut a) (uncut b) p.0 p.1 k l), (m.1, n.1, w.1))

-- what `summary` takes, wherever it is written: sound records

taken_checked : (l : LabelSettings) (first : ℕ) (s : List ℕ) (c : Result (Unit {0}) Refusal) → (Ok tt) ≡ making.answer_of (good_if c (summary_at l first s)) → c ≡ Ok tt
taken_checked l first s (Ok tt) e = refl
taken_checked l first s (Err r) e = let z : ◌≡◌ {A = ℕ} 0 1 = cc in absurd (omega arith)

taken_first :
    (l : LabelSettings) (first : ℕ) (s : List ℕ) (over : Bool) → ltb intervals first ≡ over →
    (Ok tt) ≡ making.answer_of (cond over (Err (refusal Fault.Field 0)) (gathered l first s)) → Sound first s
unfolding gathered
taken_first l first s true f e = let z : ◌≡◌ {A = ℕ} 0 1 = cc in absurd (omega arith)
taken_first l first s false f e = record { from = ltb-false intervals first f; checks = taken_checked l first s (checked first 0 (intervals_in s)) e }

taken_counted : (l : LabelSettings) (first : ℕ) (s : List ℕ) (n : Option ℕ) (room : Bool) → (Ok tt) ≡ making.answer_of (gathered_count l n room first s) → Sound first s
taken_counted l first s None room e = let z : ◌≡◌ {A = ℕ} 0 1 = cc in absurd (omega arith)
taken_counted l first s (Some n) false e = let z : ◌≡◌ {A = ℕ} 0 1 = cc in absurd (omega arith)
taken_counted l first s (Some n) true e = taken_first l first s (ltb intervals first) refl e

taken_read : (x : Option Settings) (room : Bool) (first : ℕ) (s : List ℕ) → (Ok tt) ≡ making.answer_of (gathered_settings x room first s) → Sound first s
taken_read None room first s e = let z : ◌≡◌ {A = ℕ} 0 1 = cc in absurd (omega arith)
taken_read (Some v) room first s e = taken_counted v.label first s (count_of (length s) 48) room e

pub taken : (settings : List ℕ) (first : ℕ) (s : List ℕ) (len at : ℕ) → (Ok tt) ≡ making.answer_of (made settings first s len at) → Sound first s
unfolding made
taken settings first s len at e = taken_read (settings_of settings) (has_room len at 1024) first s e
