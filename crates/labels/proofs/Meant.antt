-- Demand 2 for the label bytes: each byte is 01's label of its interval on its track, for every continuation, or 2 where two of them differ.
-- Of known intervals that is `label_bytes_settle`; of the operation `labels` itself, from the bytes lent to those left, `labels_written`.
use mathlib.Core.Path.{◌≡◌, refl, ap, sym, ◌∙◌}
use mathlib.Core.Bool.{Bool, true, false, cond}
use mathlib.Core.List.{List, [], ◌∷◌, map}
use Prim.Native.Nat.{ℕ, zero, suc, ◌+◌, ◌*◌, ◌/◌, ◌%◌, ◌≤◌, ◌<◌}
use native.Mathlib.Nat.{add-zero, zero-add}
use native.Mathlib.Omega.{arith}
use lib.Dec.{eqb}
use lib.ListN.{length, get_or, length-map}
use borrow.Author.Tests.{eqb-true}
use Rattle.std.specs.Prelude.{Option, Some, None, Result, Ok, Err}
use Rattle.numbers.specs.Bytes.{placed}
use Rattle.numbers.specs.Many.{count_of, whole_if}
use Rattle.numbers.specs.Room.{has_room}
use Rattle.numbers.specs.declared.refusal.Fault.{Fault}
use Rattle.numbers.specs.declared.refusal.Refusal.{Refusal}
use Rattle.settings.specs.Settings.{label_meets, settings_of}
use Rattle.settings.specs.declared.LabelSettings.{LabelSettings}
use Rattle.settings.specs.declared.Settings.{Settings}
use Rattle.settings.proofs.SettingsRecord.{label_valid}
use Rattle.intervals.specs.Sequence.{intervals_in, checked, ordered_if}
use Rattle.intervals.specs.declared.Interval.{Interval}
use Rattle.rule.specs.Evaluator.{labelling}
use Rattle.rule.specs.Labels.{Label, undecided, Meaning}
use Rattle.rule.proofs.Labelling.{labels_settle, labels_length, meaning_one}
use Rattle.labels.specs.Marked.{loss_mark, composite_mark}
use Rattle.labels.specs.Stretch.{label_byte, side_by_side, label_bytes, intervals_of, Outcome, outcome, refuse, when_checked, when_counted, when_read, labels_of}
use Rattle.labels.proofs.Placing.{label_bytes_length, read_label}
use Rattle.labels.proofs.Soundness.{sound_rest, sound_all, sound_length}

-- a byte that is the label of interval k
pub record Meant (n : ℕ) (ms : List Bool) (k byte : ℕ) : Type 0 where
  pub label : Label
  pub byte_of : byte ≡ label_byte label
  pub meant : Meaning n ms k label

sides_at :
    (as' bs : List Label) (k : ℕ) → length bs ≡ length as' → k < length as' →
    (get_or (side_by_side as' bs) (2 * k + 0) 0 ≡ label_byte (get_or as' k undecided)) × (get_or (side_by_side as' bs) (2 * k + 1) 0 ≡ label_byte (get_or bs k undecided))
unfolding side_by_side
sides_at [] bs k e h = absurd (omega arith)
sides_at (a ∷ as') [] k e h = absurd (omega arith)
sides_at (a ∷ as') (b ∷ bs) zero e h = (refl, refl)
sides_at (a ∷ as') (b ∷ bs) (suc k) e h =
    let low : 2 * suc k + 0 ≡ suc (suc (2 * k + 0)) = omega arith in
    let high : 2 * suc k + 1 ≡ suc (suc (2 * k + 1)) = omega arith in
    rw (low, high) (sides_at as' bs k (omega arith) (omega arith))

-- both bytes of each interval
pub label_bytes_settle :
    (l : LabelSettings) (vs : List Interval) → label_meets l ≡ true → (k : ℕ) → k < length vs →
    Meant l.n (map (loss_mark l) vs) k (get_or (label_bytes l vs) (2 * k + 0) 0) × Meant l.n (map (composite_mark l) vs) k (get_or (label_bytes l vs) (2 * k + 1) 0)
unfolding label_bytes
label_bytes_settle l vs h k p = (
  record { label = get_or (labelling l.n ms) k undecided; byte_of = at.0; meant = labels_settle l.n ms some k },
  record { label = get_or (labelling l.n os) k undecided; byte_of = at.1; meant = labels_settle l.n os some k },
)
  where
    some : 1 ≤ l.n
    some = (label_valid l h).n_facts.0

    ms : List Bool
    ms = map (loss_mark l) vs

    os : List Bool
    os = map (composite_mark l) vs

    long : length (labelling l.n ms) ≡ length vs
    long = labels_length l.n ms ∙ length-map vs (loss_mark l)

    also : length (labelling l.n os) ≡ length vs
    also = labels_length l.n os ∙ length-map vs (composite_mark l)

    at : (get_or (side_by_side (labelling l.n ms) (labelling l.n os)) (2 * k + 0) 0 ≡ label_byte (get_or (labelling l.n ms) k undecided)) × (get_or (side_by_side (labelling l.n ms) (labelling l.n os)) (2 * k + 1) 0 ≡ label_byte (get_or (labelling l.n os) k undecided))
    at = sides_at (labelling l.n ms) (labelling l.n os) k (also ∙ sym long) (rw long p)

-- and an interval's byte can be no other
pub meant_one : (n : ℕ) (ms : List Bool) (k a b : ℕ) → Meant n ms k a → Meant n ms k b → a ≡ b
meant_one n ms k a b p q = rw (p.byte_of, q.byte_of, meaning_one n ms k p.label q.label p.meant q.meant)

-- What `labels` has done where it answers that it wrote: the settings are valid; each record is a valid interval, numbered from 0; the buffer is
-- as it was but for two bytes for each interval from the offset on, and these are its labels by the marks of all the intervals.
pub record Written (s r out : List ℕ) (at : ℕ) (after : List ℕ) : Type 0 where
  pub settings : Settings
  pub settings_read : settings_of s ≡ Some settings
  pub intervals : List Interval
  pub whole : length r ≡ length intervals * 48
  pub each_read : intervals_in r ≡ map Some intervals
  pub numbered : (k : ℕ) → k < length intervals → get_or (map (λ v. v.number) intervals) k 0 ≡ k
  pub bytes : List ℕ
  pub two_each : length bytes ≡ 2 * length intervals
  pub left : after ≡ placed out at bytes
  pub loss_meant : (k : ℕ) → k < length intervals → Meant settings.label.n (map (loss_mark settings.label) intervals) k (get_or bytes (2 * k) 0)
  pub composite_meant : (k : ℕ) → k < length intervals → Meant settings.label.n (map (composite_mark settings.label) intervals) k (get_or bytes (2 * k + 1) 0)

ordered_true : (b : Bool) (place : ℕ) (rest : Result (Unit {0}) Refusal) → ordered_if b place rest ≡ Ok tt → b ≡ true
ordered_true true place rest e = refl
ordered_true false place rest e = cc

-- sound records are numbered one after the other
sound_numbers :
    (next place : ℕ) (xs : List (Option Interval)) → checked next place xs ≡ Ok tt → (k : ℕ) → k < length (intervals_of xs) → get_or (map (λ v. v.number) (intervals_of xs)) k 0 ≡ next + k
unfolding checked intervals_of
sound_numbers next place [] e k h = absurd (omega arith)
sound_numbers next place (None ∷ xs) e k h = cc
sound_numbers next place (Some v ∷ xs) e zero h =
    omega (arith, eqb-true v.number next (ordered_true (eqb v.number next) place (checked (suc next) (suc place) xs) e))
sound_numbers next place (Some v ∷ xs) e (suc k) h =
    omega (arith, sound_numbers (suc next) (suc place) xs (sound_rest (eqb v.number next) place (checked (suc next) (suc place) xs) e) k (omega arith))

-- what is refused is not written
not_refused : {P : Type 0} {after out : List ℕ} {x : Refusal} → outcome (Ok tt) after ≡ outcome (Err x) out → P
not_refused e = let told = ap (λ (o : Outcome). o.answer) e in absurd (cc told)

-- each test of the operation was passed, from the last one to the first
module _ (s r out : List ℕ) (at : ℕ) (after : List ℕ) where
  module _ (v : Settings) (read : settings_of s ≡ Some v) where
    vs : List Interval
    vs = intervals_of (intervals_in r)

    by_records : length r % 48 ≡ 0 → (c : Result (Unit {0}) Refusal) → checked 0 0 (intervals_in r) ≡ c → outcome (Ok tt) after ≡ when_checked v.label r out at c → Written s r out at after
    unfolding vs
    by_records whole (Err x) sound e = not_refused e
    by_records whole (Ok tt) sound e =
        let settle = label_bytes_settle v.label vs (read_label s v read) in
        record {
          settings = v;
          settings_read = read;
          intervals = vs;
          whole = omega (arith, sound_length r sound);
          each_read = sound_all 0 0 (intervals_in r) sound;
          numbered = λ k h. sound_numbers 0 0 (intervals_in r) sound k h ∙ zero-add k;
          bytes = label_bytes v.label vs;
          two_each = label_bytes_length v.label vs;
          left = ap (λ (o : Outcome). o.buffer) e;
          loss_meant = λ k h. rw add-zero at (settle k h).0;
          composite_meant = λ k h. (settle k h).1;
        }

    by_room :
        length r % 48 ≡ 0 → (room : Bool) →
        outcome (Ok tt) after ≡ cond room (when_checked v.label r out at (checked 0 0 (intervals_in r))) (refuse Fault.Room out) → Written s r out at after
    by_room whole false e = not_refused e
    by_room whole true e = by_records whole (checked 0 0 (intervals_in r)) refl e

    by_count : (z : Bool) → eqb (length r % 48) 0 ≡ z → outcome (Ok tt) after ≡ when_counted v.label r out at (whole_if z (length r / 48)) → Written s r out at after
    by_count false h e = not_refused e
    by_count true h e = by_room (eqb-true (length r % 48) 0 h) (has_room (length out) at (2 * (length r / 48))) e

  by_settings : (x : Option Settings) → settings_of s ≡ x → outcome (Ok tt) after ≡ when_read r out at x → Written s r out at after
  unfolding count_of
  by_settings None h e = not_refused e
  by_settings (Some v) h e = by_count v h (eqb (length r % 48) 0) refl e

  -- the contract of `labels`, where it answers that it wrote
  pub labels_written : outcome (Ok tt) after ≡ labels_of s r out at → Written s r out at after
  unfolding labels_of
  labels_written e = by_settings (settings_of s) refl e
