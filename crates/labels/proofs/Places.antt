-- Where a refusal of `labels` stands: no further than record 3,000,000, since a record before it is valid and has its index for its number.
use mathlib.Core.Path.{◌≡◌, refl, ap, ◌∙◌}
use mathlib.Core.Bool.{Bool, true, false, cond}
use mathlib.Core.List.{List, ◌∷◌}
use Prim.Native.Nat.{ℕ, zero, suc, ◌+◌, ◌*◌, ◌/◌, ◌≤◌}
use native.Mathlib.Omega.{arith}
use lib.Dec.{eqb}
use lib.ListN.{length}
use borrow.Author.Tests.{eqb-true}
use Rattle.std.specs.Prelude.{Option, Some, None, Result, Ok, Err}
use Rattle.numbers.specs.Limits.{intervals}
use Rattle.numbers.specs.Many.{record_at, count_of, read_each}
use Rattle.numbers.specs.Refusals.{refusal}
use Rattle.numbers.specs.Room.{has_room}
use Rattle.numbers.specs.declared.refusal.Fault.{Fault}
use Rattle.numbers.specs.declared.refusal.Refusal.{Refusal}
use Rattle.settings.specs.Settings.{settings_of}
use Rattle.settings.specs.declared.LabelSettings.{LabelSettings}
use Rattle.intervals.specs.Interval.{interval_of}
use Rattle.intervals.specs.Sequence.{reads_from, intervals_in, checked, ordered_if}
use Rattle.intervals.proofs.IntervalRecord.{interval_valid}
use Rattle.labels.specs.Stretch.{when_checked, when_counted, when_read, labels_of}
use Rattle.settings.specs.declared.Settings.{Settings}
use Rattle.intervals.specs.declared.Interval.{Interval}

refused_place : (f : Fault) (k : ℕ) (x : Refusal) → ◌≡◌ {A = Result (Unit {0}) Refusal} (Err (refusal f k)) (Err x) → x.place ≡ k
refused_place f k x e = cc

-- each good record brings the next number nearer to the last
pub checked_place : (m : ℕ) (s : List ℕ) (j next place : ℕ) (x : Refusal) → next ≤ intervals → checked next place (reads_from m s j) ≡ Err x → x.place + next ≤ place + intervals
unfolding checked read_each
checked_place zero s j next place x h e = absurd (never e)
  where
    never : ◌≡◌ {A = Result (Unit {0}) Refusal} (Ok tt) (Err x) → ⊥
    never e = cc
checked_place (suc m) s j next place x h e = by (interval_of (record_at s 48 j)) refl e (checked_place m s (suc j) (suc next) (suc place) x)
  where
    by :
        (i : Option Interval) → interval_of (record_at s 48 j) ≡ i → checked next place (i ∷ reads_from m s (suc j)) ≡ Err x →
        (suc next ≤ intervals → checked (suc next) (suc place) (reads_from m s (suc j)) ≡ Err x → x.place + suc next ≤ suc place + intervals) → x.place + next ≤ place + intervals
    by None f e further = omega (arith, refused_place Fault.Field place x e)
    by (Some v) f e further = ordered (eqb v.number next) refl e
      where
        ordered : (z : Bool) → eqb v.number next ≡ z → ordered_if z place (checked (suc next) (suc place) (reads_from m s (suc j))) ≡ Err x → x.place + next ≤ place + intervals
        ordered true g e = omega (arith, further (omega (arith, eqb-true v.number next g, (interval_valid (record_at s 48 j) v f).number_fact)) e)
        ordered false g e = omega (arith, refused_place Fault.Order place x e)

-- a refusal of `labels`
pub labels_place : (s r out : List ℕ) (at : ℕ) (x : Refusal) → (labels_of s r out at).answer ≡ Err x → x.place ≤ intervals
unfolding labels_of intervals_in
labels_place s r out at x e = read (settings_of s) e
  where
    no_place : (f : Fault) → ◌≡◌ {A = Result (Unit {0}) Refusal} (Err (refusal f 0)) (Err x) → x.place ≤ intervals
    no_place f e = let none : x.place ≡ 0 = cc in omega arith

    checks : (l : LabelSettings) (c : Result (Unit {0}) Refusal) → checked 0 0 (intervals_in r) ≡ c → (when_checked l r out at c).answer ≡ Err x → x.place ≤ intervals
    checks l (Ok _) f e = absurd cc
    checks l (Err y) f e =
        let same : y ≡ x = cc in
        omega (arith, checked_place (length r / 48) r 0 0 0 x (omega arith) (f ∙ ap Err same))

    room : (l : LabelSettings) (n : ℕ) (z : Bool) → (cond z (when_checked l r out at (checked 0 0 (intervals_in r))) (record { answer = Err (refusal Fault.Room 0); buffer = out })).answer ≡ Err x → x.place ≤ intervals
    room l n true e = checks l (checked 0 0 (intervals_in r)) refl e
    room l n false e = no_place Fault.Room e

    counted : (l : LabelSettings) (c : Option ℕ) → (when_counted l r out at c).answer ≡ Err x → x.place ≤ intervals
    counted l (Some n) e = room l n (has_room (length out) at (2 * n)) e
    counted l None e = no_place Fault.Length e

    read : (c : Option Settings) → (when_read r out at c).answer ≡ Err x → x.place ≤ intervals
    read (Some v) e = counted v.label (count_of (length r) 48) e
    read None e = no_place Fault.Settings e
