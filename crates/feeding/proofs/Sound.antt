-- What the check of records says of two parts, of places further on, and of the intervals of a part that is sound.
-- Assumes nothing.
use mathlib.Core.Path.{◌≡◌, refl, ap, sym, ◌∙◌}
use mathlib.Core.Bool.{Bool, true, false}
use mathlib.Core.List.{List, [], ◌∷◌, ◌++◌}
use Prim.Native.Nat.{ℕ, zero, suc, ◌+◌, ◌/◌, ◌≤◌, ◌<◌}
use native.Mathlib.Nat.{add-zero, add-suc, suc-add}
use native.Mathlib.Omega.{arith}
use lib.ListN.{length}
use lib.Dec.{eqb}
use borrow.Author.Tests.{eqb-true}
use Rattle.std.specs.Prelude.{Option, Some, None, Result, Ok, Err}
use Rattle.numbers.specs.Limits.{intervals}
use Rattle.numbers.specs.Many.{record_at, read_each}
use Rattle.numbers.specs.Refusals.{refusal}
use Rattle.numbers.specs.declared.refusal.Fault.{Fault}
use Rattle.numbers.specs.declared.refusal.Refusal.{Refusal}
use Rattle.intervals.specs.Interval.{interval_of}
use Rattle.intervals.specs.Sequence.{reads_from, intervals_in, checked, ordered_if}
use Rattle.intervals.proofs.IntervalRecord.{interval_valid}
use Rattle.labels.specs.Stretch.{intervals_of}
use Rattle.tallies.proofs.Valid.{AllValid}
use Rattle.intervals.specs.declared.Interval.{Interval}

-- the check of a second part, where the first is sound
abbrev pub then_if : Result (Unit {0}) Refusal → Result (Unit {0}) Refusal → Result (Unit {0}) Refusal
then_if (Ok tt) rest = rest
then_if (Err r) rest = Err r

either_then : (b : Bool) (place : ℕ) (x y : Result (Unit {0}) Refusal) → ordered_if b place (then_if x y) ≡ then_if (ordered_if b place x) y
either_then true place x y = refl
either_then false place x y = refl

pub checked_both :
    (next place : ℕ) (xs ys : List (Option Interval)) →
    checked next place (xs ++ ys) ≡ then_if (checked next place xs) (checked (next + length xs) (place + length xs) ys)
unfolding checked
checked_both next place [] ys = rw (add-zero, add-zero)
checked_both next place (None ∷ xs) ys = refl
checked_both next place (Some v ∷ xs) ys =
    rw (add-suc next (length xs), add-suc place (length xs), ← suc-add next (length xs), ← suc-add place (length xs))
    (ap (ordered_if (eqb v.number next) place) (checked_both (suc next) (suc place) xs ys)
    ∙ either_then (eqb v.number next) place (checked (suc next) (suc place) xs) (checked (suc next + length xs) (suc place + length xs) ys))

pub intervals_both : (xs ys : List (Option Interval)) → intervals_of (xs ++ ys) ≡ intervals_of xs ++ intervals_of ys
unfolding intervals_of
intervals_both [] ys = refl
intervals_both (Some v ∷ xs) ys = ap (λ vs. v ∷ vs) (intervals_both xs ys)
intervals_both (None ∷ xs) ys = intervals_both xs ys

-- places further on

abbrev pub moved_by : ℕ → Result (Unit {0}) Refusal → Result (Unit {0}) Refusal
moved_by by (Ok tt) = Ok tt
moved_by by (Err r) = Err (refusal r.fault (r.place + by))

either_moved : (b : Bool) (place by : ℕ) (x : Result (Unit {0}) Refusal) → ordered_if b (place + by) (moved_by by x) ≡ moved_by by (ordered_if b place x)
either_moved true place by x = refl
either_moved false place by x = refl

pub checked_moved : (next place by : ℕ) (xs : List (Option Interval)) → checked next (place + by) xs ≡ moved_by by (checked next place xs)
unfolding checked
checked_moved next place by [] = refl
checked_moved next place by (None ∷ xs) = refl
checked_moved next place by (Some v ∷ xs) =
    ap (λ x. ordered_if (eqb v.number next) (place + by) x) (ap (λ k. checked (suc next) k xs) (sym (suc-add place by)) ∙ checked_moved (suc next) (suc place) by xs)
    ∙ either_moved (eqb v.number next) place by (checked (suc next) (suc place) xs)

-- the place of a fault is among the records
pub fault_among : (next place : ℕ) (xs : List (Option Interval)) (r : Refusal) → checked next place xs ≡ Err r → r.place < place + length xs
unfolding checked
fault_among next place [] r e = let z : ◌≡◌ {A = ℕ} 0 1 = cc in absurd (omega arith)
fault_among next place (None ∷ xs) r e = let f : refusal Fault.Field place ≡ r = cc in omega (arith, ap (λ q. q.place) f)
fault_among next place (Some v ∷ xs) r e = by (eqb v.number next) (fault_among (suc next) (suc place) xs r) e
  where
    by :
        (b : Bool) → (checked (suc next) (suc place) xs ≡ Err r → r.place < suc place + length xs) →
        ordered_if b place (checked (suc next) (suc place) xs) ≡ Err r → r.place < place + suc (length xs)
    by true rest f = omega (arith, rest f)
    by false rest f = let g : refusal Fault.Order place ≡ r = cc in omega (arith, ap (λ q. q.place) g)

-- a sound part: as many intervals as records, all of them valid, and none is numbered beyond the last

ordered : (b : Bool) (place : ℕ) (rest : Result (Unit {0}) Refusal) → ordered_if b place rest ≡ Ok tt → (b ≡ true) × (rest ≡ Ok tt)
ordered true place rest e = (refl, e)
ordered false place rest e = let z : ◌≡◌ {A = ℕ} 0 1 = cc in absurd (omega arith)

pub record SoundPart (next : ℕ) (xs : List (Option Interval)) : Type 0 where
  pub many : length (intervals_of xs) ≡ length xs
  pub valid : AllValid (intervals_of xs)
  pub within : next + length xs ≤ intervals

pub sound_part :
    (next place n : ℕ) (s : List ℕ) (k : ℕ) → next ≤ intervals → checked next place (reads_from n s k) ≡ Ok tt → SoundPart next (reads_from n s k)
unfolding checked read_each intervals_of AllValid
sound_part next place zero s k h e = record { many = refl; valid = tt; within = omega arith }
sound_part next place (suc n) s k h e = by (interval_of (record_at s 48 k)) (sound_part (suc next) (suc place) n s (suc k)) refl e
  where
    by :
        (x : Option Interval) →
        (suc next ≤ intervals → checked (suc next) (suc place) (reads_from n s (suc k)) ≡ Ok tt → SoundPart (suc next) (reads_from n s (suc k))) →
        interval_of (record_at s 48 k) ≡ x → checked next place (x ∷ reads_from n s (suc k)) ≡ Ok tt → SoundPart next (x ∷ reads_from n s (suc k))
    by None rest f g = let z : ◌≡◌ {A = ℕ} 0 1 = cc in absurd (omega arith)
    by (Some v) rest f g =
        let o = ordered (eqb v.number next) place (checked (suc next) (suc place) (reads_from n s (suc k))) g in
        let w = interval_valid (record_at s 48 k) v f in
        let r = rest (omega (arith, w.number_fact, eqb-true v.number next o.0)) o.1 in
        record { many = ap suc r.many; valid = (w, r.valid); within = omega (arith, r.within) }

pub sound_whole : (s : List ℕ) → checked 0 0 (intervals_in s) ≡ Ok tt → SoundPart 0 (intervals_in s)
unfolding intervals_in
sound_whole s e = sound_part 0 0 (length s / 48) s 0 (omega arith) e
