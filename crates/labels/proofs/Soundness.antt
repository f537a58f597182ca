-- A sequence of records that was checked and found sound holds valid intervals only: each is there to be read again.
use mathlib.Core.Path.{◌≡◌, refl, sym, ap, ◌∙◌}
use mathlib.Core.Bool.{Bool, true, false}
use mathlib.Core.List.{List, [], ◌∷◌, map}
use Prim.Native.Nat.{ℕ, zero, suc, ◌+◌, ◌/◌, ◌<◌}
use native.Mathlib.Omega.{arith}
use native.Mathlib.Nat.{add-zero, add-suc, suc-add, zero-add}
use lib.Dec.{eqb}
use lib.ListN.{length, get_or, length-map}
use Rattle.std.specs.Prelude.{Option, Some, None, Result, Ok}
use Rattle.numbers.specs.Many.{record_at, read_each}
use Rattle.numbers.proofs.Parts.{each_many}
use Rattle.intervals.specs.Interval.{interval_of}
use Rattle.intervals.specs.Sequence.{reads_from, intervals_in, checked, ordered_if}
use Rattle.intervals.specs.declared.Interval.{Interval}
use Rattle.labels.specs.Stretch.{intervals_of}
use Rattle.numbers.specs.declared.refusal.Refusal.{Refusal}

-- where the number is the next, the rest decides
pub sound_rest : (b : Bool) (place : ℕ) (rest : Result (Unit {0}) Refusal) → ordered_if b place rest ≡ Ok tt → rest ≡ Ok tt
sound_rest true place rest e = e
sound_rest false place rest e = cc

-- all that was read is valid
pub sound_all : (next place : ℕ) (xs : List (Option Interval)) → checked next place xs ≡ Ok tt → xs ≡ map Some (intervals_of xs)
unfolding checked intervals_of
sound_all next place [] e = refl
sound_all next place (None ∷ xs) e = cc
sound_all next place (Some v ∷ xs) e =
    ap (λ (ys : List (Option Interval)). Some v ∷ ys)
    (sound_all (suc next) (suc place) xs (sound_rest (eqb v.number next) place (checked (suc next) (suc place) xs) e))

reads_at : (m : ℕ) (s : List ℕ) (j k : ℕ) → k < m → get_or (reads_from m s j) k None ≡ interval_of (record_at s 48 (j + k))
unfolding read_each
reads_at zero s j k h = absurd (omega arith)
reads_at (suc m) s j zero h = rw add-zero
reads_at (suc m) s j (suc k) h = rw (add-suc, ← suc-add) (reads_at m s (suc j) k (omega arith))

-- as many intervals as whole records
pub sound_length : (s : List ℕ) → checked 0 0 (intervals_in s) ≡ Ok tt → length (intervals_of (intervals_in s)) ≡ length s / 48
unfolding intervals_in
sound_length s e =
    sym (length-map (intervals_of (intervals_in s)) Some) ∙ ap length (sym (sound_all 0 0 (intervals_in s) e)) ∙ each_many interval_of 48 s (length s / 48) 0

get_or_valid : (vs : List Interval) (k : ℕ) → k < length vs → (d : Interval) → get_or (map Some vs) k None ≡ Some (get_or vs k d)
get_or_valid [] k h d = absurd (omega arith)
get_or_valid (v ∷ vs) zero h d = refl
get_or_valid (v ∷ vs) (suc k) h d = get_or_valid vs k (omega arith) d

-- the k-th record says the k-th interval
pub sound_at :
    (s : List ℕ) → checked 0 0 (intervals_in s) ≡ Ok tt → (k : ℕ) → k < length s / 48 → (d : Interval) →
    interval_of (record_at s 48 k) ≡ Some (get_or (intervals_of (intervals_in s)) k d)
unfolding intervals_in
sound_at s e k h d =
    sym (rw zero-add at (reads_at (length s / 48) s 0 k h))
    ∙ ap (λ (xs : List (Option Interval)). get_or xs k None) (sound_all 0 0 (intervals_in s) e)
    ∙ get_or_valid (intervals_of (intervals_in s)) k (rw (sound_length s e) h) d

-- so the k-th record is valid
pub sound_kth : (s : List ℕ) → checked 0 0 (intervals_in s) ≡ Ok tt → (k : ℕ) → k < length s / 48 → (v : Interval) × (interval_of (record_at s 48 k) ≡ Some v)
sound_kth s e k h = (get_or (intervals_of (intervals_in s)) k none, sound_at s e k h none)
  where
    none : Interval
    none = record { number = 0; sent = 0; lost = 0; late = 0; pairs = 0; jumpy = 0; sum = 0; least = 0; most = 0; maintenance = false }
