-- Bytes that are cut behind a whole record: the records of both parts are those of the whole, and what stands behind the last whole record
-- is that of the second part.
-- Assumes nothing.
use mathlib.Core.Path.{◌≡◌, refl, ap, sym, ◌∙◌}
use mathlib.Core.List.{List, [], ◌∷◌, ◌++◌}
use Prim.Native.Nat.{ℕ, zero, suc, ◌+◌, ◌-◌, ◌*◌, ◌/◌, ◌≤◌, ◌<◌}
use native.Mathlib.Nat.{zero-add, add-zero, add-suc, suc-add, mul-add-div_right, mul-div_cancel, div-mul-le_self, add-mul}
use native.Mathlib.Omega.{arith}
use native.Mathlib.Decide.{dec_le}
use lib.ListN.{length, take, drop, length-append, length-drop, take-append-drop}
use lib.Seq.{drop-append-le, drop-append-add, take-append-le, length-take-le}
use Rattle.numbers.specs.Many.{record_at, read_each}
use Rattle.numbers.proofs.Parts.{record_there, record_missing, each_many}
use Rattle.intervals.specs.Interval.{interval_of}
use Rattle.intervals.specs.Sequence.{reads_from, intervals_in}
use Rattle.feeding.specs.Feeding.{rest_of}

-- the bytes of the whole records of s
unfoldable pub whole_of : List ℕ → List ℕ
whole_of s = take (length s / 48 * 48) s

pub cut : (s : List ℕ) → s ≡ whole_of s ++ rest_of s
unfolding whole_of rest_of
cut s = sym (take-append-drop (length s / 48 * 48) s)

pub whole_length : (s : List ℕ) → length (whole_of s) ≡ length s / 48 * 48
unfolding whole_of
whole_length s = length-take-le (length s / 48 * 48) s (div-mul-le_self (length s) 48)

pub rest_length : (s : List ℕ) → length (rest_of s) ≡ length s - length s / 48 * 48
unfolding rest_of
rest_length s = length-drop (length s / 48 * 48) s

pub rest_short : (s : List ℕ) → length (rest_of s) < 48
rest_short s = omega (arith, rest_length s)

pub rest_few : (s : List ℕ) → length s < 48 → rest_of s ≡ s
unfolding rest_of
rest_few s h = let e : length s / 48 ≡ 0 = omega arith in rw e

pub none_few : (s : List ℕ) → length s < 48 → intervals_in s ≡ []
unfolding intervals_in read_each
none_few s h = let e : length s / 48 ≡ 0 = omega arith in rw e

pub records_many : (s : List ℕ) → length (intervals_in s) ≡ length s / 48
unfolding intervals_in
records_many s = each_many interval_of 48 s (length s / 48) 0

-- so many records, and then so many more
reads_split : (m n : ℕ) (s : List ℕ) (k : ℕ) → reads_from (m + n) s k ≡ reads_from m s k ++ reads_from n s (k + m)
unfolding read_each
reads_split zero n s k = rw (zero-add n, add-zero k)
reads_split (suc m) n s k =
    rw (suc-add m n, add-suc k m)
    (ap (λ xs. interval_of (record_at s 48 k) ∷ xs) (reads_split m n s (suc k) ∙ ap (λ j. reads_from m s (suc k) ++ reads_from n s j) (suc-add k m)))

module _ (w : List ℕ) (m : ℕ) (e : length w ≡ m * 48) where
  count_both : (x : List ℕ) → length (w ++ x) / 48 ≡ m + length x / 48
  count_both x = ap (λ n. n / 48) (length-append w x ∙ ap (λ n. n + length x) e) ∙ mul-add-div_right (omega arith) m (length x)

  count_first : length w / 48 ≡ m
  count_first = ap (λ n. n / 48) e ∙ mul-div_cancel m (omega arith)

  at_first : (x : List ℕ) (k : ℕ) → k < m → record_at (w ++ x) 48 k ≡ record_at w 48 k
  at_first x k h =
      let f = count_first in
      let g = count_both x in
      let fits : k * 48 + 48 ≤ length w = omega arith in
      record_there (w ++ x) 48 k (omega arith) (omega arith)
      ∙ ap (take 48) (drop-append-le (k * 48) w x (omega arith))
      ∙ take-append-le 48 (drop (k * 48) w) x (simp length-drop (omega arith))
      ∙ sym (record_there w 48 k (omega arith) (omega arith))

  at_second : (x : List ℕ) (k : ℕ) → record_at (w ++ x) 48 (m + k) ≡ record_at x 48 k
  at_second x k =
      let g = count_both x in
      elim (dec_le (suc k) (length x / 48)) [
        | yes h ↦
            record_there (w ++ x) 48 (m + k) (omega arith) (omega arith)
            ∙ ap (take 48) (ap (λ i. drop i (w ++ x)) (add-mul m k 48 ∙ ap (λ i. i + k * 48) (sym e)) ∙ drop-append-add w x (k * 48))
            ∙ sym (record_there x 48 k (omega arith) h)
        | no h ↦ record_missing (w ++ x) 48 (m + k) (omega arith) (omega arith) ∙ sym (record_missing x 48 k (omega arith) (omega arith))
      ]

  reads_first : (n : ℕ) (x : List ℕ) (k : ℕ) → k + n ≤ m → reads_from n (w ++ x) k ≡ reads_from n w k
  unfolding read_each
  reads_first zero x k h = refl
  reads_first (suc n) x k h = rw (at_first x k (omega arith)) (ap (λ xs. interval_of (record_at w 48 k) ∷ xs) (reads_first n x (suc k) (omega arith)))

  reads_second : (n : ℕ) (x : List ℕ) (k : ℕ) → reads_from n (w ++ x) (m + k) ≡ reads_from n x k
  unfolding read_each
  reads_second zero x k = refl
  reads_second (suc n) x k =
      rw (at_second x k) (ap (λ xs. interval_of (record_at x 48 k) ∷ xs) (ap (reads_from n (w ++ x)) (sym (add-suc m k)) ∙ reads_second n x (suc k)))

  -- the records of both parts are those of the whole
  pub records_both : (x : List ℕ) → intervals_in (w ++ x) ≡ intervals_in w ++ intervals_in x
  unfolding intervals_in
  records_both x =
      ap (λ n. reads_from n (w ++ x) 0) (count_both x)
      ∙ reads_split m (length x / 48) (w ++ x) 0
      ∙ ap (λ k. reads_from m (w ++ x) 0 ++ reads_from (length x / 48) (w ++ x) k) (zero-add m)
      ∙ ap (λ xs. xs ++ reads_from (length x / 48) (w ++ x) m) (reads_first m x 0 (omega arith) ∙ ap (λ n. reads_from n w 0) (sym count_first))
      ∙ ap (λ xs. reads_from (length w / 48) w 0 ++ xs) (ap (reads_from (length x / 48) (w ++ x)) (sym (add-zero m)) ∙ reads_second (length x / 48) x 0)

  pub rest_second : (x : List ℕ) → rest_of (w ++ x) ≡ rest_of x
  unfolding rest_of
  rest_second x =
      ap (λ n. drop (n * 48) (w ++ x)) (count_both x)
      ∙ ap (λ i. drop i (w ++ x)) (add-mul m (length x / 48) 48 ∙ ap (λ i. i + length x / 48 * 48) (sym e))
      ∙ drop-append-add w x (length x / 48 * 48)
