-- Laws of bytes that are 0: one more byte is one more test, and zeros are the bytes of 0.
-- Assumes nothing.
use mathlib.Core.Path.{◌≡◌, refl, ap, sym}
use mathlib.Core.Bool.{true, ◌&&◌, and-true, and_assoc, and-eq-true_iff}
use mathlib.Core.List.{List, ◌∷◌}
use Prim.Native.Nat.{ℕ, zero, suc, ◌+◌}
use native.Mathlib.Omega.{arith}
use native.Mathlib.Nat.{add-zero}
use lib.ListN.{get_or, replicate}
use lib.Dec.{eqb}
use borrow.Author.Tests.{eqb-true}
use Rattle.numbers.specs.Bytes.{are_zero, bytes_of, part}

-- zeros are the bytes of 0
pub zero_bytes : (w : ℕ) (s : List ℕ) (i : ℕ) → are_zero w s i ≡ true → bytes_of w 0 ≡ part w s i
unfolding are_zero bytes_of part
zero_bytes zero s i e = refl
zero_bytes (suc w) s i e =
    let b = (and-eq-true_iff (eqb (get_or s i 0) 0) (are_zero w s (suc i))).0 e in
    let z : get_or s i 0 ≡ 0 = eqb-true (get_or s i 0) 0 b.0 in
    rw z (ap (λ (l : List ℕ). 0 ∷ l) (zero_bytes w s (suc i) b.1))

-- one byte more
pub zero_last : (k : ℕ) (s : List ℕ) (i : ℕ) → are_zero (k + 1) s i ≡ are_zero k s i && eqb (get_or s (i + k) 0) 0
unfolding are_zero
zero_last zero s i = rw (add-zero i) (and-true (eqb (get_or s i 0) 0))
zero_last (suc k) s i =
    let step : suc k + 1 ≡ suc (k + 1) = omega arith in
    let place : i + suc k ≡ suc i + k = omega arith in
    rw (step, place, zero_last k s (suc i)) (sym (and_assoc (eqb (get_or s i 0) 0) (are_zero k s (suc i)) (eqb (get_or s (suc i + k) 0) 0)))

-- as many zeros
pub zeros_replicated : (k : ℕ) → replicate k 0 ≡ bytes_of k 0
unfolding bytes_of
zeros_replicated zero = refl
zeros_replicated (suc k) = ap (λ (l : List ℕ). 0 ∷ l) (zeros_replicated k)
