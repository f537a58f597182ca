-- Laws of a number of several bytes that is small: it is 0 when all its bytes are 0, and it is a flag when its first byte is one and the others
-- are 0.
-- Assumes nothing.
use mathlib.Core.Path.{◌≡◌, refl, ap, sym, ◌∙◌}
use mathlib.Core.Bool.{Bool, ◌&&◌, and-true, and-false}
use mathlib.Core.List.{List}
use Prim.Native.Nat.{ℕ, zero, suc, ◌+◌, ◌*◌}
use native.Mathlib.Omega.{arith}
use lib.Dec.{eqb, leb, eqb-suc-zero}
use lib.ListN.{get_or}
use borrow.Author.Tests.{ne_eqb, lt-leb}
use Rattle.numbers.specs.Bytes.{number, part, number_at, are_zero}

both_zero : (b m : ℕ) → eqb b 0 && eqb m 0 ≡ eqb (b + 256 * m) 0
both_zero zero zero = refl
both_zero zero (suc m) = eqb-suc-zero m ∙ sym (ne_eqb (0 + 256 * suc m) 0 (λ h. omega arith))
both_zero (suc b) m = rw eqb-suc-zero (sym (ne_eqb (suc b + 256 * m) 0 (λ h. omega arith)))

flag_first : (b m : ℕ) → leb (b + 256 * m) 1 ≡ leb b 1 && eqb m 0
flag_first b zero = let e : b + 256 * 0 ≡ b = omega arith in rw e (sym (and-true (leb b 1)))
flag_first b (suc m) = rw eqb-suc-zero (lt-leb (b + 256 * suc m) 1 (omega arith) ∙ sym (and-false (leb b 1)))

pub zero_number : (w : ℕ) (s : List ℕ) (i : ℕ) → are_zero w s i ≡ eqb (number_at w s i) 0
unfolding are_zero number_at number part
zero_number zero s i = refl
zero_number (suc w) s i =
    ap (λ (z : Bool). eqb (get_or s i 0) 0 && z) (zero_number w s (suc i)) ∙ both_zero (get_or s i 0) (number (part w s (suc i)))

pub flag_number : (w : ℕ) (s : List ℕ) (i : ℕ) → leb (number_at (suc w) s i) 1 ≡ leb (get_or s i 0) 1 && are_zero w s (suc i)
unfolding number_at number part
flag_number w s i =
    flag_first (get_or s i 0) (number (part w s (suc i))) ∙ ap (λ (z : Bool). leb (get_or s i 0) 1 && z) (sym (zero_number w s (suc i)))
