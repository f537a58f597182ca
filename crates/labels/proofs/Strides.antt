-- Every second byte set: what stands at the places set and at the others, and the loop that sets them one by one.
use mathlib.Core.Path.{◌≡◌, refl, ◌∙◌}
use Prim.Native.Nat.{ℕ, zero, suc, ◌+◌, ◌*◌, ◌-◌, ◌≤◌, ◌<◌}
use mathlib.Core.List.{List}
use native.Mathlib.Omega.{arith}
use native.Mathlib.Nat.{add-zero}
use lib.ListN.{length, get_or, set, length-set}
use lib.Seq.{get_or-set_same, get_or-set_other}
use Rattle.labels.specs.Stretch.{strided}

pub length_strided : (l : List ℕ) (from c x : ℕ) → length (strided l from c x) ≡ length l
unfolding strided
length_strided l from zero x = refl
length_strided l from (suc c) x = length_strided (set l from x) (from + 2) c x ∙ length-set l from x

-- a place that is not set stays
pub strided_out : (l : List ℕ) (from c x j : ℕ) → ((i : ℕ) → i < c → j ≡ from + 2 * i → ⊥) → get_or (strided l from c x) j 0 ≡ get_or l j 0
unfolding strided
strided_out l from zero x j h = refl
strided_out l from (suc c) x j h =
    strided_out (set l from x) (from + 2) c x j (λ i p e. h (suc i) (omega arith) (omega arith))
    ∙ get_or-set_other l from j x 0 (λ e. h 0 (omega arith) (omega arith))

-- a place that is set
pub strided_in : (l : List ℕ) (from c x i : ℕ) → from + 2 * c ≤ length l + 1 → i < c → get_or (strided l from c x) (from + 2 * i) 0 ≡ x
unfolding strided
strided_in l from zero x i h p = absurd (omega arith)
strided_in l from (suc c) x zero h p =
    strided_out (set l from x) (from + 2) c x (from + 2 * 0) (λ i q e. omega arith)
    ∙ rw add-zero (get_or-set_same l from x 0 (omega arith))
strided_in l from (suc c) x (suc i) h p =
    let e : from + 2 * suc i ≡ from + 2 + 2 * i = omega arith in
    rw e (strided_in (set l from x) (from + 2) c x i (rw length-set (omega arith)) (omega arith))

-- the loop: one place more
pub strided_next :
    (l : List ℕ) (from c x j : ℕ) → j < c →
    strided l (from + 2 * j) (c - j) x ≡ strided (set l (from + 2 * j) x) (from + 2 * (j + 1)) (c - (j + 1)) x
unfolding strided
strided_next l from c x j h =
    let e : c - j ≡ suc (c - (j + 1)) = omega arith in
    let f : from + 2 * (j + 1) ≡ from + 2 * j + 2 = omega arith in
    rw (e, f)

pub strided_start : (l : List ℕ) (from c x : ℕ) → strided l from c x ≡ strided l (from + 2 * 0) (c - 0) x
strided_start l from c x =
    let e : from + 2 * 0 ≡ from = omega arith in
    let f : c - 0 ≡ c = omega arith in
    rw (e, f)

pub strided_none : (l : List ℕ) (from x : ℕ) {c : ℕ} → c ≡ 0 → strided l from c x ≡ l
unfolding strided
strided_none l from x e = rw e
