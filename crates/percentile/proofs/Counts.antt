-- Laws on the number of listed delays that pass a test. A loop over a list knows its counts by what is left of the list (`count_step`);
-- everything else compares two tests at one delay and adds up over the list.
use Rattle.std.proofs.Common.{◌≡◌, ℕ, suc, ◌+◌, ◌<◌, ◌≤◌, Bool, true, false, eqb, ltb, leb, List, [], ◌∷◌, length, get_or, drop, set, refl, zero-le, add-one, arith, drop-cons, get_or-set_other, get_or-set_same, le-ltb, lt-ltb, eqb-true, le-leb}
use native.Mathlib.Decide.{dec_le, dec_lt}
use borrow.Author.Tests.{lt-leb, eqb-false}
use Rattle.percentile.specs.Percentile.{hit, how_many, at_most}
use Rattle.percentile.specs.Ranks.{below}

-- the delay at i is counted first in what is left from i on
pub count_step : (f : ℕ → Bool) (xs : List ℕ) (i : ℕ) → i < length xs
    → how_many f (drop i xs) ≡ hit (f (get_or xs i 0)) + how_many f (drop (i + 1) xs)
unfolding how_many
count_step f xs i h = rw (add-one, drop-cons xs i 0)

pub count_none : (f : ℕ → Bool) (xs : List ℕ) → how_many f (drop (length xs) xs) ≡ 0
unfolding how_many
count_none f [] = refl
count_none f (x ∷ xs) = count_none f xs

pub hit_le_one : (b : Bool) → hit b ≤ 1
hit_le_one true = omega arith
hit_le_one false = omega arith

-- no more pass than are listed
pub count_le : (f : ℕ → Bool) (xs : List ℕ) → how_many f xs ≤ length xs
unfolding how_many
count_le f [] = zero-le
count_le f (x ∷ xs) = omega (arith, hit_le_one (f x), count_le f xs)

-- a test that passes wherever another does counts no fewer
pub count_mono : (f g : ℕ → Bool) → ((x : ℕ) → hit (f x) ≤ hit (g x)) → (xs : List ℕ) → how_many f xs ≤ how_many g xs
unfolding how_many
count_mono f g h [] = zero-le
count_mono f g h (x ∷ xs) = omega (arith, h x, count_mono f g h xs)

-- the tests on one delay, as numbers
pub lt_one : (x d : ℕ) → x < d → hit (ltb x d) ≡ 1
lt_one x d h = rw (lt-ltb x d h)

pub ge_none : (x d : ℕ) → d ≤ x → hit (ltb x d) ≡ 0
ge_none x d h = rw (le-ltb x d h)

pub le_one : (x d : ℕ) → x ≤ d → hit (leb x d) ≡ 1
le_one x d h = rw (le-leb x d h)

pub gt_none : (x d : ℕ) → d < x → hit (leb x d) ≡ 0
gt_none x d h = rw (lt-leb x d h)

below_mono_one : (d e : ℕ) → d ≤ e → (x : ℕ) → hit (ltb x d) ≤ hit (ltb x e)
below_mono_one d e h x =
    elim (dec_lt x e) [
      | yes p ↦ omega (arith, lt_one x e p, hit_le_one (ltb x d))
      | no p ↦ omega (arith, ge_none x d (omega arith))
    ]

pub below_mono : (d e : ℕ) (xs : List ℕ) → d ≤ e → below d xs ≤ below e xs
below_mono d e xs h = count_mono (λ x. ltb x d) (λ x. ltb x e) (below_mono_one d e h) xs

-- `at_most` counts what is below the next number
le_lt_next : (d x : ℕ) → hit (leb x d) ≡ hit (ltb x (d + 1))
le_lt_next d x =
    elim (dec_le x d) [
      | yes p ↦ cc (le_one x d p, lt_one x (d + 1) (omega arith))
      | no p ↦ cc (gt_none x d (omega arith), ge_none x (d + 1) (omega arith))
    ]

pub at_most_below : (d : ℕ) (xs : List ℕ) → at_most d xs ≡ below (d + 1) xs
unfolding how_many
at_most_below d [] = refl
at_most_below d (x ∷ xs) = omega (arith, le_lt_next d x, at_most_below d xs)

-- a table of counts with one more at q
pub set_hit : (t : List ℕ) (q b : ℕ) → q < length t → get_or (set t q (get_or t q 0 + 1)) b 0 ≡ get_or t b 0 + hit (eqb b q)
set_hit t q b h =
    (elim (eqb b q) as (λ z. eqb b q ≡ z → get_or (set t q (get_or t q 0 + 1)) b 0 ≡ get_or t b 0 + hit z) [
      | true ↦ λ e. let f : b ≡ q = eqb-true b q e in rw f (rw (get_or-set_same t q (get_or t q 0 + 1) 0 h))
      | false ↦ λ e. rw (get_or-set_other t q b (get_or t q 0 + 1) 0 (eqb-false b q e)) (omega arith)
    ])
    refl

-- all are counted below a number that all are below
pub below_all : (d : ℕ) (xs : List ℕ) → ((i : ℕ) → i < length xs → get_or xs i 0 < d) → below d xs ≡ length xs
unfolding how_many
below_all d [] h = refl
below_all d (x ∷ xs) h = omega (arith, lt_one x d (h 0 (omega arith)), below_all d xs (λ i p. h (suc i) (omega arith)))

pub below_zero : (xs : List ℕ) → below 0 xs ≡ 0
unfolding how_many
below_zero [] = refl
below_zero (x ∷ xs) = omega (arith, ge_none x 0 zero-le, below_zero xs)
