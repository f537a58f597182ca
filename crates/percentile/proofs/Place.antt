-- The place of the first delay above a limit: as a loop finds it, and against the count of those at or below the limit.
use Rattle.std.proofs.Common.{◌≡◌, ℕ, suc, ◌+◌, ◌<◌, ◌≤◌, leb, List, [], ◌∷◌, length, get_or, drop, refl, ap, add-one, arith, drop-cons, le-leb}
use native.Mathlib.Decide.{dec_le}
use lib.Seq.{drop-length}
use borrow.Author.Tests.{lt-leb}
use Rattle.percentile.specs.Percentile.{how_many, at_most, place_above}
use Rattle.percentile.proofs.Counts.{le_one, gt_none, count_le}

module _ (m : ℕ) (xs : List ℕ) (i : ℕ) (inside : i < length xs) where
  pub place_here : m < get_or xs i 0 → place_above m (drop i xs) ≡ 0
  unfolding place_above
  place_here h = rw (drop-cons xs i 0 inside, lt-leb (get_or xs i 0) m h)

  pub place_on : get_or xs i 0 ≤ m → place_above m (drop i xs) ≡ place_above m (drop (i + 1) xs) + 1
  unfolding place_above
  place_on h = rw (drop-cons xs i 0 inside, le-leb (get_or xs i 0) m h, add-one i) (omega arith)

pub place_none : (m : ℕ) (xs : List ℕ) → place_above m (drop (length xs) xs) ≡ 0
unfolding place_above
place_none m xs = rw (drop-length xs)

-- the place is the length exactly where all are at or below the limit
pub place_all : (m : ℕ) (xs : List ℕ) → at_most m xs ≡ length xs → place_above m xs ≡ length xs
unfolding place_above how_many
place_all m [] e = refl
place_all m (x ∷ xs) e =
    elim (dec_le x m) [
      | yes h ↦ rw (le-leb x m h) (ap suc (place_all m xs (omega (arith, le_one x m h))))
      | no h ↦ absurd (omega (arith, gt_none x m (omega arith), count_le (λ y. leb y m) xs))
    ]

pub place_some : (m : ℕ) (xs : List ℕ) → at_most m xs < length xs → place_above m xs < length xs
unfolding place_above how_many
place_some m [] h = h
place_some m (x ∷ xs) h =
    elim (dec_le x m) [
      | yes p ↦ rw (le-leb x m p) (omega (arith, place_some m xs (omega (arith, le_one x m p))))
      | no p ↦ rw (lt-leb x m (omega arith)) (omega arith)
    ]

pub place_le : (m : ℕ) (xs : List ℕ) → place_above m xs ≤ length xs
unfolding place_above
place_le m [] = omega arith
place_le m (x ∷ xs) =
    elim (dec_le x m) [
      | yes h ↦ rw (le-leb x m h) (omega (arith, place_le m xs))
      | no h ↦ rw (lt-leb x m (omega arith)) (omega arith)
    ]
