-- The loop of `survey`: what has been counted and what is left of the list give the whole counts.
use Rattle.std.proofs.Common.{◌≡◌, ℕ, ◌+◌, ◌<◌, ◌≤◌, min, Bool, ltb, leb, List, [], ◌∷◌, length, get_or, drop, le_refl, add-one, arith, drop-cons}
use native.Mathlib.Nat.{min-eq_left}
use lib.Seq.{drop-length}
use Rattle.percentile.specs.Percentile.{hit, how_many, at_most, least, least_from}
use Rattle.percentile.specs.Ranks.{below, Surveyed}
use Rattle.percentile.specs.declared.few.Counts.{Counts}
use Rattle.percentile.proofs.Counts.{count_step, count_none, count_le}

-- the counts of the first i delays
pub record Seen (xs : List ℕ) (largest lo hi i : ℕ) (s : Counts) : Type 0 where
  pub within : i ≤ length xs
  pub lowest : least_from s.least (drop i xs) ≡ least xs
  pub all : s.within + at_most largest (drop i xs) ≡ at_most largest xs
  pub before_lo : s.under_lo + below lo (drop i xs) ≡ below lo xs
  pub upto_lo : s.upto_lo + at_most lo (drop i xs) ≡ at_most lo xs
  pub before_hi : s.under_hi + below hi (drop i xs) ≡ below hi xs
  pub upto_hi : s.upto_hi + at_most hi (drop i xs) ≡ at_most hi xs

-- one count, one delay on
counted_on : (f : ℕ → Bool) (xs : List ℕ) (i n : ℕ) → i < length xs → n + how_many f (drop i xs) ≡ how_many f xs
    → n + hit (f (get_or xs i 0)) + how_many f (drop (i + 1) xs) ≡ how_many f xs
counted_on f xs i n h e = omega (arith, e, count_step f xs i h)

-- no count passes the length
pub counted_fits : (f : ℕ → Bool) (xs : List ℕ) (i n : ℕ) → i < length xs → n + how_many f (drop i xs) ≡ how_many f xs
    → n + hit (f (get_or xs i 0)) ≤ length xs
counted_fits f xs i n h e = omega (arith, counted_on f xs i n h e, count_le f xs)

counted_end : (f : ℕ → Bool) (xs : List ℕ) (i n : ℕ) → i ≡ length xs → n + how_many f (drop i xs) ≡ how_many f xs → n ≡ how_many f xs
counted_end f xs i n h e =
    let g : n + how_many f (drop (length xs) xs) ≡ how_many f xs = rw h at e in omega (arith, g, count_none f xs)

lowest_on : (xs : List ℕ) (i m : ℕ) → i < length xs → least_from m (drop i xs) ≡ least xs
    → least_from (min m (get_or xs i 0)) (drop (i + 1) xs) ≡ least xs
unfolding least_from
lowest_on xs i m h e = rw add-one (rw (drop-cons xs i 0) at e)

lowest_start : (xs : List ℕ) → 0 < length xs → least_from (get_or xs 0 0) xs ≡ least xs
unfolding least_from least
lowest_start [] h = absurd (omega arith)
lowest_start (x ∷ xs) h = rw (min-eq_left (le_refl x))

lowest_end : (xs : List ℕ) (i m : ℕ) → i ≡ length xs → least_from m (drop i xs) ≡ least xs → m ≡ least xs
unfolding least_from
lowest_end xs i m h e =
    let g : least_from m (drop (length xs) xs) ≡ least xs = rw h at e in rw (drop-length xs) at g

module _ (xs : List ℕ) (largest lo hi : ℕ) where
  pub seen_start : 0 < length xs
      → Seen xs largest lo hi 0
      (record { least = get_or xs 0 0; within = 0; under_lo = 0; upto_lo = 0; under_hi = 0; upto_hi = 0 })
  seen_start h =
      record {
        within = omega arith;
        lowest = lowest_start xs h;
        all = omega arith;
        before_lo = omega arith;
        upto_lo = omega arith;
        before_hi = omega arith;
        upto_hi = omega arith;
      }

  pub seen_step : (i m : ℕ) (s : Counts) → i < length xs → m ≡ min s.least (get_or xs i 0) → Seen xs largest lo hi i s
      → Seen xs largest lo hi (i + 1)
      (record {
        least = m;
        within = s.within + hit (leb (get_or xs i 0) largest);
        under_lo = s.under_lo + hit (ltb (get_or xs i 0) lo);
        upto_lo = s.upto_lo + hit (leb (get_or xs i 0) lo);
        under_hi = s.under_hi + hit (ltb (get_or xs i 0) hi);
        upto_hi = s.upto_hi + hit (leb (get_or xs i 0) hi);
      })
  seen_step i m s h e v =
      record {
        within = omega arith;
        lowest = rw e (lowest_on xs i s.least h v.lowest);
        all = counted_on (λ x. leb x largest) xs i s.within h v.all;
        before_lo = counted_on (λ x. ltb x lo) xs i s.under_lo h v.before_lo;
        upto_lo = counted_on (λ x. leb x lo) xs i s.upto_lo h v.upto_lo;
        before_hi = counted_on (λ x. ltb x hi) xs i s.under_hi h v.before_hi;
        upto_hi = counted_on (λ x. leb x hi) xs i s.upto_hi h v.upto_hi;
      }

  pub seen_end : (i : ℕ) (s : Counts) → length xs ≤ i → Seen xs largest lo hi i s
      → Surveyed xs largest (record { lo = lo; hi = hi }) s
  seen_end i s h v =
      let e : i ≡ length xs = omega (arith, v.within) in
      record {
        lowest = lowest_end xs i s.least e v.lowest;
        all = counted_end (λ x. leb x largest) xs i s.within e v.all;
        before_lo = counted_end (λ x. ltb x lo) xs i s.under_lo e v.before_lo;
        upto_lo = counted_end (λ x. leb x lo) xs i s.upto_lo e v.upto_lo;
        before_hi = counted_end (λ x. ltb x hi) xs i s.under_hi e v.before_hi;
        upto_hi = counted_end (λ x. leb x hi) xs i s.upto_hi e v.upto_hi;
      }
