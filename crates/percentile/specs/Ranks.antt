-- What the search for a delay by its rank says of its steps, all in counts of listed delays.
use Rattle.std.specs.Prelude.{◌≡◌, ℕ, ◌+◌, ◌*◌, ◌<◌, ◌≤◌, Bool, ◌&&◌, ltb, ◌⊎◌, List, take, ◌==◌, nat_lt, slice_index}
use mathlib.Core.List.{Memᴰ}
use Rattle.percentile.specs.Percentile.{hit, how_many, keep, at_most, least}
use Rattle.percentile.specs.declared.few.Pivots.{Pivots}
use Rattle.percentile.specs.declared.few.Counts.{Counts}
use Rattle.percentile.specs.declared.table.Mark.{Mark}

-- The number of listed delays below d.
abbrev pub below : ℕ → List ℕ → ℕ
below d xs = how_many (λ x. ltb x d) xs

-- d has rank k: fewer than k delays are below it, k or more at or below it.
pub record Ranked (k : ℕ) (xs : List ℕ) (d : ℕ) : Type 0 where
  pub before : below d xs < k
  pub reached : k ≤ at_most d xs

-- x is counted in bucket q alone, of 2,048 buckets of width w from lo on; from 2,048 on, q is no bucket.
pub record Slot (lo w x q : ℕ) : Type 0 where
  pub within : q < 2056
  pub counts :
      (b : ℕ) → b < 2048 → hit (nat_lt x (lo + (b + 1) * w)) ≡ hit (b == q) + hit (nat_lt x (lo + b * w))

-- t holds how many delays fall into each of 2,048 buckets of width w from lo on.
abbrev pub Tally : List ℕ → ℕ → ℕ → List ℕ → Type 0
Tally xs lo w t = (b : ℕ) → b < 2048 → below (lo + (b + 1) * w) xs ≡ slice_index t b + below (lo + b * w) xs

-- The delay of rank k lies in the w numbers from the mark's on.
pub record Front (k : ℕ) (xs : List ℕ) (w : ℕ) (m : Mark) : Type 0 where
  pub counted : m.under ≡ below m.lo xs
  pub before : m.under < k
  pub reached : k ≤ below (m.lo + w) xs

-- The least delay, and how many delays are at or below the largest one allowed, below each pivot, and at or below it.
pub record Surveyed (xs : List ℕ) (largest : ℕ) (p : Pivots) (s : Counts) : Type 0 where
  pub lowest : s.least ≡ least xs
  pub all : s.within ≡ at_most largest xs
  pub before_lo : s.under_lo ≡ below p.lo xs
  pub upto_lo : s.upto_lo ≡ at_most p.lo xs
  pub before_hi : s.under_hi ≡ below p.hi xs
  pub upto_hi : s.upto_hi ≡ at_most p.hi xs

-- Strictly between two numbers.
abbrev pub inside : ℕ → ℕ → ℕ → Bool
inside lo hi x = nat_lt lo x && nat_lt x hi

-- The first n of `few` are the delays of the list that pass f.
pub record Collected (f : ℕ → Bool) (xs few : List ℕ) (n : ℕ) : Type 0 where
  pub counted : n ≡ how_many f xs
  pub content : take n few ≡ keep f xs

-- Each delay of a sample is a listed one.
abbrev pub Drawn : List ℕ → List ℕ → Type 0
Drawn xs few = (d : ℕ) → Memᴰ d few → Memᴰ d xs

-- The least or the largest number of 32 bits, or a listed delay.
abbrev pub EndOrListed : List ℕ → ℕ → Type 0
EndOrListed xs d = (d ≡ 0) ⊎ ((d ≡ 4294967295) ⊎ Memᴰ d xs)

-- Pivots stand in order, and each is listed where it is no end.
pub record Chosen (xs : List ℕ) (p : Pivots) : Type 0 where
  pub ordered : p.lo ≤ p.hi
  pub low : EndOrListed xs p.lo
  pub high : EndOrListed xs p.hi
