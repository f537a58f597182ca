-- Percentile delay and range of a list of delays.
use Rattle.std.specs.Prelude.{ℕ, suc, ◌+◌, ◌-◌, ◌*◌, ◌≤◌, min, Bool, true, false, cond, leb, List, [], ◌∷◌, length, nat_le}
use mathlib.Core.List.{Memᴰ}
use Rattle.numbers.specs.Limits.{million}

-- The members of a list that pass a test.
unfoldable pub keep : (ℕ → Bool) → List ℕ → List ℕ
keep f [] = []
keep f (x ∷ xs) = cond (f x) (x ∷ keep f xs) (keep f xs)

-- 1 for a test that is passed, else 0.
abbrev pub hit : Bool → ℕ
hit true = 1
hit false = 0

-- How many members of a list pass a test.
unfoldable pub how_many : (ℕ → Bool) → List ℕ → ℕ
how_many f [] = 0
how_many f (x ∷ xs) = hit (f x) + how_many f xs

-- The number of listed delays at or below d.
abbrev pub at_most : ℕ → List ℕ → ℕ
at_most d xs = how_many (λ x. leb x d) xs

-- Pr × N ≤ 1,000,000 × (delays ≤ d).
abbrev pub reaches : ℕ → List ℕ → ℕ → Bool
reaches pr xs d = nat_le (pr * length xs) (million * at_most d xs)

-- The least of m and a list.
unfoldable pub least_from : ℕ → List ℕ → ℕ
least_from m [] = m
least_from m (x ∷ xs) = least_from (min m x) xs

-- The least of a list, 0 for none.
unfoldable pub least : List ℕ → ℕ
least [] = 0
least (x ∷ xs) = least_from x xs

-- The least listed delay d with Pr × N ≤ 1,000,000 × (delays ≤ d); 0 for N = 0.
unfoldable pub percentile : ℕ → List ℕ → ℕ
percentile pr xs = least (keep (reaches pr xs) xs)

-- The percentile less the least delay; 0 for N = 0.
unfoldable pub range : ℕ → List ℕ → ℕ
range pr xs = percentile pr xs - least xs

-- Document 01's sentence as a relation: d is listed, d reaches, and no listed delay below d does.
pub record IsPercentile (pr : ℕ) (xs : List ℕ) (d : ℕ) : Type 0 where
  pub listed : Memᴰ d xs
  pub reached : pr * length xs ≤ million * at_most d xs
  pub first : (e : ℕ) → Memᴰ e xs → pr * length xs ≤ million * at_most e xs → d ≤ e

-- The place of the first delay above m, or the length where none is.
unfoldable pub place_above : ℕ → List ℕ → ℕ
place_above m [] = 0
place_above m (x ∷ xs) = cond (nat_le x m) (suc (place_above m xs)) 0
