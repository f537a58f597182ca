-- The tally of a stretch by the labels of its intervals, as 01 has it: what is counted, and how runs are.
use Rattle.std.specs.Prelude.{Bool, true, false, cond, not, ◌&&◌, List, [], ◌∷◌, map, ℕ, zero, suc, ◌+◌, ◌<◌, min, max, ltb, length}
use Rattle.std.specs.Bool.{beq}
use Rattle.rule.specs.Labels.{Label, settled, undecided, Meaning}
use Rattle.tallies.specs.declared.Marked.{Marked}
use Rattle.tallies.specs.declared.Totals.{Totals}
use Rattle.tallies.specs.declared.ByLabel.{ByLabel}

-- the two labels are one
unfoldable pub is : Label → Label → Bool
is (settled a) (settled b) = beq a b
is (settled a) undecided = false
is undecided (settled b) = false
is undecided undecided = true

-- an interval with the label l is counted among those labelled `want`: it is one of them and not in maintenance
unfoldable pub counts : Label → Label → Marked → Bool
counts want l x = is want l && not x.maintenance

-- those intervals of a stretch, numbered from k, that are counted among those labelled `want`. `at` gives each number's label
unfoldable pub those : Label → (ℕ → Label) → ℕ → List Marked → List Marked
those want at k [] = []
those want at k (x ∷ xs) = cond (counts want (at k) x) (x ∷ those want at (suc k) xs) (those want at (suc k) xs)

-- for each interval of the stretch in turn, whether it is one of those and high: with `want` available, a high loss interval
unfoldable pub highs : Label → (ℕ → Label) → ℕ → List Marked → List Bool
highs want at k [] = []
highs want at k (x ∷ xs) = (counts want (at k) x && x.mark) ∷ highs want at (suc k) xs

-- how many hold
unfoldable pub number : List Bool → ℕ
number [] = 0
number (c ∷ cs) = cond c (suc (number cs)) (number cs)

-- there are p or more, and the first p hold
unfoldable pub first_all : ℕ → List Bool → Bool
first_all zero cs = true
first_all (suc p) [] = false
first_all (suc p) (c ∷ cs) = c && first_all p cs

-- how many runs begin. One begins at an interval that counts where the one before it does not and the p from it on all count
unfoldable pub begun : ℕ → Bool → List Bool → ℕ
begun p prior [] = 0
begun p prior (c ∷ cs) = cond (c && (not prior && first_all p (c ∷ cs))) (suc (begun p c cs)) (begun p c cs)

-- the runs of length p or more; what lies before the stretch does not count, and where p is 0 runs are not counted
unfoldable pub runs_of : ℕ → List Bool → ℕ
runs_of zero cs = 0
runs_of (suc p) cs = begun (suc p) false cs

-- the sum of a figure over intervals
unfoldable pub total : (Marked → ℕ) → List Marked → ℕ
total f [] = 0
total f (x ∷ xs) = f x + total f xs

-- those of which a frame was delivered
unfoldable pub delivering : List Marked → List Marked
delivering [] = []
delivering (x ∷ xs) = cond (ltb x.lost x.sent) (x ∷ delivering xs) (delivering xs)

-- the smallest of some numbers, 0 of none
unfoldable pub smallest : List ℕ → ℕ
smallest [] = 0
smallest (a ∷ []) = a
smallest (a ∷ b ∷ l) = min a (smallest (b ∷ l))

-- the greatest of some numbers, 0 of none
unfoldable pub greatest : List ℕ → ℕ
greatest [] = 0
greatest (a ∷ l) = max a (greatest l)

-- what the intervals labelled `want` of a stretch come to
unfoldable pub totalled : ℕ → Label → (ℕ → Label) → ℕ → List Marked → Totals
totalled p want at k xs =
    record {
      count = length (those want at k xs);
      high = number (highs want at k xs);
      runs = runs_of p (highs want at k xs);
      sent = total (λ x. x.sent) (those want at k xs);
      lost = total (λ x. x.lost) (those want at k xs);
      sum = total (λ x. x.sum) (those want at k xs);
      least = smallest (map (λ x. x.least) (delivering (those want at k xs)));
      most = greatest (map (λ x. x.most) (delivering (those want at k xs)));
    }

-- the tally of a stretch whose first interval has the number k
unfoldable pub tally : ℕ → (ℕ → Label) → ℕ → List Marked → ByLabel Totals
tally p at k xs =
    record {
      available = totalled p (settled false) at k xs;
      unavailable = length (those (settled true) at k xs);
      undecided = totalled p undecided at k xs;
    }

-- `at` gives each interval of the known marks ms the label that they tell of it
unfoldable pub Labels : ℕ → List Bool → (ℕ → Label) → Type 0
Labels n ms at = (k : ℕ) → k < length ms → Meaning n ms k (at k)

-- the marks of intervals
abbrev pub marks : List Marked → List Bool
marks xs = map (λ x. x.mark) xs

-- how many intervals of a stretch are not in maintenance
unfoldable pub serving : List Marked → ℕ
serving [] = 0
serving (x ∷ xs) = cond x.maintenance (serving xs) (suc (serving xs))
