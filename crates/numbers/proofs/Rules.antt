-- Each rule of a list of rules that are all met is met, and a test that holds is the fact that it tests.
-- Assumes nothing.
use mathlib.Core.Path.{◌≡◌, refl}
use mathlib.Core.Bool.{Bool, true, ◌&&◌, and-eq-true_iff}
use mathlib.Core.List.{List, [], ◌∷◌}
use Prim.Native.Nat.{ℕ, zero, suc, ◌≤◌, ◌<◌}
use lib.ListN.{get_or}
use lib.Dec.{leb, ltb}
use borrow.Author.Tests.{leb-true, ltb-true}
use Rattle.numbers.specs.Rules.{met_by, all_met, within}

-- what was known when the list began, and the rule at k

known : (first : Bool) (rules : List Bool) → met_by first rules ≡ true → first ≡ true
known first [] e = e
known first (rule ∷ rules) e = ((and-eq-true_iff first rule).0 (known (first && rule) rules e)).0

later : (first : Bool) (rules : List Bool) (k : ℕ) → met_by first rules ≡ true → get_or rules k true ≡ true
later first [] k e = refl
later first (rule ∷ rules) zero e = ((and-eq-true_iff first rule).0 (known (first && rule) rules e)).1
later first (rule ∷ rules) (suc k) e = later (first && rule) rules k e

pub rule_met : (rules : List Bool) (k : ℕ) → all_met rules ≡ true → get_or rules k true ≡ true
rule_met rules k e = later true rules k e

-- a number from low to high, and one from low to below high

pub within_facts : (low high x : ℕ) → within low high x ≡ true → (low ≤ x) × (x ≤ high)
within_facts low high x e =
    let b = (and-eq-true_iff (leb low x) (leb x high)).0 e in
    (leb-true low x b.0, leb-true x high b.1)

pub below_facts : (low high x : ℕ) → leb low x && ltb x high ≡ true → (low ≤ x) × (x < high)
below_facts low high x e =
    let b = (and-eq-true_iff (leb low x) (ltb x high)).0 e in
    (leb-true low x b.0, ltb-true x high b.1)
