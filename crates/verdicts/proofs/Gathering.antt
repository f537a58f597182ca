-- The verdict of a set, piece by piece: a set of two parts is what the verdicts of the parts come to together, so a loop may keep the
-- verdict of what it has passed. Both tests of the definition are "any", which two parts share out.
use mathlib.Core.Path.{◌≡◌, refl, sym, ap, ◌∙◌}
use mathlib.Core.Bool.{Bool, true, false, cond, ◌||◌, or_assoc, or-true}
use mathlib.Core.List.{List, [], ◌∷◌, ◌++◌, map, map-append}
use lib.Dec.{eqb}
use Rattle.verdicts.specs.declared.Verdict.{Verdict}
use Rattle.verdicts.specs.declared.PerObjective.{PerObjective}
use Rattle.verdicts.specs.Verdicts.{verdict_number}
use Rattle.verdicts.specs.Sets.{any, of_set, of_sets}

-- a set of one
pub of_one : (a : Verdict) → of_set (a ∷ []) ≡ a
unfolding any of_set
of_one Verdict.NotMet = refl
of_one Verdict.Met = refl
of_one Verdict.NotYet = refl

-- two parts

any_append : (want : Verdict) (xs ys : List Verdict) → any want (xs ++ ys) ≡ any want xs || any want ys
unfolding any
any_append want [] ys = refl
any_append want (x ∷ xs) ys =
    ap (λ (b : Bool). eqb (verdict_number x) (verdict_number want) || b) (any_append want xs ys)
    ∙ sym (or_assoc (eqb (verdict_number x) (verdict_number want)) (any want xs) (any want ys))

-- by what is found in each: not met in the first or in the second, not yet in the first or in the second
abbrev found : Bool → Bool → Verdict
found unmet untold = cond unmet Verdict.NotMet (cond untold Verdict.NotYet Verdict.Met)

by_found : (a b c d : Bool) → found (a || b) (c || d) ≡ of_set (found a c ∷ found b d ∷ [])
unfolding any of_set
by_found true b c d = refl
by_found false true true d = refl
by_found false true false d = refl
by_found false false true true = refl
by_found false false true false = refl
by_found false false false true = refl
by_found false false false false = refl

pub set_append : (xs ys : List Verdict) → of_set (xs ++ ys) ≡ of_set (of_set xs ∷ of_set ys ∷ [])
unfolding of_set
set_append xs ys =
    rw (any_append Verdict.NotMet xs ys, any_append Verdict.NotYet xs ys)
    (by_found (any Verdict.NotMet xs) (any Verdict.NotMet ys) (any Verdict.NotYet xs) (any Verdict.NotYet ys))

-- objective by objective

mapped : (f : PerObjective Verdict → Verdict) (xs ys : List (PerObjective Verdict))
    → of_set (map f (xs ++ ys)) ≡ of_set (of_set (map f xs) ∷ of_set (map f ys) ∷ [])
mapped f xs ys = rw (map-append f xs ys) (set_append (map f xs) (map f ys))

pub sets_append : (xs ys : List (PerObjective Verdict)) → of_sets (xs ++ ys) ≡ of_sets (of_sets xs ∷ of_sets ys ∷ [])
unfolding of_sets
sets_append xs ys =
    λ i.
    record {
      availability = mapped (λ x. x.availability) xs ys i;
      composite = mapped (λ x. x.composite) xs ys i;
      loss = mapped (λ x. x.loss) xs ys i;
      mean = mapped (λ x. x.mean) xs ys i;
      high = mapped (λ x. x.high) xs ys i;
      runs = mapped (λ x. x.runs) xs ys i;
    }

pub sets_of_one : (x : PerObjective Verdict) → of_sets (x ∷ []) ≡ x
unfolding of_sets
sets_of_one x =
    λ i.
    record {
      availability = of_one x.availability i;
      composite = of_one x.composite i;
      loss = of_one x.loss i;
      mean = of_one x.mean i;
      high = of_one x.high i;
      runs = of_one x.runs i;
    }

-- one more at the end
pub sets_more : (xs : List (PerObjective Verdict)) (x : PerObjective Verdict) → of_sets (xs ++ (x ∷ [])) ≡ of_sets (of_sets xs ∷ x ∷ [])
sets_more xs x = sets_append xs (x ∷ []) ∙ ap (λ (y : PerObjective Verdict). of_sets (of_sets xs ∷ y ∷ [])) (sets_of_one x)

-- one that is not met is the set's verdict, whatever the others say; one that is not yet is, where none is not met

pub set_not_met : (xs ys : List Verdict) → of_set (xs ++ (Verdict.NotMet ∷ ys)) ≡ Verdict.NotMet
unfolding of_set any
set_not_met xs ys = rw (any_append Verdict.NotMet xs (Verdict.NotMet ∷ ys), or-true)

pub set_not_yet : (xs ys : List Verdict) → any Verdict.NotMet (xs ++ (Verdict.NotYet ∷ ys)) ≡ false
    → of_set (xs ++ (Verdict.NotYet ∷ ys)) ≡ Verdict.NotYet
unfolding of_set any
set_not_yet xs ys e = rw (e, any_append Verdict.NotYet xs (Verdict.NotYet ∷ ys), or-true)
