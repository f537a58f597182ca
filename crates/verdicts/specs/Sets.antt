-- The verdict of a set, as 01 has it: not met if any is not met; else not yet if any is not yet; else met.
use Rattle.std.specs.Prelude.{Bool, false, cond, ◌||◌, List, [], ◌∷◌, map, eqb}
use Rattle.verdicts.specs.declared.Verdict.{Verdict}
use Rattle.verdicts.specs.declared.PerObjective.{PerObjective}
use Rattle.verdicts.specs.Verdicts.{verdict_number}

-- any is the one asked for
unfoldable pub any : Verdict → List Verdict → Bool
any want [] = false
any want (x ∷ xs) = eqb (verdict_number x) (verdict_number want) || any want xs

unfoldable pub of_set : List Verdict → Verdict
of_set xs = cond (any Verdict.NotMet xs) Verdict.NotMet (cond (any Verdict.NotYet xs) Verdict.NotYet Verdict.Met)

-- per objective
unfoldable pub of_sets : List (PerObjective Verdict) → PerObjective Verdict
of_sets xs =
    record {
      availability = of_set (map (λ x. x.availability) xs);
      composite = of_set (map (λ x. x.composite) xs);
      loss = of_set (map (λ x. x.loss) xs);
      mean = of_set (map (λ x. x.mean) xs);
      high = of_set (map (λ x. x.high) xs);
      runs = of_set (map (λ x. x.runs) xs);
    }
