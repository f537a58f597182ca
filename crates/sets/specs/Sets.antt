-- What a set of ordered pairs of three summaries each gives, for every input, in document 01's order of refusals: settings, the number of pairs, the length, and then the
-- first pair's refusal. Where no pair is refused, the verdicts of the set.
use Rattle.std.specs.Prelude.{ℕ, zero, suc, ◌*◌, ◌≤◌, ◌≡◌, Bool, true, false, ◌&&◌, List, [], ◌∷◌, ◌++◌, length, leb, eqb, Option, Some, None, Result, Ok, Err}
use Rattle.numbers.specs.Limits.{pairs}
use Rattle.numbers.specs.Refusals.{refusal}
use Rattle.numbers.specs.declared.refusal.Fault.{Fault}
use Rattle.settings.specs.Settings.{settings_of}
use Rattle.settings.specs.declared.LabelSettings.{LabelSettings}
use Rattle.settings.specs.declared.Settings.{Settings}
use Rattle.verdicts.specs.Verdicts.{verdicts_by, verdicts_of}
use Rattle.verdicts.specs.Sets.{of_sets}
use Rattle.reports.specs.Circuits.{Circuit}
use Rattle.reports.specs.Three.{three_at}
use Rattle.numbers.specs.declared.refusal.Refusal.{Refusal}
use Rattle.tallies.specs.declared.Period.{Period}
use Rattle.verdicts.specs.declared.PerObjective.{PerObjective}
use Rattle.verdicts.specs.declared.Verdict.{Verdict}

-- what each of n pairs gives, from the k-th on; summaries are counted through all pairs
unfoldable pub pairs_from : ℕ → LabelSettings → List ℕ → ℕ → List (Result Period Refusal)
pairs_from zero l s k = []
pairs_from (suc n) l s k = three_at (Some l) s (3 * k) ∷ pairs_from n l s (suc k)

-- the first pair's refusal, else the verdicts of the set. `passed` are the verdicts of the pairs before these
unfoldable pub set_from : Settings → List (PerObjective Verdict) → List (Result Period Refusal) → Result (PerObjective Verdict) Refusal
set_from v passed [] = Ok (of_sets passed)
set_from v passed (Err r ∷ rest) = Err r
set_from v passed (Ok p ∷ rest) = set_from v (passed ++ (verdicts_of v p ∷ [])) rest

unfoldable pub unless : Bool → Fault → Result (PerObjective Verdict) Refusal → Result (PerObjective Verdict) Refusal
unless true f j = j
unless false f j = Err (refusal f 0)

abbrev pub with_settings : Option Settings → ℕ → List ℕ → Result (PerObjective Verdict) Refusal
with_settings None n s = Err (refusal Fault.Settings 0)
with_settings (Some v) n s =
    unless (leb 1 n && leb n pairs) Fault.Pairs
    (unless (eqb (length s) (n * 3072)) Fault.Length (set_from v [] (pairs_from n v.label s 0)))

-- of settings, a number of pairs and their summaries
unfoldable pub judged_of : List ℕ → ℕ → List ℕ → Result (PerObjective Verdict) Refusal
judged_of settings n s = with_settings (settings_of settings) n s

-- the verdicts of a pair, as the definition has them by the labels of all that is known
abbrev pub defined_verdicts : Settings → Circuit → PerObjective Verdict
defined_verdicts v x = verdicts_by v x.loss x.composite (length x.before) x.middle

-- what the pairs are gone over with: valid settings, and not too many
pub record Gone (v : Settings) (n : ℕ) : Type 0 where
  pub bytes : List ℕ
  pub read : settings_of bytes ≡ Some v
  pub few : n ≤ pairs
