-- What the operation answers, for every settings slice and every list.
use Rattle.std.specs.Prelude.{ℕ, ◌+◌, ◌*◌, ◌<◌, ◌≤◌, Bool, true, false, List, length, leb, ltb, Option, Some, None, Result, Ok, Err}
use Rattle.numbers.specs.Limits.{delays, largest_delay, million}
use Rattle.numbers.specs.Refusals.{refusal}
use Rattle.numbers.specs.declared.refusal.Fault.{Fault}
use Rattle.settings.specs.Settings.{settings_of}
use Rattle.settings.specs.declared.Settings.{Settings}
use Rattle.percentile.specs.Percentile.{percentile, range, place_above}
use Rattle.numbers.specs.declared.refusal.Refusal.{Refusal}
use Rattle.delays.specs.declared.Figures.{Figures}

-- k is the least number with Pr × N ≤ 1,000,000 × k.
pub record Rank (pr n k : ℕ) : Type 0 where
  pub positive : 0 < k
  pub within : k ≤ n
  pub enough : pr * n ≤ million * k
  pub first : million * k < pr * n + million

-- Each is met when it is at or below its objective.
abbrev pub answered : Settings → ℕ → ℕ → Result Figures Refusal
answered v d r =
    Ok
    (record {
      percentile = d;
      range = r;
      percentile_met = leb d v.delay;
      range_met = leb r v.range;
    })

abbrev pub pick : Bool → Result Figures Refusal → Result Figures Refusal → Result Figures Refusal
pick true a b = a
pick false a b = b

-- FULL over 1,000,000 delays; FIELD at the first delay too large; else the answer.
unfoldable pub judged : Settings → List ℕ → Result Figures Refusal
judged v xs =
    pick (leb (length xs) delays)
    (pick (ltb (place_above largest_delay xs) (length xs))
    (Err (refusal Fault.Field (place_above largest_delay xs)))
    (answered v (percentile v.percentile xs) (range v.percentile xs)))
    (Err (refusal Fault.Full 0))

abbrev pub with_settings : Option Settings → List ℕ → Result Figures Refusal
with_settings (Some v) xs = judged v xs
with_settings None xs = Err (refusal Fault.Settings 0)

-- SETTINGS first.
unfoldable pub outcome : List ℕ → List ℕ → Result Figures Refusal
outcome s xs = with_settings (settings_of s) xs
