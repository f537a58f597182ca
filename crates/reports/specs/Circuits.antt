-- An ordered pair as it is known: its intervals before the period, in it and behind it, and the labels of all of them. And the summaries that are made of it.
use Rattle.std.specs.Prelude.{ℕ, ◌+◌, List, [], ◌∷◌, ◌++◌, length}
use Rattle.settings.specs.declared.LabelSettings.{LabelSettings}
use Rattle.intervals.specs.declared.Interval.{Interval}
use Rattle.rule.specs.Labels.{Label}
use Rattle.tallies.specs.Report.{report}
use Rattle.tallies.specs.declared.Period.{Period}
use Rattle.periods.specs.Stretches.{made_bytes}

pub record Circuit : Type 0 where
  pub before : List Interval
  pub middle : List Interval
  pub behind : List Interval
  pub loss : ℕ → Label
  pub composite : ℕ → Label

-- the three summaries
unfoldable pub three_bytes : LabelSettings → Circuit → List ℕ
three_bytes l x =
    made_bytes l 0 x.before ++ (made_bytes l (length x.before) x.middle ++ made_bytes l (length x.before + length x.middle) x.behind)

-- those of many
unfoldable pub set_bytes : LabelSettings → List Circuit → List ℕ
set_bytes l [] = []
set_bytes l (x ∷ xs) = three_bytes l x ++ set_bytes l xs

-- the report that the definition gives
abbrev pub defined : LabelSettings → Circuit → Period
defined l x = report l x.loss x.composite (length x.before) x.middle
