-- A whole file of intervals as one period: nothing lies before it, and nothing behind it.
use Rattle.std.specs.Prelude.{ℕ, ◌≡◌, List, [], Option, Some, None, Result, Ok, Err}
use Rattle.numbers.specs.Refusals.{refusal}
use Rattle.numbers.specs.declared.refusal.Fault.{Fault}
use Rattle.settings.specs.Settings.{settings_of}
use Rattle.settings.specs.declared.Settings.{Settings}
use Rattle.intervals.specs.declared.Interval.{Interval}
use Rattle.rule.specs.Labels.{Label}
use Rattle.summaries.specs.declared.Summary.{Summary}
use Rattle.summaries.specs.Made.{made_of}
use Rattle.making.specs.Making.{made}
use Rattle.tallies.specs.declared.Period.{Period}
use Rattle.tallies.specs.Report.{report}
use Rattle.periods.specs.Stretches.{period_of}
use Rattle.periods.specs.declared.Stretch.{Stretch}
use Rattle.verdicts.specs.Verdicts.{verdicts_by, verdicts_of}
use Rattle.feeding.specs.Feeding.{Known}
use Rattle.files.specs.declared.Answer.{Answer}
use Rattle.numbers.specs.declared.refusal.Refusal.{Refusal}

abbrev pub stretch : Summary → Stretch
stretch v = record { held = v }

-- the report of a stretch with nothing before and nothing behind it
unfoldable pub alone_of : Summary → Period
alone_of v = period_of (stretch (made_of v.label v.first [])) (stretch v) (stretch (made_of v.label v.after []))

-- a report and its verdicts
abbrev pub answered : Settings → Period → Answer
answered s r = record { period = r; verdicts = verdicts_of s r }

abbrev pub answer_of : Settings → Summary → Answer
answer_of s v = answered s (alone_of v)

abbrev pub concluded_by : Option Settings → Result Summary Refusal → Result Answer Refusal
concluded_by None g = Err (refusal Fault.Settings 0)
concluded_by (Some s) (Ok v) = Ok (answer_of s v)
concluded_by (Some s) (Err r) = Err r

-- what a file of the bytes s says, by the bytes of its settings
unfoldable pub evaluated : List ℕ → List ℕ → Result Answer Refusal
evaluated settings s = concluded_by (settings_of settings) (made settings 0 s 1024 0)

-- what the definition says of a whole file's intervals, by their labels
abbrev pub defined_answer : Settings → (ℕ → Label) → (ℕ → Label) → List Interval → Answer
defined_answer s loss composite vs = record { period = report s.label loss composite 0 vs; verdicts = verdicts_by s loss composite 0 vs }

-- settings that bytes say, and a summary that bytes say
pub record Judging (s : Settings) (v : Summary) : Type 0 where
  pub bytes : List ℕ
  pub read : settings_of bytes ≡ Some s
  pub known : Known v
