-- The verdicts of an ordered pair. The undecided intervals of the period are taken all as available, and all as unavailable; the tests of 01 are asked both times; where the two
-- agree, that is the verdict, and else it is "not yet". By labels (`verdicts_by`) this is the definition, on the report of 01; by the figures of a report (`verdicts_of`) it is a
-- matter of sums, and on a report by labels the same (`verdicts_taken` in proofs/Taken).
use Rattle.std.specs.Prelude.{Bool, true, false, List, ℕ, ◌+◌, ◌-◌, ◌*◌, ◌≤◌, leb, codes}
use Rattle.numbers.specs.Limits.{intervals, frames, million, largest_delay}
use Rattle.settings.specs.declared.Settings.{Settings}
use Rattle.intervals.specs.declared.Interval.{Interval}
use Rattle.rule.specs.Labels.{Label, settled, undecided}
use Rattle.tallies.specs.declared.Period.{Period}
use Rattle.tallies.specs.Report.{report}
use Rattle.verdicts.specs.declared.Asked.{Asked}
use Rattle.verdicts.specs.declared.PerObjective.{PerObjective}
use Rattle.verdicts.specs.declared.Verdict.{Verdict}

-- a verdict's number
abbrev pub verdict_number : Verdict → ℕ
verdict_number Verdict.NotMet = 0
verdict_number Verdict.Met = 1
verdict_number Verdict.NotYet = 2

-- a verdict's words
abbrev pub verdict_text : Verdict → List ℕ
verdict_text Verdict.NotMet = codes "not met"
verdict_text Verdict.Met = codes "met"
verdict_text Verdict.NotYet = codes "not yet"

-- the tests: each objective against what it is asked of

-- with W = good + bad, good × 1,000,000 ≥ objective × W
unfoldable pub enough : ℕ → ℕ → ℕ → Bool
enough objective good bad = leb (objective * (good + bad)) (good * million)

-- lost × 1,000,000 ≤ objective × sent
unfoldable pub loss_met : ℕ → Asked → Bool
loss_met objective a = leb (a.lost * million) (objective * a.sent)

-- sum ≤ objective × delivered
unfoldable pub mean_met : ℕ → Asked → Bool
mean_met objective a = leb a.sum (objective * (a.sent - a.lost))

-- the six
unfoldable pub met_by : Settings → Asked → PerObjective Bool
met_by v a =
    record {
      availability = enough v.availability a.available a.unavailable;
      composite = enough v.composite a.acceptable a.unacceptable;
      loss = loss_met v.loss a;
      mean = mean_met v.mean a;
      high = leb a.high v.high;
      runs = leb a.runs v.runs;
    }

-- the verdict on an objective that is met, or not, one way and the other: for all six, the one place that says "not yet"
unfoldable pub common : Bool → Bool → Verdict
common true true = Verdict.Met
common true false = Verdict.NotYet
common false true = Verdict.NotYet
common false false = Verdict.NotMet

-- the six
unfoldable pub agreed : PerObjective Bool → PerObjective Bool → PerObjective Verdict
agreed a b =
    record {
      availability = common a.availability b.availability;
      composite = common a.composite b.composite;
      loss = common a.loss b.loss;
      mean = common a.mean b.mean;
      high = common a.high b.high;
      runs = common a.runs b.runs;
    }

-- by labels

-- an undecided label taken as b: available where b is false, unavailable where it is true
unfoldable pub decided : Bool → Label → Label
decided b (settled a) = settled a
decided b undecided = settled b

-- the labels of a track, all undecided ones taken as b
abbrev pub taken : Bool → (ℕ → Label) → ℕ → Label
taken b at k = decided b (at k)

-- the figures of a report that the tests ask for: those of the composite track for the composite, those of the loss track for all others
unfoldable pub asked : Period → Asked
asked r =
    record {
      available = r.loss.available.count;
      unavailable = r.loss.unavailable;
      acceptable = r.composite.available;
      unacceptable = r.composite.unavailable;
      high = r.loss.available.high;
      runs = r.loss.available.runs;
      sent = r.loss.available.sent;
      lost = r.loss.available.lost;
      sum = r.loss.available.sum;
    }

-- the verdicts of a period, whose first interval has the number k. Labels outside it are in none of its figures
unfoldable pub verdicts_by : Settings → (ℕ → Label) → (ℕ → Label) → ℕ → List Interval → PerObjective Verdict
verdicts_by v loss composite k period =
    agreed (met_by v (asked (report v.label (taken false loss) (taken false composite) k period)))
    (met_by v (asked (report v.label (taken true loss) (taken true composite) k period)))

-- by figures

-- what the tests ask for, the undecided intervals of a report taken as available, and as unavailable
unfoldable pub taken_as : Bool → Period → Asked
taken_as false r =
    record {
      available = r.loss.available.count + r.loss.undecided.count;
      unavailable = r.loss.unavailable;
      acceptable = r.composite.available + r.composite.undecided;
      unacceptable = r.composite.unavailable;
      high = r.loss.available.high + r.loss.undecided.high;
      runs = r.loss.available.runs + r.loss.undecided.runs;
      sent = r.loss.available.sent + r.loss.undecided.sent;
      lost = r.loss.available.lost + r.loss.undecided.lost;
      sum = r.loss.available.sum + r.loss.undecided.sum;
    }
taken_as true r =
    record {
      available = r.loss.available.count;
      unavailable = r.loss.unavailable + r.loss.undecided.count;
      acceptable = r.composite.available;
      unacceptable = r.composite.unavailable + r.composite.undecided;
      high = r.loss.available.high;
      runs = r.loss.available.runs;
      sent = r.loss.available.sent;
      lost = r.loss.available.lost;
      sum = r.loss.available.sum;
    }

unfoldable pub verdicts_of : Settings → Period → PerObjective Verdict
verdicts_of v r = agreed (met_by v (taken_as false r)) (met_by v (taken_as true r))

-- what keeps the sums and products in 64 bits: objectives, intervals, frames and delays within their limits

pub record Objectives (v : Settings) : Type 0 where
  pub loss : v.loss ≤ million
  pub mean : v.mean ≤ largest_delay

pub record Fits (a : Asked) : Type 0 where
  pub counted : a.available + a.unavailable ≤ intervals
  pub composite_counted : a.acceptable + a.unacceptable ≤ intervals
  pub high : a.high ≤ intervals
  pub runs : a.runs ≤ intervals
  pub sent : a.sent ≤ intervals * frames
  pub lost : a.lost ≤ a.sent
  pub sum : a.sum ≤ largest_delay * (intervals * frames)

pub record Judgeable (v : Settings) (r : Period) : Type 0 where
  pub objectives : Objectives v
  pub available : Fits (taken_as false r)
  pub unavailable : Fits (taken_as true r)
