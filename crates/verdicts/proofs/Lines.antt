-- Document 01's line on verdicts, and both sides of each edge of 02's rule, computed of the definition by labels. A line has six verdicts: availability, composite, loss, mean, high loss intervals, runs;
-- 0 is not met, 1 met, 2 not yet. n = 3, p = 2, C = U = 500,000. All that is known is the period. The labels are those of `label_from`, which `known_labelled` proves to be 01's.
-- Assumes nothing.
use mathlib.Core.Path.{◌≡◌, refl}
use mathlib.Core.Bool.{Bool, true, false}
use mathlib.Core.List.{List, [], ◌∷◌, map}
use Prim.Native.Nat.{ℕ, ◌-◌, ◌*◌}
use Rattle.numbers.specs.Limits.{million}
use Rattle.settings.specs.declared.Settings.{Settings}
use Rattle.intervals.specs.declared.Interval.{Interval}
use Rattle.rule.specs.Evaluator.{settles, gain, turn, run, told, labelling}
use Rattle.rule.specs.Marks.{above, weighed, nothing_weighed, indicator, high_loss, high_composite}
use Rattle.labels.specs.Marked.{loss_mark, composite_mark}
use Rattle.tallies.specs.Report.{counted, resting, report}
use Rattle.tallies.specs.Seen.{marked_as}
use Rattle.tallies.specs.Tally.{is, counts, those, highs, number, first_all, begun, runs_of, total, delivering, smallest, greatest, totalled, tally}
use Rattle.tallies.proofs.Known.{label_from}
use Rattle.verdicts.specs.declared.PerObjective.{PerObjective}
use Rattle.verdicts.specs.declared.Verdict.{Verdict}
use Rattle.verdicts.specs.Verdicts.{verdict_number, enough, loss_met, mean_met, met_by, common, agreed, decided, asked, verdicts_by}
use Rattle.verdicts.specs.Sets.{any, of_set, of_sets}

-- weights, and the objectives in the order of the six
abbrev settings : ℕ → ℕ → ℕ → ℕ → ℕ → ℕ → ℕ → Settings
settings weights availability composite loss mean high runs =
    record {
      label = record { length = 60000; n = 3; p = 2; weights = weights; c = 500000; u = 500000; dl = 4000000; jt = 2000000 };
      availability = availability;
      composite = composite;
      loss = loss;
      mean = mean;
      high = high;
      runs = runs;
      percentile = 1000000;
      delay = 0;
      range = 0;
    }

-- 10 frames sent, so many lost and so many late, each of the others delivered in so many ns. Its number is in no figure
abbrev interval : ℕ → ℕ → ℕ → Bool → Interval
interval lost late delay maintenance =
    record { number = 0; sent = 10; lost = lost; late = late; pairs = 0; jumpy = 0; sum = (10 - lost) * delay; least = delay; most = delay; maintenance = maintenance }

abbrev L : Interval
L = interval 0 0 1000 false

abbrev H : Interval
H = interval 10 0 0 false

-- H in maintenance
abbrev R : Interval
R = interval 10 0 0 true

-- high by loss alone, and by delay alone
abbrev G : Interval
G = interval 6 0 1000 false

abbrev F : Interval
F = interval 0 10 4000001 false

abbrev of : Settings → List Interval → PerObjective Verdict
of v xs = verdicts_by v (label_from 3 (map (loss_mark v.label) xs)) (label_from 3 (map (composite_mark v.label) xs)) 0 xs

abbrev six : PerObjective Verdict → List ℕ
six w =
    verdict_number w.availability
    ∷ verdict_number w.composite
    ∷ verdict_number w.loss
    ∷ verdict_number w.mean
    ∷ verdict_number w.high
    ∷ verdict_number w.runs
    ∷ []

pub record Lines : Type 0 where
  -- available 15 of 17 is met at 882,352 and not at 882,353
  pub met_at : enough 882352 15 2 ≡ true
  pub not_met_at : enough 882353 15 2 ≡ false
  -- two high intervals at the end of eight others: as available 10 of 10, 20 lost of 100, a mean of 1,000, 2 high in one run; as unavailable 8 of 10, 0 lost of 80, 1,000 too, none high
  pub stays_met : six (of (settings 1 800000 800000 200000 1000 2 1) (L ∷ L ∷ L ∷ L ∷ L ∷ L ∷ L ∷ L ∷ H ∷ H ∷ [])) ≡ 1 ∷ 1 ∷ 1 ∷ 1 ∷ 1 ∷ 1 ∷ []
  pub one_less : six (of (settings 1 800001 800001 199999 999 1 0) (L ∷ L ∷ L ∷ L ∷ L ∷ L ∷ L ∷ L ∷ H ∷ H ∷ [])) ≡ 2 ∷ 2 ∷ 2 ∷ 0 ∷ 2 ∷ 2 ∷ []
  -- one undecided interval decides availability: 4 of 4, or 3 of 4. Its run does not reach p
  pub one_decides : six (of (settings 1 750001 750000 250000 1000 0 0) (L ∷ L ∷ L ∷ H ∷ [])) ≡ 2 ∷ 1 ∷ 1 ∷ 1 ∷ 2 ∷ 1 ∷ []
  -- a settled run and an undecided one: 2 runs, or 1
  pub two_runs : six (of (settings 1 0 0 1000000 1000 4 2) (L ∷ H ∷ H ∷ L ∷ H ∷ H ∷ [])) ≡ 1 ∷ 1 ∷ 1 ∷ 1 ∷ 1 ∷ 1 ∷ []
  pub one_run : six (of (settings 1 0 0 1000000 1000 3 1) (L ∷ H ∷ H ∷ L ∷ H ∷ H ∷ [])) ≡ 1 ∷ 1 ∷ 1 ∷ 1 ∷ 2 ∷ 2 ∷ []
  pub no_run : six (of (settings 1 0 0 1000000 1000 1 0) (L ∷ H ∷ H ∷ L ∷ H ∷ H ∷ [])) ≡ 1 ∷ 1 ∷ 1 ∷ 1 ∷ 0 ∷ 0 ∷ []
  -- three high ones make it unavailable, and two others may end that: 2 of 5, or 0 of 5. At 400,001 it is not met, whatever comes
  pub may_end : six (of (settings 1 400000 400001 0 999 0 0) (H ∷ H ∷ H ∷ L ∷ L ∷ [])) ≡ 2 ∷ 0 ∷ 1 ∷ 2 ∷ 1 ∷ 1 ∷ []
  -- the composite undecided while the loss track is settled, and the other way round: 4 of 4, or 2 of 4; 12 lost of 40, or 0 of 20
  pub composite_alone : six (of (settings 2 1000000 500001 0 4000001 0 0) (L ∷ L ∷ F ∷ F ∷ [])) ≡ 1 ∷ 2 ∷ 1 ∷ 1 ∷ 1 ∷ 1 ∷ []
  pub composite_met : six (of (settings 2 1000000 500000 0 4000001 0 0) (L ∷ L ∷ F ∷ F ∷ [])) ≡ 1 ∷ 1 ∷ 1 ∷ 1 ∷ 1 ∷ 1 ∷ []
  pub loss_alone : six (of (settings 2 500001 1000000 299999 1000 1 0) (L ∷ L ∷ G ∷ G ∷ [])) ≡ 2 ∷ 1 ∷ 2 ∷ 1 ∷ 2 ∷ 2 ∷ []
  pub loss_met : six (of (settings 2 500000 1000000 300000 1000 2 1) (L ∷ L ∷ G ∷ G ∷ [])) ≡ 1 ∷ 1 ∷ 1 ∷ 1 ∷ 1 ∷ 1 ∷ []
  -- all undecided ones in maintenance, and nothing but such: W is 2, and 0
  pub maintained : six (of (settings 1 1000000 1000000 0 1000 0 0) (L ∷ L ∷ R ∷ R ∷ [])) ≡ 1 ∷ 1 ∷ 1 ∷ 1 ∷ 1 ∷ 1 ∷ []
  pub nothing_else : six (of (settings 1 1000000 1000000 0 0 0 0) (R ∷ R ∷ [])) ≡ 1 ∷ 1 ∷ 1 ∷ 1 ∷ 1 ∷ 1 ∷ []
  -- nothing settled at all: W is 2 either way
  pub all_undecided : six (of (settings 1 1 0 0 0 0 0) (H ∷ H ∷ [])) ≡ 2 ∷ 1 ∷ 2 ∷ 1 ∷ 2 ∷ 2 ∷ []
  -- a set in which 01's own rule said "not yet" for one pair
  pub in_a_set :
      six (of_sets (of (settings 1 750000 750001 250000 1000 1 0) (L ∷ L ∷ L ∷ []) ∷ of (settings 1 750000 750001 250000 1000 1 0) (L ∷ L ∷ L ∷ H ∷ []) ∷ [])) ≡ 1 ∷ 2 ∷ 1 ∷ 1 ∷ 1 ∷ 1 ∷ []
  -- two pairs that turn opposite ways: 10 lost of 20, or 0 of 10; and 10 of 30, or 10 of 20. Turned together one of them is not met, but each may still be met
  pub opposite :
      six (of_sets (of (settings 1 0 0 400000 1000 9 9) (L ∷ H ∷ []) ∷ of (settings 1 0 0 400000 1000 9 9) (H ∷ L ∷ H ∷ H ∷ H ∷ L ∷ []) ∷ [])) ≡ 1 ∷ 1 ∷ 2 ∷ 1 ∷ 1 ∷ 1 ∷ []

pub lines : Lines
unfolding
    verdicts_by asked decided met_by enough loss_met mean_met common agreed million any of_set of_sets report counted resting marked_as tally totalled is counts those highs number first_all begun runs_of total delivering smallest greatest
    settles gain turn run told labelling above weighed nothing_weighed indicator high_loss high_composite
lines =
    record {
      met_at = refl;
      not_met_at = refl;
      stays_met = refl;
      one_less = refl;
      one_decides = refl;
      two_runs = refl;
      one_run = refl;
      no_run = refl;
      may_end = refl;
      composite_alone = refl;
      composite_met = refl;
      loss_alone = refl;
      loss_met = refl;
      maintained = refl;
      nothing_else = refl;
      all_undecided = refl;
      in_a_set = refl;
      opposite = refl;
    }
