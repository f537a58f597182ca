-- What the verdicts say: "not yet" exactly where the undecided intervals, taken one way and the other, give two verdicts, and else the common one. Where nothing is counted, or
-- nothing was sent, there is nothing to miss: the objective is met.
-- Assumes nothing.
use mathlib.Core.Path.{◌≡◌, refl}
use mathlib.Core.Logic.{◌≢◌}
use mathlib.Core.Bool.{Bool, true, false, true≢false, false≢true}
use mathlib.Core.List.{List}
use Prim.Native.Nat.{ℕ, ◌+◌, ◌-◌, ◌*◌}
use native.Mathlib.Omega.{arith}
use borrow.Author.Tests.{le-leb}
use Rattle.numbers.specs.Limits.{million, largest_delay}
use Rattle.settings.specs.declared.Settings.{Settings}
use Rattle.intervals.specs.declared.Interval.{Interval}
use Rattle.rule.specs.Labels.{Label}
use Rattle.tallies.specs.declared.Period.{Period}
use Rattle.tallies.specs.Report.{report}
use Rattle.tallies.specs.Bounds.{PeriodBounded}
use Rattle.verdicts.specs.declared.Asked.{Asked}
use Rattle.verdicts.specs.declared.Verdict.{Verdict}
use Rattle.verdicts.specs.declared.PerObjective.{PerObjective}
use Rattle.verdicts.specs.Verdicts.{enough, loss_met, mean_met, met_by, common, agreed, taken, asked, verdicts_by, taken_as, verdicts_of}
use Rattle.verdicts.proofs.Fitting.{sum_few}

-- the rule for all six

-- what is said of an objective that is met, or not, one way and the other
pub record Exactly (a b : Bool) (w : Verdict) : Type 0 where
  pub not_yet : (w ≡ Verdict.NotYet → a ≢ b) × (a ≢ b → w ≡ Verdict.NotYet)
  pub met : (w ≡ Verdict.Met → (a ≡ true) × (b ≡ true)) × (a ≡ true → b ≡ true → w ≡ Verdict.Met)
  pub not_met : (w ≡ Verdict.NotMet → (a ≡ false) × (b ≡ false)) × (a ≡ false → b ≡ false → w ≡ Verdict.NotMet)

said : (a b : Bool) → Exactly a b (common a b)
unfolding common
said true true =
    record {
      not_yet = ((λ e. let z : ◌≡◌ {A = ℕ} 0 1 = cc in absurd (omega arith)), (λ d. absurd (d refl)));
      met = ((λ e. (refl, refl)), (λ e f. refl));
      not_met = ((λ e. ((cc), (cc))), (λ e f. absurd (true≢false e)));
    }
said true false =
    record {
      not_yet = ((λ e. true≢false), (λ d. refl));
      met = ((λ e. (refl, (cc))), (λ e f. absurd (false≢true f)));
      not_met = ((λ e. ((cc), refl)), (λ e f. absurd (true≢false e)));
    }
said false true =
    record {
      not_yet = ((λ e. false≢true), (λ d. refl));
      met = ((λ e. ((cc), refl)), (λ e f. absurd (false≢true e)));
      not_met = ((λ e. (refl, (cc))), (λ e f. absurd (true≢false f)));
    }
said false false =
    record {
      not_yet = ((λ e. let z : ◌≡◌ {A = ℕ} 0 1 = cc in absurd (omega arith)), (λ d. absurd (d refl)));
      met = ((λ e. ((cc), (cc))), (λ e f. absurd (false≢true e)));
      not_met = ((λ e. (refl, refl)), (λ e f. refl));
    }

pub record EachExactly (a b : PerObjective Bool) (w : PerObjective Verdict) : Type 0 where
  pub availability : Exactly a.availability b.availability w.availability
  pub composite : Exactly a.composite b.composite w.composite
  pub loss : Exactly a.loss b.loss w.loss
  pub mean : Exactly a.mean b.mean w.mean
  pub high : Exactly a.high b.high w.high
  pub runs : Exactly a.runs b.runs w.runs

each_said : (a b : PerObjective Bool) → EachExactly a b (agreed a b)
unfolding agreed
each_said a b =
    record {
      availability = said a.availability b.availability;
      composite = said a.composite b.composite;
      loss = said a.loss b.loss;
      mean = said a.mean b.mean;
      high = said a.high b.high;
      runs = said a.runs b.runs;
    }

-- of the definition, by labels
pub verdicts_exactly :
    (v : Settings) (loss composite : ℕ → Label) (k : ℕ) (period : List Interval) →
    EachExactly (met_by v (asked (report v.label (taken false loss) (taken false composite) k period)))
    (met_by v (asked (report v.label (taken true loss) (taken true composite) k period))) (verdicts_by v loss composite k period)
unfolding verdicts_by
verdicts_exactly v loss composite k period = each_said _ _

-- of the contract, by figures
pub figures_exactly : (v : Settings) (r : Period) → EachExactly (met_by v (taken_as false r)) (met_by v (taken_as true r)) (verdicts_of v r)
unfolding verdicts_of
figures_exactly v r = each_said _ _

-- the tests where there is nothing to judge

enough_of_none : (objective good bad : ℕ) → good + bad ≡ 0 → enough objective good bad ≡ true
unfolding enough
enough_of_none objective good bad w = le-leb (objective * (good + bad)) (good * million) (rw w (omega arith))

loss_of_none : (objective : ℕ) (a : Asked) → a.lost ≡ 0 → loss_met objective a ≡ true
unfolding loss_met
loss_of_none objective a e = le-leb (a.lost * million) (objective * a.sent) (rw e (omega arith))

mean_of_none : (objective : ℕ) (a : Asked) → a.sum ≡ 0 → mean_met objective a ≡ true
unfolding mean_met
mean_of_none objective a e = le-leb a.sum (objective * (a.sent - a.lost)) (rw e (omega arith))

module _ (v : Settings) (r : Period) where
  -- no interval is counted: W is 0, either way
  pub none_available : r.loss.available.count + r.loss.unavailable + r.loss.undecided.count ≡ 0 → (verdicts_of v r).availability ≡ Verdict.Met
  unfolding verdicts_of agreed met_by taken_as
  none_available w = (said _ _).met.1 (enough_of_none _ _ _ (omega arith)) (enough_of_none _ _ _ (omega arith))

  pub none_acceptable : r.composite.available + r.composite.unavailable + r.composite.undecided ≡ 0 → (verdicts_of v r).composite ≡ Verdict.Met
  unfolding verdicts_of agreed met_by taken_as
  none_acceptable w = (said _ _).met.1 (enough_of_none _ _ _ (omega arith)) (enough_of_none _ _ _ (omega arith))

  -- nothing sent, either way: loss and mean are met
  pub none_sent : (p : ℕ) → PeriodBounded p r → r.loss.available.sent + r.loss.undecided.sent ≡ 0 → ((verdicts_of v r).loss ≡ Verdict.Met) × ((verdicts_of v r).mean ≡ Verdict.Met)
  unfolding verdicts_of agreed met_by taken_as largest_delay
  none_sent p b s =
      let t = b.loss.available in
      let u = b.loss.undecided in (
        (said _ _).met.1 (loss_of_none _ _ (omega (arith, t.lost_of_sent, u.lost_of_sent))) (loss_of_none _ _ (omega (arith, t.lost_of_sent))),
        (said _ _).met.1 (mean_of_none _ _ (omega (arith, sum_few p _ t, sum_few p _ u))) (mean_of_none _ _ (omega (arith, sum_few p _ t))),
      )
