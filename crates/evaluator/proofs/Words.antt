-- An evaluator's words against what they hold. Words of valid label settings fit its fields, so cutting them down changes nothing; and
-- a valid evaluator meets each of its rules.
use mathlib.Core.Path.{◌≡◌, refl}
use mathlib.Core.Logic.{⊎_elim}
use mathlib.Core.Bool.{Bool, true, false, cond}
use mathlib.Core.List.{List}
use Prim.Native.Nat.{ℕ, ◌≤◌, ◌<◌, ◌%◌}
use native.Mathlib.Omega.{arith}
use native.Mathlib.Nat.{mod-eq_of_lt}
use lib.Dec.{ltb}
use lib.ListN.{get_or}
use borrow.Author.Tests.{leb-true, ltb-true, lt-ltb}
use Rattle.std.specs.Prelude.{Some, None}
use Rattle.numbers.specs.Limits.{intervals, million, largest_delay}
use Rattle.settings.specs.Settings.{label_meets}
use Rattle.intervals.specs.Interval.{interval_of}
use Rattle.intervals.specs.declared.Interval.{Interval}
use Rattle.rule.specs.Evaluator.{reachable}
use Rattle.evaluator.specs.Evaluators.{label_of, loss_of, composite_of, held_of, evaluator_rules, evaluator_meets, fit_rules, fits_words, narrow_of, held_read}
use Rattle.evaluator.specs.declared.Evaluator.{Evaluator}
use Rattle.evaluator.specs.declared.Held.{Held}
use Rattle.rule.proofs.Reaching.{reached}
use Rattle.numbers.proofs.Rules.{rule_met}
use Rattle.settings.proofs.SettingsRecord.{LabelValid, label_valid}
use Rattle.intervals.proofs.IntervalRecord.{interval_valid}

-- words that fit are not changed by cutting them down
pub narrow_same : (e : Evaluator) → fits_words e ≡ true → narrow_of e ≡ label_of e
unfolding fits_words fit_rules narrow_of
narrow_same e f =
    rw (cut e.length 4294967296 (at 0), cut e.n 256 (at 1), cut e.p 256 (at 2), cut e.weights 256 (at 3), cut e.c 4294967296 (at 4), cut e.u 4294967296 (at 5), cut e.dl 4294967296 (at 6), cut e.jt 4294967296 (at 7))
  where
    at : (k : ℕ) → get_or (fit_rules e) k true ≡ true
    at k = rule_met (fit_rules e) k f

    cut : (x m : ℕ) → ltb x m ≡ true → x % m ≡ x
    cut x m h = mod-eq_of_lt (ltb-true x m h)

-- words of valid label settings fit, so that the test on the words cut down is the test on the words
pub meets_fits : (e : Evaluator) → label_meets (label_of e) ≡ true → fits_words e ≡ true
unfolding fits_words fit_rules million largest_delay
meets_fits e h =
    let r : LabelValid (label_of e) = label_valid (label_of e) h in
    let p : e.p < 256 = ⊎_elim (λ z. omega arith) (λ z. omega arith) r.p_facts in
    rw (
      lt-ltb e.length 4294967296 (omega arith),
      lt-ltb e.n 256 (omega arith),
      lt-ltb e.p 256 p,
      lt-ltb e.weights 256 (omega arith),
      lt-ltb e.c 4294967296 (omega arith),
      lt-ltb e.u 4294967296 (omega arith),
      lt-ltb e.dl 4294967296 (omega arith),
      lt-ltb e.jt 4294967296 (omega arith),
    )

-- what was read as a valid evaluator is valid and is what the words say
pub held_valid : (e : Evaluator) (h : Held) → held_read e ≡ Some h → (evaluator_meets e ≡ true) × (h ≡ held_of e)
unfolding held_read
held_valid e h p = by (evaluator_meets e) p
  where
    by : (z : Bool) → cond z (Some (held_of e)) None ≡ Some h → (z ≡ true) × (h ≡ held_of e)
    by true p = (refl, cc)
    by false p = (cc, cc)

-- a valid evaluator's rules
pub record EvaluatorValid (e : Evaluator) : Type 0 where
  pub settings : label_meets (label_of e) ≡ true
  pub fed_most : e.fed ≤ intervals
  pub loss_known : e.loss_label ≤ 1
  pub composite_known : e.composite_label ≤ 1
  pub loss : reachable e.n e.fed (loss_of e) ≡ true
  pub composite : reachable e.n e.fed (composite_of e) ≡ true

pub evaluator_rules_lem : (e : Evaluator) → evaluator_meets e ≡ true → EvaluatorValid e
unfolding evaluator_meets evaluator_rules
evaluator_rules_lem e h =
    record {
      settings = at 0;
      fed_most = leb-true _ _ (at 1);
      loss_known = leb-true _ _ (at 2);
      composite_known = leb-true _ _ (at 3);
      loss = at 4;
      composite = at 5;
    }
  where
    at : (k : ℕ) → get_or (evaluator_rules e) k true ≡ true
    at k = rule_met (evaluator_rules e) k h

-- a valid evaluator and its next interval: all that feeding asks for. The number fed is that of a valid record
pub feedable :
    (e : Evaluator) (h : Held) (s : List ℕ) (v : Interval) → held_read e ≡ Some h → interval_of s ≡ Some v → v.number ≡ e.fed →
    (label_meets h.label ≡ true) × (e.fed < intervals) × (h.loss.pending < h.label.n) × (h.composite.pending < h.label.n)
feedable e h s v p q n =
    let k : (evaluator_meets e ≡ true) × (h ≡ held_of e) = held_valid e h p in
    let r : EvaluatorValid e = evaluator_rules_lem e k.0 in
    rw k.1 (
      r.settings,
      rw (← n) (interval_valid s v q).number_fact,
      (reached e.n e.fed (loss_of e) r.loss).short,
      (reached e.n e.fed (composite_of e) r.composite).short,
    )
