-- Every refusal of the evaluator's operations is at place 0: there is one record.
use mathlib.Core.Path.{◌≡◌}
use mathlib.Core.Bool.{Bool, true, false, cond}
use mathlib.Core.List.{List}
use Prim.Native.Nat.{ℕ}
use lib.Dec.{eqb}
use lib.ListN.{length}
use Rattle.std.specs.Prelude.{Option, Some, None, Result, Ok, Err}
use Rattle.numbers.specs.Refusals.{refusal}
use Rattle.numbers.specs.declared.refusal.Fault.{Fault}
use Rattle.numbers.specs.declared.refusal.Refusal.{Refusal}
use Rattle.settings.specs.Settings.{settings_of}
use Rattle.intervals.specs.Interval.{interval_of}
use Rattle.evaluator.specs.Evaluators.{held_of, fed_with, answer_of, evaluator_meets, start_from, start_of, step_with, step_of}
use Rattle.evaluator.specs.declared.Evaluator.{Evaluator}
use Rattle.settings.specs.declared.Settings.{Settings}
use Rattle.intervals.specs.declared.Interval.{Interval}
use Rattle.rule.specs.declared.Both.{Both}
use Rattle.evaluator.specs.declared.Settled.{Settled}

pub start_place : (s : List ℕ) (x : Refusal) → start_of s ≡ Err x → x.place ≡ 0
unfolding start_of
start_place s x e = by (settings_of s) e
  where
    by : (c : Option Settings) → start_from c ≡ Err x → x.place ≡ 0
    by (Some v) e = cc
    by None e = cc

pub step_place : (e : Evaluator) (r : List ℕ) (x : Refusal) → step_of e r ≡ Err x → x.place ≡ 0
unfolding step_of
step_place e r x h = lengths (eqb (length r) 48) h
  where
    no_place : (f : Fault) → ◌≡◌ {A = Result (Evaluator × Both Settled) Refusal} (Err (refusal f 0)) (Err x) → x.place ≡ 0
    no_place f h = cc

    numbers : (z : Bool) (s : Result (Evaluator × Both Settled) Refusal) → ((s ≡ Err x) → x.place ≡ 0) → cond z s (Err (refusal Fault.Order 0)) ≡ Err x → x.place ≡ 0
    numbers true s k h = k h
    numbers false s k h = no_place Fault.Order h

    records : (c : Option Interval) → step_with e c ≡ Err x → x.place ≡ 0
    records (Some v) h = numbers (eqb v.number e.fed) (Ok (fed_with (held_of e) e.fed v, answer_of (held_of e) v)) (λ k. cc) h
    records None h = no_place Fault.Field h

    evaluators : (z : Bool) → cond z (step_with e (interval_of r)) (Err (refusal Fault.Field 0)) ≡ Err x → x.place ≡ 0
    evaluators true h = records (interval_of r) h
    evaluators false h = no_place Fault.Field h

    lengths : (z : Bool) → cond z (cond (evaluator_meets e) (step_with e (interval_of r)) (Err (refusal Fault.Field 0))) (Err (refusal Fault.Length 0)) ≡ Err x → x.place ≡ 0
    lengths true h = evaluators (evaluator_meets e) h
    lengths false h = no_place Fault.Length h
