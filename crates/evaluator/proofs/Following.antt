-- The running evaluator over a whole sequence: started and fed intervals 0, 1, 2 .. it holds on each track what the marks fed leave, and
-- each step answers what 01's definition settles by it (`starts`, `steps`). An evaluator is valid exactly when some marks leave what it
-- holds (`valid_possible`, `possible_valid`). So a step answers by the definition on every evaluator that it accepts, whoever filled its
-- words: for some marks of the number fed, and for all marks that leave what it holds (`steps_accepted`).
use mathlib.Core.Path.{◌≡◌, refl, ap, subst, ◌∙◌}
use mathlib.Core.Bool.{Bool, true, false, cond}
use mathlib.Core.List.{List, [], ◌∷◌, ◌++◌, map}
use Prim.Native.Nat.{ℕ, ◌+◌, ◌≤◌}
use native.Mathlib.Omega.{arith}
use lib.Dec.{eqb}
use lib.ListN.{length, length-map, length-append}
use borrow.Author.Tests.{eq-eqb, eqb-true, le-leb}
use Rattle.std.specs.Prelude.{Option, Some, None, Result, Ok, Err}
use Rattle.numbers.specs.Limits.{intervals}
use Rattle.numbers.specs.Refusals.{refusal}
use Rattle.numbers.specs.declared.refusal.Fault.{Fault}
use Rattle.numbers.proofs.Rules.{rule_met}
use Rattle.settings.specs.Settings.{label_meets, settings_of}
use Rattle.settings.specs.declared.LabelSettings.{LabelSettings}
use Rattle.settings.specs.declared.Settings.{Settings}
use Rattle.settings.proofs.SettingsRecord.{label_valid}
use Rattle.intervals.specs.Interval.{interval_of, interval_rules}
use Rattle.intervals.specs.declared.Interval.{Interval}
use Rattle.intervals.proofs.IntervalRecord.{interval_read, interval_valid}
use Rattle.rule.specs.Evaluator.{fresh, turn, run, Possible, reachable}
use Rattle.rule.specs.declared.Track.{Track}
use Rattle.rule.proofs.Labelling.{Settles, steps_settle, run_step}
use Rattle.rule.proofs.Reaching.{possible_reachable, reachable_possible}
use Rattle.labels.specs.Marked.{loss_mark, composite_mark}
use Rattle.evaluator.specs.Evaluators.{label_of, loss_of, composite_of, track_of, held_of, word_of, held, evaluator_rules, evaluator_meets, which, settled_by, answer_of, fed_with, start_of, step_with, step_of}
use Rattle.evaluator.specs.declared.Evaluator.{Evaluator}
use Rattle.evaluator.specs.declared.Settled.{Settled}
use Rattle.evaluator.proofs.Words.{EvaluatorValid, evaluator_rules_lem}
use Rattle.numbers.specs.declared.refusal.Refusal.{Refusal}
use Rattle.rule.specs.declared.Both.{Both}

-- the tracks that the intervals fed leave
abbrev pub loss_after : LabelSettings → List Interval → Track
loss_after l vs = run l.n fresh (map (loss_mark l) vs)

abbrev pub composite_after : LabelSettings → List Interval → Track
composite_after l vs = run l.n fresh (map (composite_mark l) vs)

-- the evaluator with them fed
abbrev pub after : LabelSettings → List Interval → Evaluator
after l vs = held l (length vs) (loss_after l vs) (composite_after l vs)

-- it starts with nothing fed
pub starts : (s : List ℕ) (v : Settings) → settings_of s ≡ Some v → start_of s ≡ Ok (after v.label [])
unfolding start_of run
starts s v e = rw e

word_known : (b : Bool) → word_of b ≤ 1
word_known true = omega arith
word_known false = omega arith

word_label : (b : Bool) → eqb (word_of b) 0 ≡ b
word_label true = refl
word_label false = refl

-- a word says its label
held_track : (t : Track) → track_of (word_of t.label) t.pending ≡ t
held_track t = rw word_label

can_stand : (n : ℕ) (mark : Interval → Bool) (vs : List Interval) → 1 ≤ n → reachable n (length vs) (run n fresh (map mark vs)) ≡ true
unfolding Possible
can_stand n mark vs p = possible_reachable n (length vs) (run n fresh (map mark vs)) p (map mark vs, length-map vs mark, refl)

-- the evaluator is valid at every moment
pub after_valid : (l : LabelSettings) (vs : List Interval) → label_meets l ≡ true → length vs ≤ intervals → evaluator_meets (after l vs) ≡ true
unfolding evaluator_meets evaluator_rules
after_valid l vs h m =
    let p : 1 ≤ l.n = (label_valid l h).n_facts.0 in
    rw (
      h,
      le-leb _ _ m,
      le-leb _ _ (word_known (loss_after l vs).label),
      le-leb _ _ (word_known (composite_after l vs).label),
      held_track (loss_after l vs),
      held_track (composite_after l vs),
      can_stand l.n (loss_mark l) vs p,
      can_stand l.n (composite_mark l) vs p,
    )

map_last : (mark : Interval → Bool) (vs : List Interval) (v : Interval) → map mark (vs ++ (v ∷ [])) ≡ map mark vs ++ (mark v ∷ [])
map_last mark [] v = refl
map_last mark (w ∷ vs) v = ap (λ (ms : List Bool). mark w ∷ ms) (map_last mark vs v)

-- what a step answers on a track: as many labels as the definition settles by the mark, and which
pub record Answers (n : ℕ) (ms : List Bool) (m : Bool) (a : Settled) : Type 0 where
  pub settles : Settles n ms m a.count
  pub which_label : a.label ≡ which a.count m

answers : (n : ℕ) (ms : List Bool) (m : Bool) → 1 ≤ n → Answers n ms m (settled_by n (run n fresh ms) m)
answers n ms m p = record { settles = steps_settle n ms p m; which_label = refl }

-- a step feeds the next interval, and answers on both tracks what the definition settles
pub record Steps (l : LabelSettings) (vs : List Interval) (v : Interval) (s : Result (Evaluator × Both Settled) Refusal) : Type 0 where
  pub answer : Both Settled
  pub is_fed : s ≡ Ok (after l (vs ++ (v ∷ [])), answer)
  pub on_loss : Answers l.n (map (loss_mark l) vs) (loss_mark l v) answer.loss
  pub on_composite : Answers l.n (map (composite_mark l) vs) (composite_mark l v) answer.composite

-- what it holds, taken apart
held_after : (l : LabelSettings) (vs : List Interval) → held_of (after l vs) ≡ record { label = l; loss = loss_after l vs; composite = composite_after l vs }
held_after l vs = rw (held_track (loss_after l vs), held_track (composite_after l vs))

-- one interval more
fed_after : (l : LabelSettings) (vs : List Interval) (v : Interval) → fed_with (record { label = l; loss = loss_after l vs; composite = composite_after l vs }) (length vs) v ≡ after l (vs ++ (v ∷ []))
unfolding fed_with
fed_after l vs v =
    rw (length-append vs (v ∷ []), map_last (loss_mark l) vs v, map_last (composite_mark l) vs v, run_step l.n (map (loss_mark l) vs) (loss_mark l v), run_step l.n (map (composite_mark l) vs) (composite_mark l v))

step_fed :
    (l : LabelSettings) (vs : List Interval) (r : List ℕ) (v : Interval) → label_meets l ≡ true → interval_of r ≡ Some v → v.number ≡ length vs →
    step_of (after l vs) r ≡ Ok (after l (vs ++ (v ∷ [])), answer_of (record { label = l; loss = loss_after l vs; composite = composite_after l vs }) v)
unfolding step_of interval_rules
step_fed l vs r v h e n =
    let whole : length r ≡ 48 = eqb-true _ _ (rule_met (interval_rules r) 0 (interval_read r v e).0) in
    let most : length vs ≤ intervals = omega (arith, (interval_valid r v e).number_fact) in
    rw (eq-eqb _ _ whole, after_valid l vs h most, e, eq-eqb _ _ n, held_after l vs, fed_after l vs v)

pub steps :
    (l : LabelSettings) (vs : List Interval) (r : List ℕ) (v : Interval) → label_meets l ≡ true → interval_of r ≡ Some v → v.number ≡ length vs →
    Steps l vs v (step_of (after l vs) r)
unfolding answer_of
steps l vs r v h e n =
    record {
      answer = record { loss = settled_by l.n (loss_after l vs) (loss_mark l v); composite = settled_by l.n (composite_after l vs) (composite_mark l v) };
      is_fed = step_fed l vs r v h e n;
      on_loss = answers l.n (map (loss_mark l) vs) (loss_mark l v) some;
      on_composite = answers l.n (map (composite_mark l) vs) (composite_mark l v) some;
    }
  where
    some : 1 ≤ l.n
    some = (label_valid l h).n_facts.0

-- a valid evaluator is one whose settings are valid and whose tracks some marks of the number fed leave
pub valid_possible : (e : Evaluator) → evaluator_meets e ≡ true → Possible e.n e.fed (loss_of e) × Possible e.n e.fed (composite_of e)
valid_possible e h =
    let r : EvaluatorValid e = evaluator_rules_lem e h in
    let p : 1 ≤ e.n = (label_valid (label_of e) r.settings).n_facts.0 in
    (reachable_possible e.n e.fed (loss_of e) p r.loss, reachable_possible e.n e.fed (composite_of e) p r.composite)

pub possible_valid :
    (e : Evaluator) → label_meets (label_of e) ≡ true → e.fed ≤ intervals → e.loss_label ≤ 1 → e.composite_label ≤ 1 →
    Possible e.n e.fed (loss_of e) → Possible e.n e.fed (composite_of e) → evaluator_meets e ≡ true
unfolding evaluator_meets evaluator_rules
possible_valid e h f a b p q =
    let n : 1 ≤ e.n = (label_valid (label_of e) h).n_facts.0 in
    rw (h, le-leb _ _ f, le-leb _ _ a, le-leb _ _ b, possible_reachable e.n e.fed (loss_of e) n p, possible_reachable e.n e.fed (composite_of e) n q)

-- what a step says of a track that it found holding t: some marks of the number fed leave t, and whichever did, the answer is the
-- definition's for them and the mark behind them, and what is held next is what they and it leave
pub record Follows (n fed : ℕ) (t : Track) (m : Bool) (a : Settled) (next : Track) : Type 0 where
  pub possible : Possible n fed t
  pub answered : (ms : List Bool) → run n fresh ms ≡ t → Answers n ms m a
  pub left : (ms : List Bool) → run n fresh ms ≡ t → run n fresh (ms ++ (m ∷ [])) ≡ next

follows : (n fed : ℕ) (t : Track) (m : Bool) → 1 ≤ n → Possible n fed t → Follows n fed t m (settled_by n t m) (turn n t m)
follows n fed t m some h =
    record {
      possible = h;
      answered = λ ms e. subst (λ x. Answers n ms m (settled_by n x m)) e (answers n ms m some);
      left = λ ms e. run_step n ms m ∙ ap (λ x. turn n x m) e;
    }

-- what a step that is not refused found and leaves
pub record Accepted (e : Evaluator) (r : List ℕ) (next : Evaluator) (answer : Both Settled) : Type 0 where
  pub interval : Interval
  pub is_read : interval_of r ≡ Some interval
  pub is_next : interval.number ≡ e.fed
  pub settings : label_meets (label_of e) ≡ true
  pub settings_kept : label_of next ≡ label_of e
  pub one_more : next.fed ≡ e.fed + 1
  pub on_loss : Follows e.n e.fed (loss_of e) (loss_mark (label_of e) interval) answer.loss (loss_of next)
  pub on_composite : Follows e.n e.fed (composite_of e) (composite_mark (label_of e) interval) answer.composite (composite_of next)

-- every test of a step that is not refused was passed

module _ (e next : Evaluator) (answer : Both Settled) where
  passed_number :
      (v : Interval) (is_next : Bool) →
      cond {A = Result (Evaluator × Both Settled) Refusal} is_next (Ok (fed_with (held_of e) e.fed v, answer_of (held_of e) v)) (Err (refusal Fault.Order 0)) ≡ Ok (next, answer) →
      (is_next ≡ true) × (fed_with (held_of e) e.fed v ≡ next) × (answer_of (held_of e) v ≡ answer)
  passed_number v true h =
      let same : ◌≡◌ {A = Evaluator × Both Settled} (fed_with (held_of e) e.fed v, answer_of (held_of e) v) (next, answer) = cc in
      (refl, ap (λ (p : Evaluator × Both Settled). p.0) same, ap (λ (p : Evaluator × Both Settled). p.1) same)
  passed_number v false h = absurd cc

  passed :
      (whole valid : Bool) (i : Option Interval) →
      cond whole (cond valid (step_with e i) (Err (refusal Fault.Field 0))) (Err (refusal Fault.Length 0)) ≡ Ok (next, answer) →
      (valid ≡ true) × (v : Interval) × (i ≡ Some v) × (eqb v.number e.fed ≡ true) × (fed_with (held_of e) e.fed v ≡ next) × (answer_of (held_of e) v ≡ answer)
  passed false valid i h = absurd cc
  passed true false i h = absurd cc
  passed true true None h = absurd cc
  passed true true (Some v) h =
      let t = passed_number v (eqb v.number e.fed) h in
      (refl, v, refl, t.0, t.1, t.2)

-- so both tracks follow
accepted : (e : Evaluator) (r : List ℕ) (v : Interval) → evaluator_meets e ≡ true → interval_of r ≡ Some v → v.number ≡ e.fed → Accepted e r (fed_with (held_of e) e.fed v) (answer_of (held_of e) v)
unfolding fed_with answer_of
accepted e r v valid read number =
    let settings : label_meets (label_of e) ≡ true = (evaluator_rules_lem e valid).settings in
    let some : 1 ≤ e.n = (label_valid (label_of e) settings).n_facts.0 in
    let loss = follows e.n e.fed (loss_of e) (loss_mark (label_of e) v) some (valid_possible e valid).0 in
    let composite = follows e.n e.fed (composite_of e) (composite_mark (label_of e) v) some (valid_possible e valid).1 in
    record {
      interval = v;
      is_read = read;
      is_next = number;
      settings = settings;
      settings_kept = refl;
      one_more = refl;
      on_loss = rw held_track loss;
      on_composite = rw held_track composite;
    }

-- a step that is not refused answers by the definition, on every evaluator
pub steps_accepted : (e : Evaluator) (r : List ℕ) (next : Evaluator) (answer : Both Settled) → step_of e r ≡ Ok (next, answer) → Accepted e r next answer
unfolding step_of
steps_accepted e r next answer h =
    let t = passed e next answer (eqb (length r) 48) (evaluator_meets e) (interval_of r) h in
    let v = t.1 in
    subst (λ x. Accepted e r x answer) t.4
    (subst (Accepted e r (fed_with (held_of e) e.fed v)) t.5 (accepted e r v t.0 t.2 (eqb-true v.number e.fed t.3)))
