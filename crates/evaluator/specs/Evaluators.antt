-- The running evaluator: what it holds, when it is valid, what a step answers, and each refusal in order.
use Rattle.std.specs.Prelude.{Bool, true, false, cond, List, [], ◌∷◌, ℕ, ◌+◌, ◌%◌, leb, ltb, eqb, length, Option, Some, None, Result, Ok, Err}
use Rattle.numbers.specs.Limits.{intervals}
use Rattle.numbers.specs.Refusals.{refusal}
use Rattle.numbers.specs.Rules.{all_met}
use Rattle.numbers.specs.declared.refusal.Fault.{Fault}
use Rattle.settings.specs.Settings.{label_meets, settings_of}
use Rattle.settings.specs.declared.LabelSettings.{LabelSettings}
use Rattle.intervals.specs.Interval.{interval_of}
use Rattle.intervals.specs.declared.Interval.{Interval}
use Rattle.rule.specs.Evaluator.{fresh, gain, turn, reachable}
use Rattle.rule.specs.declared.Track.{Track}
use Rattle.labels.specs.Marked.{loss_mark, composite_mark}
use Rattle.evaluator.specs.declared.Evaluator.{Evaluator}
use Rattle.evaluator.specs.declared.Held.{Held}
use Rattle.evaluator.specs.declared.Settled.{Settled}
use Rattle.settings.specs.declared.Settings.{Settings}
use Rattle.numbers.specs.declared.refusal.Refusal.{Refusal}
use Rattle.rule.specs.declared.Both.{Both}

-- its words: the label settings, and a label word, 1 for available and 0 for not, with the number pending, for each track
abbrev pub label_of : Evaluator → LabelSettings
label_of e = record { length = e.length; n = e.n; p = e.p; weights = e.weights; c = e.c; u = e.u; dl = e.dl; jt = e.jt }

abbrev pub track_of : ℕ → ℕ → Track
track_of word pending = record { label = eqb word 0; pending = pending }

abbrev pub loss_of : Evaluator → Track
loss_of e = track_of e.loss_label e.loss_pending

abbrev pub composite_of : Evaluator → Track
composite_of e = track_of e.composite_label e.composite_pending

abbrev pub held_of : Evaluator → Held
held_of e = record { label = label_of e; loss = loss_of e; composite = composite_of e }

-- valid: valid settings, at most 3,000,000 fed, and on each track what some marks of the number fed leave (`reachable` is `Possible` as a test)
unfoldable pub evaluator_rules : Evaluator → List Bool
evaluator_rules e =
    label_meets (label_of e)
    ∷ leb e.fed intervals
    ∷ leb e.loss_label 1
    ∷ leb e.composite_label 1
    ∷ reachable e.n e.fed (loss_of e)
    ∷ reachable e.n e.fed (composite_of e)
    ∷ []

unfoldable pub evaluator_meets : Evaluator → Bool
evaluator_meets e = all_met (evaluator_rules e)

-- the words of label settings, a number fed and two tracks
abbrev pub word_of : Bool → ℕ
word_of true = 0
word_of false = 1

abbrev pub held : LabelSettings → ℕ → Track → Track → Evaluator
held l fed loss composite =
    record {
      length = l.length;
      n = l.n;
      p = l.p;
      weights = l.weights;
      c = l.c;
      u = l.u;
      dl = l.dl;
      jt = l.jt;
      fed = fed;
      loss_label = word_of loss.label;
      loss_pending = loss.pending;
      composite_label = word_of composite.label;
      composite_pending = composite.pending;
    }

-- it starts from settings with nothing fed
abbrev pub start_from : Option Settings → Result Evaluator Refusal
start_from (Some v) = Ok (held v.label 0 fresh fresh)
start_from None = Err (refusal Fault.Settings 0)

unfoldable pub start_of : List ℕ → Result Evaluator Refusal
start_of s = start_from (settings_of s)

-- what a step settles on a track: how many, and which label, 2 when none
abbrev pub which : ℕ → Bool → ℕ
which count m = cond (eqb count 0) 2 (word_of m)

abbrev pub settled_by : ℕ → Track → Bool → Settled
settled_by n t m = record { count = gain n t m; label = which (gain n t m) m }

unfoldable pub answer_of : Held → Interval → Both Settled
answer_of h v =
    record {
      loss = settled_by h.label.n h.loss (loss_mark h.label v);
      composite = settled_by h.label.n h.composite (composite_mark h.label v);
    }

-- the evaluator after it
unfoldable pub fed_with : Held → ℕ → Interval → Evaluator
fed_with h fed v =
    held h.label (fed + 1)
    (turn h.label.n h.loss (loss_mark h.label v))
    (turn h.label.n h.composite (composite_mark h.label v))

-- a step: the length, the evaluator, the record's fields, its number
abbrev pub step_with : Evaluator → Option Interval → Result (Evaluator × Both Settled) Refusal
step_with e (Some v) =
    cond (eqb v.number e.fed) (Ok (fed_with (held_of e) e.fed v, answer_of (held_of e) v)) (Err (refusal Fault.Order 0))
step_with e None = Err (refusal Fault.Field 0)

unfoldable pub step_of : Evaluator → List ℕ → Result (Evaluator × Both Settled) Refusal
step_of e r =
    cond (eqb (length r) 48)
    (cond (evaluator_meets e) (step_with e (interval_of r)) (Err (refusal Fault.Field 0)))
    (Err (refusal Fault.Length 0))

-- the same with the evaluator left behind: a refusal leaves it as it was
pub record Moved : Type 0 where
  pub evaluator : Evaluator
  pub told : Result (Both Settled) Refusal

abbrev pub moved_to : Evaluator → Result (Both Settled) Refusal → Moved
moved_to e a = record { evaluator = e; told = a }

abbrev pub moved_by : Evaluator → Result (Evaluator × Both Settled) Refusal → Moved
moved_by e (Ok (next, a)) = moved_to next (Ok a)
moved_by e (Err x) = moved_to e (Err x)

abbrev pub moved_of : Evaluator → List ℕ → Moved
moved_of e r = moved_by e (step_of e r)

-- what its words say, taken apart: the label settings, if they are valid; and with them both tracks, if all of it is valid
unfoldable pub label_read : Evaluator → Option LabelSettings
label_read e = cond (label_meets (label_of e)) (Some (label_of e)) None

-- words that fit the fields of label settings, and words cut down to those fields
unfoldable pub fit_rules : Evaluator → List Bool
fit_rules e =
    ltb e.length 4294967296
    ∷ ltb e.n 256
    ∷ ltb e.p 256
    ∷ ltb e.weights 256
    ∷ ltb e.c 4294967296
    ∷ ltb e.u 4294967296
    ∷ ltb e.dl 4294967296
    ∷ ltb e.jt 4294967296
    ∷ []

unfoldable pub fits_words : Evaluator → Bool
fits_words e = all_met (fit_rules e)

unfoldable pub narrow_of : Evaluator → LabelSettings
narrow_of e =
    record {
      length = e.length % 4294967296;
      n = e.n % 256;
      p = e.p % 256;
      weights = e.weights % 256;
      c = e.c % 4294967296;
      u = e.u % 4294967296;
      dl = e.dl % 4294967296;
      jt = e.jt % 4294967296;
    }

unfoldable pub held_read : Evaluator → Option Held
held_read e =
    cond (evaluator_meets e) (Some (held_of e)) None
