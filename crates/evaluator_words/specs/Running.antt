-- What `mip_start` and `mip_step` answer and what they leave in the caller's words.
use Rattle.std.specs.Prelude.{ℕ, Bool, true, false, cond, ◌&&◌, List, [], ◌∷◌, ◌++◌, ◌≡◌, length, get_or, leb, eqb, Result, Ok, Err}
use Rattle.evaluator.specs.Evaluators.{start_of, step_of}
use Rattle.evaluator.specs.declared.Evaluator.{Evaluator}
use Rattle.numbers.specs.Refusals.{refusal}
use Rattle.numbers.specs.declared.refusal.Fault.{Fault}
use Rattle.words.specs.Word.{word_of}
use Rattle.words.specs.Written.{over}
use Rattle.numbers.specs.declared.refusal.Refusal.{Refusal}
use Rattle.rule.specs.declared.Both.{Both}
use Rattle.evaluator.specs.declared.Settled.{Settled}

-- an evaluator's words: label settings, number fed, and label and number pending of the loss track and of the composite track
abbrev pub setting_words : Evaluator → List ℕ
setting_words e = e.length ∷ e.n ∷ e.p ∷ e.weights ∷ e.c ∷ e.u ∷ e.dl ∷ e.jt ∷ []

abbrev pub state_words : Evaluator → List ℕ
state_words e = e.fed ∷ e.loss_label ∷ e.loss_pending ∷ e.composite_label ∷ e.composite_pending ∷ []

abbrev pub evaluator_words : Evaluator → List ℕ
evaluator_words e = setting_words e ++ state_words e

-- the evaluator that words hold
unfoldable pub evaluator_in : List ℕ → Evaluator
evaluator_in w =
    record {
      length = get_or w 0 0;
      n = get_or w 1 0;
      p = get_or w 2 0;
      weights = get_or w 3 0;
      c = get_or w 4 0;
      u = get_or w 5 0;
      dl = get_or w 6 0;
      jt = get_or w 7 0;
      fed = get_or w 8 0;
      loss_label = get_or w 9 0;
      loss_pending = get_or w 10 0;
      composite_label = get_or w 11 0;
      composite_pending = get_or w 12 0;
    }

-- count and label of what a step settled, on the loss track and on the composite track
abbrev pub settled_words : Both Settled → List ℕ
settled_words a = a.loss.count ∷ a.loss.label ∷ a.composite.count ∷ a.composite.label ∷ []

-- `start`, with ROOM behind SETTINGS: the evaluator needs 13 words
abbrev pub if_room : Result Evaluator Refusal → Bool → Result Evaluator Refusal
if_room (Err r) room = Err r
if_room (Ok e) true = Ok e
if_room (Ok e) false = Err (refusal Fault.Room 0)

unfoldable pub start_told : List ℕ → ℕ → Result Evaluator Refusal
start_told s room = if_room (start_of s) (leb 13 room)

abbrev pub start_word : Result Evaluator Refusal → ℕ
start_word (Ok e) = 0
start_word (Err r) = word_of r

-- a refusal writes nothing
abbrev pub start_words : Result Evaluator Refusal → List ℕ → List ℕ
start_words (Ok e) words = over (evaluator_words e) words
start_words (Err r) words = words

pub record StartLeft (s before : List ℕ) (result : ℕ) (after : List ℕ) : Type 0 where
  pub word : result ≡ start_word (start_told s (length before))
  pub words : after ≡ start_words (start_told s (length before)) before

-- `step`, with LENGTH where the record is not 48 bytes or the evaluator is shorter than 13 words, then ROOM for the 4 words of the answer
unfoldable pub step_told : List ℕ → List ℕ → ℕ → Result (Evaluator × Both Settled) Refusal
step_told words r room =
    cond (eqb (length r) 48 && leb 13 (length words))
    (cond (leb 4 room) (step_of (evaluator_in words) r) (Err (refusal Fault.Room 0)))
    (Err (refusal Fault.Length 0))

abbrev pub step_word : Result (Evaluator × Both Settled) Refusal → ℕ
step_word (Ok (e, a)) = 0
step_word (Err r) = word_of r

abbrev pub evaluator_left : Result (Evaluator × Both Settled) Refusal → List ℕ → List ℕ
evaluator_left (Ok (e, a)) words = over (evaluator_words e) words
evaluator_left (Err r) words = words

abbrev pub settled_left : Result (Evaluator × Both Settled) Refusal → List ℕ → List ℕ
settled_left (Ok (e, a)) words = over (settled_words a) words
settled_left (Err r) words = words

pub record StepLeft (words r settled : List ℕ) (result : ℕ) (after settled_after : List ℕ) : Type 0 where
  pub word : result ≡ step_word (step_told words r (length settled))
  pub evaluator : after ≡ evaluator_left (step_told words r (length settled)) words
  pub answer : settled_after ≡ settled_left (step_told words r (length settled)) settled
