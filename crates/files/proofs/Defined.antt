-- What a file says, fed in pieces of any sizes, is what its bytes say at once: the refusal of document 01's order; or else, whatever labels are
-- those of its intervals, the report and the verdicts that the definition gives by these labels.
-- Assumes nothing.
use mathlib.Core.Path.{◌≡◌, ap, sym, ◌∙◌, subst}
use mathlib.Core.List.{List, [], ◌++◌, append-nil}
use Prim.Native.Nat.{ℕ, ◌+◌, ◌≤◌}
use lib.ListN.{length}
use Rattle.std.specs.Prelude.{Option, Some, None, Ok, Err}
use Rattle.numbers.specs.Limits.{intervals}
use Rattle.numbers.specs.Many.{count_of}
use Rattle.numbers.specs.Refusals.{refusal}
use Rattle.numbers.specs.Room.{has_room}
use Rattle.numbers.specs.declared.refusal.Fault.{Fault}
use Rattle.numbers.specs.declared.refusal.Refusal.{Refusal}
use Rattle.settings.specs.Settings.{settings_of}
use Rattle.settings.specs.declared.LabelSettings.{LabelSettings}
use Rattle.settings.specs.declared.Settings.{Settings}
use Rattle.settings.proofs.SettingsRecord.{settings_valid}
use Rattle.intervals.specs.Sequence.{intervals_in, checked}
use Rattle.intervals.specs.declared.Interval.{Interval}
use Rattle.rule.specs.Labels.{Label}
use Rattle.labels.specs.Stretch.{intervals_of}
use Rattle.tallies.specs.Report.{Labelled, report}
use Rattle.tallies.proofs.Valid.{AllValid}
use Rattle.summaries.specs.Made.{made_of}
use Rattle.gathering.specs.Gathering.{gathered}
use Rattle.making.specs.Making.{gathered_settings, made}
use Rattle.periods.specs.Stretches.{made_held}
use Rattle.periods.proofs.Promises.{period_defined}
use Rattle.verdicts.proofs.Taken.{verdicts_taken}
use Rattle.feeding.specs.Feeding.{finished_by, begun, Ready, Steps, joined}
use Rattle.feeding.specs.declared.State.{State}
use Rattle.feeding.proofs.Sound.{sound_whole}
use Rattle.feeding.proofs.Whole.{fed_in_pieces}
use Rattle.files.specs.Files.{alone_of, answered, concluded_by, evaluated, defined_answer}

-- For every list of pieces: what is concluded of a state that feeding them has led to is what a file of all their bytes says.
pub file_in_pieces :
    (settings tail : List ℕ) (pieces : List (List ℕ)) {x : State} {last : List ℕ} →
    Steps (begun settings) tail pieces x last → Ready x last →
    concluded_by (settings_of settings) (finished_by x.held x.left) ≡ evaluated settings (joined pieces)
unfolding evaluated
file_in_pieces settings tail pieces steps ready = ap (concluded_by (settings_of settings)) (fed_in_pieces settings tail pieces steps ready)

-- a file is refused as `summary` refuses it
pub file_refused : (settings s : List ℕ) (r : Refusal) → made settings 0 s 1024 0 ≡ Err r → evaluated settings s ≡ Err r
unfolding evaluated made
file_refused settings s r e = by (settings_of settings) e
  where
    by : (x : Option Settings) → gathered_settings x (has_room 1024 0 1024) 0 s ≡ Err r → concluded_by x (gathered_settings x (has_room 1024 0 1024) 0 s) ≡ Err r
    by None f = let g : refusal Fault.Settings 0 ≡ r = cc in ap Err g
    by (Some v) f = ap (concluded_by (Some v)) f

-- the intervals of a file as a period with nothing before and nothing behind it
between_nothing : (l : LabelSettings) (vs : List Interval) (loss composite : ℕ → Label) → Labelled l vs loss composite → Labelled l ([] ++ (vs ++ [])) loss composite
between_nothing l vs loss composite h = subst (λ xs. Labelled l xs loss composite) (sym (append-nil vs)) h

alone_defined :
    (l : LabelSettings) (vs : List Interval) → 1 ≤ l.n → AllValid vs → (loss composite : ℕ → Label) → Labelled l vs loss composite →
    alone_of (made_of l 0 vs) ≡ report l loss composite 0 vs
unfolding alone_of made_of
alone_defined l vs some valid loss composite h =
    rw (sym (made_held l 0 []), sym (made_held l 0 vs), sym (made_held l (0 + length vs) []))
    (period_defined l some [] vs [] valid loss composite (between_nothing l vs loss composite h))

answer_defined :
    (v : Settings) (vs : List Interval) → 1 ≤ v.label.n → AllValid vs → (loss composite : ℕ → Label) → Labelled v.label vs loss composite →
    answered v (alone_of (made_of v.label 0 vs)) ≡ defined_answer v loss composite vs
answer_defined v vs some valid loss composite h =
    ap (answered v) (alone_defined v.label vs some valid loss composite h)
    ∙ (λ i. record { period = report v.label loss composite 0 vs; verdicts = verdicts_taken v [] vs [] loss composite some (between_nothing v.label vs loss composite h) i })

-- a file that is not refused: by whatever labels its intervals have, report and verdicts are the definition's
pub file_defined :
    (settings s : List ℕ) (v : Settings) (n : ℕ) → settings_of settings ≡ Some v → count_of (length s) 48 ≡ Some n →
    checked 0 0 (intervals_in s) ≡ Ok tt → (loss composite : ℕ → Label) → Labelled v.label (intervals_of (intervals_in s)) loss composite →
    evaluated settings s ≡ Ok (defined_answer v loss composite (intervals_of (intervals_in s)))
unfolding evaluated made gathered has_room intervals
file_defined settings s v n valid whole sound loss composite h =
    rw (valid, whole, sound)
    (ap Ok
    (answer_defined v (intervals_of (intervals_in s)) (settings_valid settings v valid).label_facts.n_facts.0 (sound_whole s sound).valid loss composite h))
