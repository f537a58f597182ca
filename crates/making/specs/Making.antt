-- What the operation `summary` answers and leaves in the caller's buffer, for every input, in document 01's order of refusals.
use Rattle.std.specs.Prelude.{ℕ, ◌≡◌, Bool, true, false, cond, List, length, ltb, Option, Some, None, Result, Ok, Err}
use Rattle.numbers.specs.Bytes.{placed}
use Rattle.numbers.specs.Limits.{intervals}
use Rattle.numbers.specs.Many.{count_of}
use Rattle.numbers.specs.Refusals.{refusal}
use Rattle.numbers.specs.Room.{has_room}
use Rattle.numbers.specs.declared.refusal.Fault.{Fault}
use Rattle.settings.specs.Settings.{settings_of}
use Rattle.settings.specs.declared.LabelSettings.{LabelSettings}
use Rattle.summaries.specs.Stored.{summary_bytes}
use Rattle.gathering.specs.Gathering.{gathered}
use Rattle.settings.specs.declared.Settings.{Settings}
use Rattle.numbers.specs.declared.refusal.Refusal.{Refusal}
use Rattle.summaries.specs.declared.Summary.{Summary}

-- in order: the settings, whole records, room, the first number, and the records from the first
abbrev pub gathered_room : LabelSettings → Bool → ℕ → List ℕ → Result Summary Refusal
gathered_room l false first s = Err (refusal Fault.Room 0)
gathered_room l true first s = cond (ltb intervals first) (Err (refusal Fault.Field 0)) (gathered l first s)

abbrev pub gathered_count : LabelSettings → Option ℕ → Bool → ℕ → List ℕ → Result Summary Refusal
gathered_count l None room first s = Err (refusal Fault.Length 0)
gathered_count l (Some n) room first s = gathered_room l room first s

abbrev pub gathered_settings : Option Settings → Bool → ℕ → List ℕ → Result Summary Refusal
gathered_settings None room first s = Err (refusal Fault.Settings 0)
gathered_settings (Some v) room first s = gathered_count v.label (count_of (length s) 48) room first s

-- the summary, or the refusal
unfoldable pub made : List ℕ → ℕ → List ℕ → ℕ → ℕ → Result Summary Refusal
made settings first s len at = gathered_settings (settings_of settings) (has_room len at 1024) first s

-- what is answered, and what the buffer holds
abbrev pub answer_of : Result Summary Refusal → Result (Unit {0}) Refusal
answer_of (Ok v) = Ok tt
answer_of (Err r) = Err r

abbrev pub left_of : Result Summary Refusal → List ℕ → ℕ → List ℕ
left_of (Ok v) out at = placed out at (summary_bytes v)
left_of (Err r) out at = out

pub record Outcome (settings : List ℕ) (first : ℕ) (s out : List ℕ) (at : ℕ) (answer : Result (Unit {0}) Refusal) (after : List ℕ) : Type 0 where
  pub answered : answer ≡ answer_of (made settings first s (length out) at)
  pub left : after ≡ left_of (made settings first s (length out) at) out at
