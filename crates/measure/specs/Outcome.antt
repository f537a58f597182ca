-- What the operation `interval` answers and leaves in the caller's buffer, for every input, in document 01's order of refusals.
use Rattle.std.specs.Prelude.{ℕ, suc, ◌+◌, ◌*◌, ◌≡◌, Bool, true, false, ◌&&◌, List, [], ◌∷◌, length, leb, ltb, eqb, Option, Some, None, Result, Ok, Err}
use Rattle.numbers.specs.Bytes.{placed}
use Rattle.numbers.specs.Limits.{intervals, frames}
use Rattle.numbers.specs.Many.{count_of, read_each}
use Rattle.numbers.specs.Refusals.{refusal}
use Rattle.numbers.specs.Room.{has_room}
use Rattle.numbers.specs.declared.refusal.Fault.{Fault}
use Rattle.numbers.specs.declared.refusal.Refusal.{Refusal}
use Rattle.settings.specs.Settings.{settings_of}
use Rattle.settings.specs.declared.LabelSettings.{LabelSettings}
use Rattle.frames.specs.Frame.{frame_of}
use Rattle.frames.specs.declared.Frame.{Frame}
use Rattle.intervals.specs.Interval.{interval_bytes}
use Rattle.measure.specs.Measured.{measured}
use Rattle.settings.specs.declared.Settings.{Settings}
use Rattle.intervals.specs.declared.Interval.{Interval}

-- what each of n frame records says, from the k-th on
abbrev pub reads_from : ℕ → List ℕ → ℕ → List (Option Frame)
reads_from = read_each frame_of 16

-- the frames that were read, or the first fault
pub data Frames : Type 0 where
  sound : List Frame → Frames
  faulty : Refusal → Frames

abbrev pub with : Frame → Frames → Frames
with f (sound fs) = sound (f ∷ fs)
with f (faulty r) = faulty r

abbrev pub unless : Bool → Refusal → Frames → Frames
unless true r fs = fs
unless false r fs = faulty r

-- record by record, counted from `place`: it breaks its own rules; its time is not from `from` to before `to`; it is before `earliest`, one past the last time
unfoldable pub frames_in : ℕ → ℕ → ℕ → ℕ → List (Option Frame) → Frames
frames_in from to place earliest [] = sound []
frames_in from to place earliest (None ∷ rest) = faulty (refusal Fault.Field place)
frames_in from to place earliest (Some f ∷ rest) =
    unless (leb from f.time && ltb f.time to) (refusal Fault.Outside place)
    (unless (leb earliest f.time) (refusal Fault.Order place)
    (with f (frames_in from to (suc place) (f.time + 1) rest)))

-- an interval's length in ns: interval k has the times from k × length to before (k + 1) × length
unfoldable pub length_of : LabelSettings → ℕ
length_of l = l.length * 1000000

-- the interval of frames that are sound
abbrev pub judged_of : LabelSettings → ℕ → Bool → Frames → Result Interval Refusal
judged_of l k maintenance (sound fs) = Ok (measured l k maintenance fs)
judged_of l k maintenance (faulty r) = Err r

-- the first of these that holds is refused
abbrev pub refuse_if : Bool → Fault → Result Interval Refusal → Result Interval Refusal
refuse_if true f j = Err (refusal f 0)
refuse_if false f j = j

unfoldable pub judged_frames : LabelSettings → ℕ → ℕ → ℕ → List ℕ → Result Interval Refusal
judged_frames l n number maintenance s =
    refuse_if (ltb frames n) Fault.Full
    (refuse_if (leb intervals number) Fault.Field
    (refuse_if (ltb 1 maintenance) Fault.Field
    (judged_of l number (eqb maintenance 1) (frames_in (number * length_of l) ((number + 1) * length_of l) 0 0 (reads_from n s 0)))))

abbrev pub judged_count : LabelSettings → Option ℕ → Bool → ℕ → ℕ → List ℕ → Result Interval Refusal
judged_count l None room number maintenance s = Err (refusal Fault.Length 0)
judged_count l (Some n) false number maintenance s = Err (refusal Fault.Room 0)
judged_count l (Some n) true number maintenance s = judged_frames l n number maintenance s

abbrev pub judged_settings : Option Settings → Bool → ℕ → ℕ → List ℕ → Result Interval Refusal
judged_settings None room number maintenance s = Err (refusal Fault.Settings 0)
judged_settings (Some v) room number maintenance s = judged_count v.label (count_of (length s) 16) room number maintenance s

-- the interval, or the refusal
unfoldable pub judged : List ℕ → List ℕ → ℕ → ℕ → ℕ → ℕ → Result Interval Refusal
judged settings s number maintenance len at = judged_settings (settings_of settings) (has_room len at 48) number maintenance s

-- what is answered, and what the buffer holds
abbrev pub answer_of : Result Interval Refusal → Result (Unit {0}) Refusal
answer_of (Ok v) = Ok tt
answer_of (Err r) = Err r

abbrev pub left_of : Result Interval Refusal → List ℕ → ℕ → List ℕ
left_of (Ok v) out at = placed out at (interval_bytes v)
left_of (Err r) out at = out

pub record Outcome (settings s : List ℕ) (number maintenance : ℕ) (out : List ℕ) (at : ℕ) (answer : Result (Unit {0}) Refusal) (after : List ℕ) : Type 0 where
  pub answered : answer ≡ answer_of (judged settings s number maintenance (length out) at)
  pub left : after ≡ left_of (judged settings s number maintenance (length out) at) out at
