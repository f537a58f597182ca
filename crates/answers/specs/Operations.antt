-- For each operation its lines, in document 01's order: 1, 9, 2, 3, 4; the number and maintenance arguments; then the records from the first, each 5, 6, 7. For summaries 5 for all, left to right, then 8,
-- then 7; for several pairs, the first pair's refusal. And how each answer is told.
use Rattle.std.specs.Prelude.{ℕ, zero, suc, ◌+◌, ◌*◌, ◌/◌, ◌%◌, Bool, true, false, not, ◌&&◌, List, [], ◌∷◌, ◌++◌, length, leb, ltb, eqb, Option, Some, None, Result, Ok, Err}
use Rattle.numbers.specs.Limits.{intervals, frames, delays, largest_delay, pairs}
use Rattle.numbers.specs.Room.{has_room}
use Rattle.settings.specs.Settings.{settings_of, same_label}
use Rattle.intervals.specs.Interval.{interval_of}
use Rattle.intervals.specs.Sequence.{intervals_in}
use Rattle.measure.specs.Outcome.{length_of, reads_from}
use Rattle.evaluator.specs.Evaluators.{evaluator_meets}
use Rattle.evaluator.specs.declared.Evaluator.{Evaluator}
use Rattle.periods.specs.Stretches.{stretch_of, first_of, after_of, label_of}
use Rattle.reports.specs.Three.{suits, summary_at}
use Rattle.answers.specs.Lines.{Line, line, Told, answered, told_of}
use Rattle.settings.specs.declared.Settings.{Settings}
use Rattle.frames.specs.declared.Frame.{Frame}
use Rattle.intervals.specs.declared.Interval.{Interval}
use Rattle.numbers.specs.declared.refusal.Refusal.{Refusal}
use Rattle.delays.specs.declared.Figures.{Figures}
use Rattle.periods.specs.declared.Stretch.{Stretch}
use Rattle.tallies.specs.declared.Period.{Period}
use Rattle.settings.specs.declared.LabelSettings.{LabelSettings}
use Rattle.rule.specs.declared.Both.{Both}
use Rattle.evaluator.specs.declared.Settled.{Settled}
use Rattle.verdicts.specs.declared.PerObjective.{PerObjective}
use Rattle.verdicts.specs.declared.Verdict.{Verdict}

-- settings

abbrev pub bad_settings : Option Settings → Bool
bad_settings (Some v) = false
bad_settings None = true

-- an interval's length in ns, and the label settings that are wanted; nothing is asked of them where the settings are none
abbrev pub nanoseconds : Option Settings → ℕ
nanoseconds (Some v) = length_of v.label
nanoseconds None = 0

abbrev pub wanted : Option Settings → Option LabelSettings
wanted (Some v) = Some v.label
wanted None = None

-- not a whole number of records
abbrev pub ragged : ℕ → List ℕ → Bool
ragged size s = not (eqb (length s % size) 0)

-- interval records: each 5 where it breaks its own rules, 7 where its number is not the next

abbrev pub bad_interval : Option Interval → Bool
bad_interval (Some v) = false
bad_interval None = true

abbrev pub not_next : ℕ → Option Interval → Bool
not_next next (Some v) = not (eqb v.number next)
not_next next None = false

unfoldable pub interval_lines : ℕ → ℕ → List (Option Interval) → List Line
interval_lines next place [] = []
interval_lines next place (x ∷ xs) = line (bad_interval x) 5 place ∷ line (not_next next x) 7 place ∷ interval_lines (suc next) (suc place) xs

-- frames: each 5 where it breaks its own rules, 6 where its time is not in the interval, 7 where it is not later than the frame before

abbrev pub bad_frame : Option Frame → Bool
bad_frame (Some f) = false
bad_frame None = true

abbrev pub outside : ℕ → ℕ → Option Frame → Bool
outside from to (Some f) = not (leb from f.time && ltb f.time to)
outside from to None = false

abbrev pub not_later : ℕ → Option Frame → Bool
not_later earliest (Some f) = not (leb earliest f.time)
not_later earliest None = false

-- the earliest time of the frame behind
abbrev pub past_time : Option Frame → ℕ
past_time (Some f) = f.time + 1
past_time None = 0

unfoldable pub frame_lines : ℕ → ℕ → ℕ → ℕ → List (Option Frame) → List Line
frame_lines from to place earliest [] = []
frame_lines from to place earliest (x ∷ xs) =
    line (bad_frame x) 5 place ∷ line (outside from to x) 6 place ∷ line (not_later earliest x) 7 place ∷ frame_lines from to (suc place) (past_time x) xs

-- delays: each 5 where it is too large
unfoldable pub delay_lines : ℕ → List ℕ → List Line
delay_lines place [] = []
delay_lines place (x ∷ xs) = line (not (leb x largest_delay)) 5 place ∷ delay_lines (suc place) xs

-- summaries: whether it breaks its own rules, and two of them

abbrev pub bad_stretch : Option Stretch → Bool
bad_stretch (Some a) = false
bad_stretch None = true

abbrev pub unsuited : Option LabelSettings → Option Stretch → Bool
unsuited w (Some a) = not (suits w (label_of a))
unsuited w None = false

abbrev pub unlike : Option Stretch → Option Stretch → Bool
unlike None y = false
unlike (Some a) None = false
unlike (Some a) (Some b) = not (same_label (label_of a) (label_of b))

abbrev pub not_from_zero : Option Stretch → Bool
not_from_zero (Some a) = not (eqb (first_of a) 0)
not_from_zero None = false

abbrev pub apart : Option Stretch → Option Stretch → Bool
apart None y = false
apart (Some a) None = false
apart (Some a) (Some b) = not (eqb (after_of a) (first_of b))

-- three of them, the first of which stands at `base`
unfoldable pub three_lines : Option LabelSettings → ℕ → Option Stretch → Option Stretch → Option Stretch → List Line
three_lines w base a b c =
    line (bad_stretch a) 5 base
    ∷ line (bad_stretch b) 5 (base + 1)
    ∷ line (bad_stretch c) 5 (base + 2)
    ∷ line (unsuited w a) 8 base
    ∷ line (unlike a b) 8 (base + 1)
    ∷ line (unlike b c) 8 (base + 2)
    ∷ line (not_from_zero a) 7 base
    ∷ line (apart a b) 7 (base + 1)
    ∷ line (apart b c) 7 (base + 2)
    ∷ []

-- those of n pairs, from the k-th on
unfoldable pub pair_lines : ℕ → Option LabelSettings → List ℕ → ℕ → List Line
pair_lines zero w s k = []
pair_lines (suc n) w s k = three_lines w (3 * k) (summary_at s (3 * k)) (summary_at s (3 * k + 1)) (summary_at s (3 * k + 2)) ++ pair_lines n w s (suc k)

-- The operations

-- interval(settings, frames, number, maintenance, out of `len` bytes, at)
unfoldable pub interval_refusals : List ℕ → List ℕ → ℕ → ℕ → ℕ → ℕ → List Line
interval_refusals settings s number maintenance len at =
    line (bad_settings (settings_of settings)) 1 0
    ∷ line (ragged 16 s) 2 0
    ∷ line (not (has_room len at 48)) 3 0
    ∷ line (ltb frames (length s / 16)) 4 0
    ∷ line (leb intervals number) 5 0
    ∷ line (ltb 1 maintenance) 5 0
    ∷ frame_lines (number * nanoseconds (settings_of settings)) ((number + 1) * nanoseconds (settings_of settings)) 0 0 (reads_from (length s / 16) s 0)

abbrev pub interval_told : Result (Unit {0}) Refusal → Told
interval_told (Ok tt) = answered
interval_told (Err r) = told_of r

-- labels(settings, intervals, out of `len` bytes, at)
unfoldable pub labels_refusals : List ℕ → List ℕ → ℕ → ℕ → List Line
labels_refusals settings s len at =
    line (bad_settings (settings_of settings)) 1 0 ∷ line (ragged 48 s) 2 0 ∷ line (not (has_room len at (2 * (length s / 48)))) 3 0 ∷ interval_lines 0 0 (intervals_in s)

abbrev pub labels_told : Result (Unit {0}) Refusal → Told
labels_told (Ok tt) = answered
labels_told (Err r) = told_of r

-- start(settings)
unfoldable pub start_refusals : List ℕ → List Line
start_refusals settings = line (bad_settings (settings_of settings)) 1 0 ∷ []

abbrev pub start_told : Result Evaluator Refusal → Told
start_told (Ok e) = answered
start_told (Err r) = told_of r

-- step(evaluator, record): the evaluator goes before the record's fields
unfoldable pub step_refusals : Evaluator → List ℕ → List Line
step_refusals e s =
    line (not (eqb (length s) 48)) 2 0
    ∷ line (not (evaluator_meets e)) 5 0
    ∷ line (bad_interval (interval_of s)) 5 0
    ∷ line (not_next e.fed (interval_of s)) 7 0
    ∷ []

abbrev pub step_told : Result (Evaluator × Both Settled) Refusal → Told
step_told (Ok (e, a)) = answered
step_told (Err r) = told_of r

-- delays(settings, list)
unfoldable pub delays_refusals : List ℕ → List ℕ → List Line
delays_refusals settings xs = line (bad_settings (settings_of settings)) 1 0 ∷ line (not (leb (length xs) delays)) 4 0 ∷ delay_lines 0 xs

abbrev pub delays_told : Result Figures Refusal → Told
delays_told (Ok f) = answered
delays_told (Err r) = told_of r

-- summary(settings, first, intervals, out of `len` bytes, at)
unfoldable pub summary_refusals : List ℕ → ℕ → List ℕ → ℕ → ℕ → List Line
summary_refusals settings first s len at =
    line (bad_settings (settings_of settings)) 1 0
    ∷ line (ragged 48 s) 2 0
    ∷ line (not (has_room len at 1024)) 3 0
    ∷ line (ltb intervals first) 5 0
    ∷ interval_lines first 0 (intervals_in s)

abbrev pub summary_told : Result (Unit {0}) Refusal → Told
summary_told (Ok tt) = answered
summary_told (Err r) = told_of r

-- join(left, right, out of `len` bytes, at)
unfoldable pub join_refusals : List ℕ → List ℕ → ℕ → ℕ → List Line
join_refusals left right len at =
    line (not (eqb (length left) 1024)) 2 0
    ∷ line (not (eqb (length right) 1024)) 2 0
    ∷ line (not (has_room len at 1024)) 3 0
    ∷ line (bad_stretch (stretch_of left)) 5 0
    ∷ line (bad_stretch (stretch_of right)) 5 1
    ∷ line (unlike (stretch_of left) (stretch_of right)) 8 1
    ∷ line (apart (stretch_of left) (stretch_of right)) 7 1
    ∷ []

abbrev pub join_told : Result (Unit {0}) Refusal → Told
join_told (Ok tt) = answered
join_told (Err r) = told_of r

-- report(three summaries)
unfoldable pub report_refusals : List ℕ → List Line
report_refusals s = line (not (eqb (length s) 3072)) 2 0 ∷ three_lines None 0 (summary_at s 0) (summary_at s 1) (summary_at s 2)

abbrev pub report_told : Result Period Refusal → Told
report_told (Ok p) = answered
report_told (Err r) = told_of r

-- verdicts(settings, a number of pairs, their summaries)
unfoldable pub verdicts_refusals : List ℕ → ℕ → List ℕ → List Line
verdicts_refusals settings n s =
    line (bad_settings (settings_of settings)) 1 0 ∷ line (not (leb 1 n && leb n pairs)) 9 0 ∷ line (not (eqb (length s) (n * 3072))) 2 0 ∷ pair_lines n (wanted (settings_of settings)) s 0

abbrev pub verdicts_told : Result (PerObjective Verdict) Refusal → Told
verdicts_told (Ok v) = answered
verdicts_told (Err r) = told_of r
