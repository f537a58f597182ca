-- What each operation answers is the first line of its list that holds, by document 01's number and place: one law for each operation, of whatever its contract allows, refused or not. Each goes test by
-- test through the operation's definition, which names faults; `number_of` gives them their numbers here, and the lists have 01's own.
-- Assumes nothing.
use mathlib.Core.Path.{◌≡◌, refl, ap, sym, ◌∙◌}
use mathlib.Core.Bool.{Bool, true, false, cond, not, ◌&&◌}
use mathlib.Core.List.{List, [], ◌∷◌, ◌++◌, append-nil}
use Prim.Native.Nat.{ℕ, zero, suc, ◌+◌, ◌*◌, ◌/◌, ◌%◌}
use native.Mathlib.Nat.{add-zero, zero-add}
use native.Mathlib.Decide.{dec_lt}
use native.Mathlib.Omega.{arith}
use lib.ListN.{length}
use lib.Dec.{leb, ltb, eqb}
use borrow.Author.Tests.{lt-ltb, le-ltb}
use Rattle.std.specs.Prelude.{Option, Some, None, Result, Ok, Err}
use Rattle.numbers.specs.Limits.{intervals, frames, delays, largest_delay, pairs}
use Rattle.numbers.specs.Many.{count_of, whole_if}
use Rattle.numbers.specs.Refusals.{number_of, refusal}
use Rattle.numbers.specs.Room.{has_room}
use Rattle.numbers.specs.declared.refusal.Fault.{Fault}
use Rattle.settings.specs.Settings.{settings_of, same_label}
use Rattle.settings.specs.declared.LabelSettings.{LabelSettings}
use Rattle.settings.specs.declared.Settings.{Settings}
use Rattle.intervals.specs.Interval.{interval_of}
use Rattle.intervals.specs.Sequence.{intervals_in, ordered_if, checked}
use Rattle.measure.specs.Outcome as measure
use Rattle.percentile.specs.Percentile.{percentile, range, place_above}
use Rattle.delays.specs.Outcome as list
use Rattle.labels.specs.Stretch as labels
use Rattle.evaluator.specs.Evaluators.{held_of, evaluator_meets, start_from, start_of, answer_of, fed_with, step_with, step_of}
use Rattle.evaluator.specs.declared.Evaluator.{Evaluator}
use Rattle.summaries.specs.Stored.{summary_of}
use Rattle.summaries.specs.declared.Summary.{Summary}
use Rattle.summaries.specs.Made.{made_of}
use Rattle.gathering.specs.Gathering.{good_if, gathered}
use Rattle.making.specs.Making as making
use Rattle.joining.specs.Joining as joining
use Rattle.periods.specs.Stretches.{held_if, first_of, after_of, label_of, period_of, stretch_held, first_held, after_held, label_held}
use Rattle.periods.specs.declared.Stretch.{Stretch}
use Rattle.reports.specs.Three as three
use Rattle.verdicts.specs.Verdicts.{verdicts_of}
use Rattle.sets.specs.Sets as sets
use Rattle.answers.specs.Lines.{Line, line, Told, told, answered, told_of, first_line}
use Rattle.answers.specs.Operations.{bad_settings, nanoseconds, wanted, ragged, bad_interval, not_next, interval_lines, frame_lines, delay_lines, bad_stretch, unlike, apart, three_lines, pair_lines, interval_refusals, interval_told, labels_refusals, labels_told, start_refusals, start_told, step_refusals, step_told, delays_refusals, delays_told, summary_refusals, summary_told, join_refusals, join_told, report_refusals, report_told, verdicts_refusals, verdicts_told}
use Rattle.frames.specs.declared.Frame.{Frame}
use Rattle.intervals.specs.declared.Interval.{Interval}
use Rattle.numbers.specs.declared.refusal.Refusal.{Refusal}
use Rattle.delays.specs.declared.Figures.{Figures}
use Rattle.tallies.specs.declared.Period.{Period}
use Rattle.rule.specs.declared.Both.{Both}
use Rattle.evaluator.specs.declared.Settled.{Settled}
use Rattle.verdicts.specs.declared.PerObjective.{PerObjective}
use Rattle.verdicts.specs.declared.Verdict.{Verdict}

-- records in a sequence: the first fault is the first line that holds

sequence_told : Result (Unit {0}) Refusal → Told
sequence_told (Ok tt) = answered
sequence_told (Err r) = told_of r

ordered_number : (b : Bool) (place : ℕ) (rest : Result (Unit {0}) Refusal) (xs : List Line) → sequence_told rest ≡ first_line xs → sequence_told (ordered_if b place rest) ≡ first_line (line (not b) 7 place ∷ xs)
unfolding sequence_told first_line
ordered_number true place rest xs h = h
ordered_number false place rest xs h = refl

records_number : (next place : ℕ) (xs : List (Option Interval)) → sequence_told (checked next place xs) ≡ first_line (interval_lines next place xs)
unfolding sequence_told checked interval_lines first_line
records_number next place [] = refl
records_number next place (None ∷ xs) = refl
records_number next place (Some v ∷ xs) =
    ordered_number (eqb v.number next) place (checked (suc next) (suc place) xs) (interval_lines (suc next) (suc place) xs) (records_number (suc next) (suc place) xs)

-- interval

frames_told : measure.Frames → Told
frames_told (measure.sound fs) = answered
frames_told (measure.faulty r) = told_of r

frames_number : (from to place earliest : ℕ) (xs : List (Option Frame)) → frames_told (measure.frames_in from to place earliest xs) ≡ first_line (frame_lines from to place earliest xs)
unfolding frames_told measure.frames_in frame_lines first_line
frames_number from to place earliest [] = refl
frames_number from to place earliest (None ∷ xs) = refl
frames_number from to place earliest (Some f ∷ xs) =
    by (leb from f.time && ltb f.time to) (leb earliest f.time) (measure.frames_in from to (suc place) (f.time + 1) xs) (frames_number from to (suc place) (f.time + 1) xs)
  where
    by :
        (inside later : Bool) (rest : measure.Frames) → frames_told rest ≡ first_line (frame_lines from to (suc place) (f.time + 1) xs) →
        frames_told (measure.unless inside (refusal Fault.Outside place) (measure.unless later (refusal Fault.Order place) (measure.with f rest)))
        ≡ first_line (line (not inside) 6 place ∷ line (not later) 7 place ∷ frame_lines from to (suc place) (f.time + 1) xs)
    by false later rest h = refl
    by true false rest h = refl
    by true true (measure.sound fs) h = h
    by true true (measure.faulty r) h = h

frames_told_lem : (l : LabelSettings) (number : ℕ) (b : Bool) (fs : measure.Frames) → interval_told (measure.answer_of (measure.judged_of l number b fs)) ≡ frames_told fs
unfolding frames_told
frames_told_lem l number b (measure.sound fs) = refl
frames_told_lem l number b (measure.faulty r) = refl

arguments_number :
    (l : LabelSettings) (number : ℕ) (b full high odd : Bool) (fs : measure.Frames) (xs : List Line) → frames_told fs ≡ first_line xs →
    interval_told (measure.answer_of (measure.refuse_if full Fault.Full (measure.refuse_if high Fault.Field (measure.refuse_if odd Fault.Field (measure.judged_of l number b fs)))))
    ≡ first_line (line full 4 0 ∷ line high 5 0 ∷ line odd 5 0 ∷ xs)
unfolding first_line
arguments_number l number b true high odd fs xs h = refl
arguments_number l number b false true odd fs xs h = refl
arguments_number l number b false false true fs xs h = refl
arguments_number l number b false false false fs xs h = frames_told_lem l number b fs ∙ h

module _ (s : List ℕ) (number maintenance : ℕ) where
  lines_behind_room : ℕ → List Line
  lines_behind_room ns =
      line (ltb frames (length s / 16)) 4 0
      ∷ line (leb intervals number) 5 0
      ∷ line (ltb 1 maintenance) 5 0
      ∷ frame_lines (number * ns) ((number + 1) * ns) 0 0 (measure.reads_from (length s / 16) s 0)

  interval_by_count :
      (l : LabelSettings) (whole room : Bool) →
      interval_told (measure.answer_of (measure.judged_count l (whole_if whole (length s / 16)) room number maintenance s))
      ≡ first_line (line (not whole) 2 0 ∷ line (not room) 3 0 ∷ lines_behind_room (measure.length_of l))
  unfolding first_line lines_behind_room measure.judged_frames
  interval_by_count l false room = refl
  interval_by_count l true false = refl
  interval_by_count l true true =
      arguments_number l number (eqb maintenance 1) (ltb frames (length s / 16)) (leb intervals number) (ltb 1 maintenance)
      (measure.frames_in (number * measure.length_of l) ((number + 1) * measure.length_of l) 0 0 (measure.reads_from (length s / 16) s 0))
      (frame_lines (number * measure.length_of l) ((number + 1) * measure.length_of l) 0 0 (measure.reads_from (length s / 16) s 0))
      (frames_number (number * measure.length_of l) ((number + 1) * measure.length_of l) 0 0 (measure.reads_from (length s / 16) s 0))

  interval_by_settings :
      (x : Option Settings) (room : Bool) →
      interval_told (measure.answer_of (measure.judged_settings x room number maintenance s))
      ≡ first_line (line (bad_settings x) 1 0 ∷ line (ragged 16 s) 2 0 ∷ line (not room) 3 0 ∷ lines_behind_room (nanoseconds x))
  unfolding first_line count_of
  interval_by_settings None room = refl
  interval_by_settings (Some v) room = interval_by_count v.label (eqb (length s % 16) 0) room

  pub interval_answers_number :
      (settings out : List ℕ) (at : ℕ) {answer : (Result (Unit {0}) Refusal)} {after : List ℕ} → measure.Outcome settings s number maintenance out at answer after →
      interval_told answer ≡ first_line (interval_refusals settings s number maintenance (length out) at)
  unfolding interval_refusals lines_behind_room measure.judged
  interval_answers_number settings out at o = ap interval_told o.answered ∙ interval_by_settings (settings_of settings) (has_room (length out) at 48)

-- labels

module _ (s out : List ℕ) (at : ℕ) where
  labels_by_records : (l : LabelSettings) (c : Result (Unit {0}) Refusal) → labels_told (labels.when_checked l s out at c).answer ≡ sequence_told c
  unfolding sequence_told
  labels_by_records l (Ok tt) = refl
  labels_by_records l (Err r) = refl

  labels_by_room :
      (l : LabelSettings) (room : Bool) →
      labels_told (cond room (labels.when_checked l s out at (checked 0 0 (intervals_in s))) (labels.refuse Fault.Room out)).answer
      ≡ first_line (line (not room) 3 0 ∷ interval_lines 0 0 (intervals_in s))
  unfolding first_line
  labels_by_room l false = refl
  labels_by_room l true = labels_by_records l (checked 0 0 (intervals_in s)) ∙ records_number 0 0 (intervals_in s)

  labels_by_count :
      (l : LabelSettings) (whole : Bool) →
      labels_told (labels.when_counted l s out at (whole_if whole (length s / 48))).answer
      ≡ first_line (line (not whole) 2 0 ∷ line (not (has_room (length out) at (2 * (length s / 48)))) 3 0 ∷ interval_lines 0 0 (intervals_in s))
  unfolding first_line
  labels_by_count l false = refl
  labels_by_count l true = labels_by_room l (has_room (length out) at (2 * (length s / 48)))

  labels_by_settings :
      (x : Option Settings) →
      labels_told (labels.when_read s out at x).answer
      ≡ first_line (line (bad_settings x) 1 0 ∷ line (ragged 48 s) 2 0 ∷ line (not (has_room (length out) at (2 * (length s / 48)))) 3 0 ∷ interval_lines 0 0 (intervals_in s))
  unfolding first_line count_of
  labels_by_settings None = refl
  labels_by_settings (Some v) = labels_by_count v.label (eqb (length s % 48) 0)

  pub labels_answers_number :
      (settings : List ℕ) {answer : (Result (Unit {0}) Refusal)} {after : List ℕ} → labels.outcome answer after ≡ labels.labels_of settings s out at →
      labels_told answer ≡ first_line (labels_refusals settings s (length out) at)
  unfolding labels_refusals labels.labels_of
  labels_answers_number settings e = ap (λ (o : labels.Outcome). labels_told o.answer) e ∙ labels_by_settings (settings_of settings)

-- start and step

start_by_settings : (x : Option Settings) → start_told (start_from x) ≡ first_line (line (bad_settings x) 1 0 ∷ [])
unfolding first_line
start_by_settings (Some v) = refl
start_by_settings None = refl

pub start_answers_number : (settings : List ℕ) {r : (Result Evaluator Refusal)} → r ≡ start_of settings → start_told r ≡ first_line (start_refusals settings)
unfolding start_refusals start_of
start_answers_number settings e = ap start_told e ∙ start_by_settings (settings_of settings)

module _ (e : Evaluator) where
  step_by_number :
      (v : Evaluator) (a : Both Settled) (next : Bool) → step_told (cond next (Ok (v, a)) (Err (refusal Fault.Order 0))) ≡ first_line (line (not next) 7 0 ∷ [])
  unfolding first_line
  step_by_number v a true = refl
  step_by_number v a false = refl

  step_by_record : (x : Option Interval) → step_told (step_with e x) ≡ first_line (line (bad_interval x) 5 0 ∷ line (not_next e.fed x) 7 0 ∷ [])
  unfolding first_line
  step_by_record None = refl
  step_by_record (Some v) = step_by_number (fed_with (held_of e) e.fed v) (answer_of (held_of e) v) (eqb v.number e.fed)

  step_by_state :
      (whole valid : Bool) (x : Option Interval) →
      step_told (cond whole (cond valid (step_with e x) (Err (refusal Fault.Field 0))) (Err (refusal Fault.Length 0)))
      ≡ first_line (line (not whole) 2 0 ∷ line (not valid) 5 0 ∷ line (bad_interval x) 5 0 ∷ line (not_next e.fed x) 7 0 ∷ [])
  unfolding first_line
  step_by_state false valid x = refl
  step_by_state true false x = refl
  step_by_state true true x = step_by_record x

  pub step_answers_number : (s : List ℕ) {r : (Result (Evaluator × Both Settled) Refusal)} → r ≡ step_of e s → step_told r ≡ first_line (step_refusals e s)
  unfolding step_refusals step_of
  step_answers_number s h = ap step_told h ∙ step_by_state (eqb (length s) 48) (evaluator_meets e) (interval_of s)

-- delays

-- the first delay that is too large
later_within : (a b : ℕ) → ltb (suc a) (suc b) ≡ ltb a b
later_within a b =
    elim (dec_lt a b) [
      | yes h ↦ lt-ltb (suc a) (suc b) (omega arith) ∙ sym (lt-ltb a b h)
      | no h ↦ le-ltb (suc a) (suc b) (omega arith) ∙ sym (le-ltb a b (omega arith))
    ]

above_number : (place : ℕ) (xs : List ℕ) → cond (ltb (place_above largest_delay xs) (length xs)) (told 5 (place + place_above largest_delay xs)) answered ≡ first_line (delay_lines place xs)
unfolding first_line delay_lines place_above
above_number place [] = refl
above_number place (x ∷ xs) = by (leb x largest_delay) (above_number (suc place) xs)
  where
    by :
        (small : Bool) → cond (ltb (place_above largest_delay xs) (length xs)) (told 5 (suc place + place_above largest_delay xs)) answered ≡ first_line (delay_lines (suc place) xs) →
        cond (ltb (cond small (suc (place_above largest_delay xs)) 0) (suc (length xs))) (told 5 (place + cond small (suc (place_above largest_delay xs)) 0)) answered
        ≡ first_line (line (not small) 5 place ∷ delay_lines (suc place) xs)
    by false h = rw (lt-ltb 0 (suc (length xs)) (omega arith), add-zero)
    by true h =
        let moved : place + suc (place_above largest_delay xs) ≡ suc place + place_above largest_delay xs = omega arith in
        rw (later_within (place_above largest_delay xs) (length xs), moved) h

delays_by_list :
    (few late : Bool) (k : ℕ) (v : Settings) (d r : ℕ) (ys : List Line) → cond late (told 5 k) answered ≡ first_line ys →
    delays_told (list.pick few (list.pick late (Err (refusal Fault.Field k)) (list.answered v d r)) (Err (refusal Fault.Full 0))) ≡ first_line (line (not few) 4 0 ∷ ys)
unfolding first_line
delays_by_list false late k v d r ys h = refl
delays_by_list true true k v d r ys h = h
delays_by_list true false k v d r ys h = h

delays_by_settings :
    (x : Option Settings) (xs : List ℕ) →
    delays_told (list.with_settings x xs) ≡ first_line (line (bad_settings x) 1 0 ∷ line (not (leb (length xs) delays)) 4 0 ∷ delay_lines 0 xs)
unfolding first_line list.judged
delays_by_settings None xs = refl
delays_by_settings (Some v) xs =
    delays_by_list (leb (length xs) delays) (ltb (place_above largest_delay xs) (length xs)) (place_above largest_delay xs) v (percentile v.percentile xs) (range v.percentile xs) (delay_lines 0 xs)
    (ap (λ k. cond (ltb (place_above largest_delay xs) (length xs)) (told 5 k) answered) (sym (zero-add (place_above largest_delay xs))) ∙ above_number 0 xs)

pub delays_answers_number : (settings xs : List ℕ) {r : (Result Figures Refusal)} → r ≡ list.outcome settings xs → delays_told r ≡ first_line (delays_refusals settings xs)
unfolding delays_refusals list.outcome
delays_answers_number settings xs e = ap delays_told e ∙ delays_by_settings (settings_of settings) xs

-- summary

module _ (first : ℕ) (s : List ℕ) where
  summary_by_records : (c : Result (Unit {0}) Refusal) (v : Summary) → summary_told (making.answer_of (good_if c v)) ≡ sequence_told c
  unfolding sequence_told
  summary_by_records (Ok tt) v = refl
  summary_by_records (Err r) v = refl

  summary_by_first :
      (l : LabelSettings) (high : Bool) →
      summary_told (making.answer_of (cond high (Err (refusal Fault.Field 0)) (gathered l first s))) ≡ first_line (line high 5 0 ∷ interval_lines first 0 (intervals_in s))
  unfolding first_line gathered
  summary_by_first l true = refl
  summary_by_first l false =
      summary_by_records (checked first 0 (intervals_in s)) (made_of l first (labels.intervals_of (intervals_in s))) ∙ records_number first 0 (intervals_in s)

  summary_by_count :
      (l : LabelSettings) (whole room : Bool) →
      summary_told (making.answer_of (making.gathered_count l (whole_if whole (length s / 48)) room first s))
      ≡ first_line (line (not whole) 2 0 ∷ line (not room) 3 0 ∷ line (ltb intervals first) 5 0 ∷ interval_lines first 0 (intervals_in s))
  unfolding first_line
  summary_by_count l false room = refl
  summary_by_count l true false = refl
  summary_by_count l true true = summary_by_first l (ltb intervals first)

  summary_by_settings :
      (x : Option Settings) (room : Bool) →
      summary_told (making.answer_of (making.gathered_settings x room first s))
      ≡ first_line (line (bad_settings x) 1 0 ∷ line (ragged 48 s) 2 0 ∷ line (not room) 3 0 ∷ line (ltb intervals first) 5 0 ∷ interval_lines first 0 (intervals_in s))
  unfolding first_line count_of
  summary_by_settings None room = refl
  summary_by_settings (Some v) room = summary_by_count v.label (eqb (length s % 48) 0) room

  pub summary_answers_number :
      (settings out : List ℕ) (at : ℕ) {answer : (Result (Unit {0}) Refusal)} {after : List ℕ} → making.Outcome settings first s out at answer after →
      summary_told answer ≡ first_line (summary_refusals settings first s (length out) at)
  unfolding summary_refusals making.made
  summary_answers_number settings out at o = ap summary_told o.answered ∙ summary_by_settings (settings_of settings) (has_room (length out) at 1024)

-- join

-- a test that goes before what else is judged
join_unless :
    (b : Bool) (f : Fault) (k : ℕ) (j : joining.Judged) (xs : List Line) → join_told (joining.answer_of j) ≡ first_line xs →
    join_told (joining.answer_of (joining.unless b f k j)) ≡ first_line (line (not b) (number_of f) k ∷ xs)
unfolding first_line
join_unless true f k j xs h = h
join_unless false f k j xs h = refl

join_by_reads :
    (x y : Option Summary) →
    join_told (joining.answer_of (joining.judged_reads x y))
    ≡ first_line (line (bad_stretch (held_if x)) 5 0 ∷ line (bad_stretch (held_if y)) 5 1 ∷ line (unlike (held_if x) (held_if y)) 8 1 ∷ line (apart (held_if x) (held_if y)) 7 1 ∷ [])
unfolding first_line
join_by_reads None y = refl
join_by_reads (Some a) None = refl
join_by_reads (Some a) (Some b) =
    rw (label_held (record { held = a }), label_held (record { held = b }), after_held (record { held = a }), first_held (record { held = b }))
    (join_unless (same_label a.label b.label) Fault.Mismatch 1 _ (line (not (eqb a.after b.first)) 7 1 ∷ [])
    (join_unless (eqb a.after b.first) Fault.Order 1 (joining.good (joining.joined_of a b)) [] refl))

pub join_answers_number :
    (left right out : List ℕ) (at : ℕ) {answer : (Result (Unit {0}) Refusal)} {after : List ℕ} → joining.Outcome left right out at answer after →
    join_told answer ≡ first_line (join_refusals left right (length out) at)
unfolding join_refusals joining.judged
join_answers_number left right out at o =
    rw (stretch_held left, stretch_held right)
    (ap join_told o.answered
    ∙ join_unless (eqb (length left) 1024) Fault.Length 0 _ _
    (join_unless (eqb (length right) 1024) Fault.Length 0 _ _
    (join_unless (has_room (length out) at 1024) Fault.Room 0 _ _ (join_by_reads (summary_of left) (summary_of right)))))

-- report and verdicts

-- what three summaries give, and what is told where they give a report
or_else : Result Period Refusal → Told → Told
or_else (Ok p) t = t
or_else (Err r) t = told_of r

report_unless :
    (b : Bool) (f : Fault) (k : ℕ) (r : Result Period Refusal) (t : Told) (xs : List Line) → or_else r t ≡ first_line xs → or_else (three.unless b f k r) t ≡ first_line (line (not b) (number_of f) k ∷ xs)
unfolding or_else first_line three.unless
report_unless true f k r t xs h = h
report_unless false f k r t xs h = refl

three_by_values :
    (w : Option LabelSettings) (base : ℕ) (a b c : Stretch) (t : Told) (xs : List Line) → t ≡ first_line xs →
    or_else (three.judged_three w base a b c) t
    ≡ first_line
    (line (not (three.suits w (label_of a))) 8 base
    ∷ line (not (same_label (label_of a) (label_of b))) 8 (base + 1)
    ∷ line (not (same_label (label_of b) (label_of c))) 8 (base + 2)
    ∷ line (not (eqb (first_of a) 0)) 7 base
    ∷ line (not (eqb (after_of a) (first_of b))) 7 (base + 1)
    ∷ line (not (eqb (after_of b) (first_of c))) 7 (base + 2)
    ∷ xs)
unfolding three.judged_three or_else
three_by_values w base a b c t xs h =
    report_unless (three.suits w (label_of a)) Fault.Mismatch base _ t _
    (report_unless (same_label (label_of a) (label_of b)) Fault.Mismatch (base + 1) _ t _
    (report_unless (same_label (label_of b) (label_of c)) Fault.Mismatch (base + 2) _ t _
    (report_unless (eqb (first_of a) 0) Fault.Order base _ t _
    (report_unless (eqb (after_of a) (first_of b)) Fault.Order (base + 1) _ t _
    (report_unless (eqb (after_of b) (first_of c)) Fault.Order (base + 2) (Ok (period_of a b c)) t xs h)))))

three_by_reads :
    (w : Option LabelSettings) (base : ℕ) (x y z : Option Stretch) (t : Told) (xs : List Line) → t ≡ first_line xs → or_else (three.judged_reads w base x y z) t ≡ first_line (three_lines w base x y z ++ xs)
unfolding or_else first_line three_lines
three_by_reads w base None y z t xs h = refl
three_by_reads w base (Some a) None z t xs h = refl
three_by_reads w base (Some a) (Some b) None t xs h = refl
three_by_reads w base (Some a) (Some b) (Some c) t xs h = three_by_values w base a b c t xs h

none_holds : answered ≡ first_line []
unfolding first_line
none_holds = refl

report_told_lem : (r : Result Period Refusal) → report_told r ≡ or_else r answered
unfolding or_else
report_told_lem (Ok p) = refl
report_told_lem (Err r) = refl

pub report_answers_number : (s : List ℕ) {r : (Result Period Refusal)} → r ≡ three.report_of s → report_told r ≡ first_line (report_refusals s)
unfolding report_refusals three.report_of three.three_at
report_answers_number s {r} e =
    report_told_lem r
    ∙ ap (λ x. or_else x answered) e
    ∙ report_unless (eqb (length s) 3072) Fault.Length 0 (three.three_at None s 0) answered (three_lines None 0 (three.summary_at s 0) (three.summary_at s 1) (three.summary_at s 2))
    (three_by_reads None 0 (three.summary_at s 0) (three.summary_at s 1) (three.summary_at s 2) answered [] none_holds
    ∙ ap first_line (append-nil (three_lines None 0 (three.summary_at s 0) (three.summary_at s 1) (three.summary_at s 2))))

module _ (v : Settings) (s : List ℕ) where
  set_by_pair :
      (r : Result Period Refusal) (passed : List (PerObjective Verdict)) (rest : List (Result Period Refusal)) (t : Told) → ((passed : List (PerObjective Verdict)) → verdicts_told (sets.set_from v passed rest) ≡ t) →
      verdicts_told (sets.set_from v passed (r ∷ rest)) ≡ or_else r t
  unfolding sets.set_from or_else
  set_by_pair (Ok p) passed rest t h = h (passed ++ (verdicts_of v p ∷ []))
  set_by_pair (Err r) passed rest t h = refl

  set_by_pairs : (n k : ℕ) (passed : List (PerObjective Verdict)) → verdicts_told (sets.set_from v passed (sets.pairs_from n v.label s k)) ≡ first_line (pair_lines n (Some v.label) s k)
  unfolding sets.set_from sets.pairs_from pair_lines first_line three.three_at
  set_by_pairs zero k passed = refl
  set_by_pairs (suc n) k passed =
      set_by_pair (three.three_at (Some v.label) s (3 * k)) passed (sets.pairs_from n v.label s (suc k)) (first_line (pair_lines n (Some v.label) s (suc k))) (set_by_pairs n (suc k))
      ∙ three_by_reads (Some v.label) (3 * k) (three.summary_at s (3 * k)) (three.summary_at s (3 * k + 1)) (three.summary_at s (3 * k + 2)) _ (pair_lines n (Some v.label) s (suc k)) refl

  set_unless :
      (b : Bool) (f : Fault) (j : Result (PerObjective Verdict) Refusal) (xs : List Line) → verdicts_told j ≡ first_line xs → verdicts_told (sets.unless b f j) ≡ first_line (line (not b) (number_of f) 0 ∷ xs)
  unfolding first_line sets.unless
  set_unless true f j xs h = h
  set_unless false f j xs h = refl

  set_by_number :
      (n : ℕ) →
      verdicts_told (sets.with_settings (Some v) n s)
      ≡ first_line (line (not (leb 1 n && leb n pairs)) 9 0 ∷ line (not (eqb (length s) (n * 3072))) 2 0 ∷ pair_lines n (Some v.label) s 0)
  set_by_number n =
      set_unless (leb 1 n && leb n pairs) Fault.Pairs (sets.unless (eqb (length s) (n * 3072)) Fault.Length (sets.set_from v [] (sets.pairs_from n v.label s 0))) _
      (set_unless (eqb (length s) (n * 3072)) Fault.Length (sets.set_from v [] (sets.pairs_from n v.label s 0)) (pair_lines n (Some v.label) s 0) (set_by_pairs n 0 []))

verdicts_by_settings :
    (x : Option Settings) (n : ℕ) (s : List ℕ) →
    verdicts_told (sets.with_settings x n s)
    ≡ first_line (line (bad_settings x) 1 0 ∷ line (not (leb 1 n && leb n pairs)) 9 0 ∷ line (not (eqb (length s) (n * 3072))) 2 0 ∷ pair_lines n (wanted x) s 0)
unfolding first_line
verdicts_by_settings None n s = refl
verdicts_by_settings (Some v) n s = set_by_number v s n

pub verdicts_answers_number : (settings : List ℕ) (n : ℕ) (s : List ℕ) {r : (Result (PerObjective Verdict) Refusal)} → r ≡ sets.judged_of settings n s → verdicts_told r ≡ first_line (verdicts_refusals settings n s)
unfolding verdicts_refusals sets.judged_of
verdicts_answers_number settings n s e = ap verdicts_told e ∙ verdicts_by_settings (settings_of settings) n s
