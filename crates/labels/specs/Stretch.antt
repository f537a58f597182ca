-- The label bytes of a stretch from interval 0: two for each interval, its loss label and then its composite label.
use Rattle.std.specs.Prelude.{◌≡◌, Bool, true, false, cond, List, [], ◌∷◌, map, ℕ, zero, suc, ◌+◌, ◌*◌, ◌-◌, ◌/◌, ◌≤◌, ◌<◌, length, set, Option, Some, None, Result, Ok, Err}
use Rattle.numbers.specs.Bytes.{placed}
use Rattle.numbers.specs.Many.{count_of}
use Rattle.numbers.specs.Refusals.{refusal}
use Rattle.numbers.specs.Room.{has_room}
use Rattle.numbers.specs.declared.refusal.Fault.{Fault}
use Rattle.settings.specs.Settings.{label_meets, settings_of}
use Rattle.settings.specs.declared.LabelSettings.{LabelSettings}
use Rattle.intervals.specs.Sequence.{intervals_in, checked}
use Rattle.intervals.specs.declared.Interval.{Interval}
use Rattle.rule.specs.Evaluator.{gain, turn, labelling}
use Rattle.rule.specs.Labels.{Label, settled, undecided}
use Rattle.rule.specs.declared.Counts.{Counts}
use Rattle.rule.specs.declared.Track.{Track}
use Rattle.labels.specs.Marked.{loss_mark, composite_mark, loss_high, composite_high}
use Rattle.settings.specs.declared.Settings.{Settings}
use Rattle.numbers.specs.declared.refusal.Refusal.{Refusal}
use Rattle.rule.specs.declared.Both.{Both}

-- 0 unavailable, 1 available, 2 undecided
abbrev pub label_byte : Label → ℕ
label_byte (settled true) = 0
label_byte (settled false) = 1
label_byte undecided = 2

-- the labels of two tracks, side by side
unfoldable pub side_by_side : List Label → List Label → List ℕ
side_by_side [] bs = []
side_by_side (a ∷ as') [] = []
side_by_side (a ∷ as') (b ∷ bs) = label_byte a ∷ label_byte b ∷ side_by_side as' bs

-- the label bytes of known intervals
unfoldable pub label_bytes : LabelSettings → List Interval → List ℕ
label_bytes l vs = side_by_side (labelling l.n (map (loss_mark l) vs)) (labelling l.n (map (composite_mark l) vs))

-- the intervals that were read; a sound sequence has no others
unfoldable pub intervals_of : List (Option Interval) → List Interval
intervals_of [] = []
intervals_of (Some v ∷ rest) = v ∷ intervals_of rest
intervals_of (None ∷ rest) = intervals_of rest

-- what the operation answers and leaves of the buffer
pub record Outcome : Type 0 where
  pub answer : Result (Unit {0}) Refusal
  pub buffer : List ℕ

abbrev pub outcome : Result (Unit {0}) Refusal → List ℕ → Outcome
outcome a out = record { answer = a; buffer = out }

abbrev pub refuse : Fault → List ℕ → Outcome
refuse f out = outcome (Err (refusal f 0)) out

-- in order: the settings, whole records, room for two bytes of each, and the records from the first
abbrev pub when_checked : LabelSettings → List ℕ → List ℕ → ℕ → Result (Unit {0}) Refusal → Outcome
when_checked l r out at (Ok tt) = outcome (Ok tt) (placed out at (label_bytes l (intervals_of (intervals_in r))))
when_checked l r out at (Err x) = outcome (Err x) out

abbrev pub when_whole : LabelSettings → List ℕ → List ℕ → ℕ → ℕ → Outcome
when_whole l r out at n = cond (has_room (length out) at (2 * n)) (when_checked l r out at (checked 0 0 (intervals_in r))) (refuse Fault.Room out)

abbrev pub when_counted : LabelSettings → List ℕ → List ℕ → ℕ → Option ℕ → Outcome
when_counted l r out at (Some n) = when_whole l r out at n
when_counted l r out at None = refuse Fault.Length out

abbrev pub when_read : List ℕ → List ℕ → ℕ → Option Settings → Outcome
when_read r out at (Some v) = when_counted v.label r out at (count_of (length r) 48)
when_read r out at None = refuse Fault.Settings out

unfoldable pub labels_of : List ℕ → List ℕ → List ℕ → ℕ → Outcome
labels_of s r out at = when_read r out at (settings_of s)

-- every second byte from a place on, so many of them, set
unfoldable pub strided : List ℕ → ℕ → ℕ → ℕ → List ℕ
strided l from zero x = l
strided l from (suc c) x = strided (set l from x) (from + 2) c x

-- the labels that the mark of interval k settles on a lane, 0 or 1, of the label bytes
abbrev pub settled_in : List ℕ → ℕ → ℕ → ℕ → Track → Bool → List ℕ
settled_in l k lane n t m = strided l (2 * (k + 1 - gain n t m) + lane) (gain n t m) (label_byte (settled m))

-- both lanes: the marks of an interval, and what is left pending at the end
abbrev pub both_turned : LabelSettings → Both Track → Counts → Both Track
both_turned l t x = record { loss = turn l.n t.loss (loss_high l x); composite = turn l.n t.composite (composite_high l x) }

abbrev pub both_settled : List ℕ → ℕ → LabelSettings → Both Track → Counts → List ℕ
both_settled p k l t x = settled_in (settled_in p k 0 l.n t.loss (loss_high l x)) k 1 l.n t.composite (composite_high l x)

abbrev pub left_in : List ℕ → ℕ → ℕ → Track → List ℕ
left_in p k lane t = strided p (2 * (k - t.pending) + lane) t.pending 2

abbrev pub both_left : List ℕ → ℕ → Both Track → List ℕ
both_left p k t = left_in (left_in p k 0 t.loss) k 1 t.composite

-- what writing asks for: valid settings, tracks that can stand after k intervals, and room
pub record Settling (l : LabelSettings) (k : ℕ) (t : Both Track) (p : List ℕ) : Type 0 where
  pub valid : label_meets l ≡ true
  pub loss_short : t.loss.pending < l.n
  pub composite_short : t.composite.pending < l.n
  pub loss_known : t.loss.pending ≤ k
  pub composite_known : t.composite.pending ≤ k
  pub room : 2 * k + 1 < length p

pub record Leaving (k : ℕ) (t : Both Track) (p : List ℕ) : Type 0 where
  pub loss_known : t.loss.pending ≤ k
  pub composite_known : t.composite.pending ≤ k
  pub room : length p ≡ 2 * k

pub record Writing (l : LabelSettings) (r p : List ℕ) : Type 0 where
  pub valid : label_meets l ≡ true
  pub sound : checked 0 0 (intervals_in r) ≡ Ok tt
  pub room : length p ≡ 2 * (length r / 48)
