-- What is gathered of the records of a stretch: its summary, or the first record that is at fault; and how loops over the records stand to it.
use Rattle.std.specs.Prelude.{ℕ, ◌+◌, ◌≤◌, ◌<◌, ◌≡◌, Bool, true, cond, List, map, length, Option, Result, Ok, Err}
use Rattle.numbers.specs.Limits.{intervals}
use Rattle.settings.specs.Settings.{label_meets}
use Rattle.settings.specs.declared.LabelSettings.{LabelSettings}
use Rattle.intervals.specs.Sequence.{intervals_in, checked}
use Rattle.intervals.specs.declared.Interval.{Interval}
use Rattle.labels.specs.Stretch.{intervals_of}
use Rattle.runs.specs.declared.run.Edges.TheVariants.{Split}
use Rattle.runs.specs.declared.run.Run.{Run}
use Rattle.runs.specs.Valid.{RunValid}
use Rattle.tallies.specs.Seen.{loss_seen, composite_seen}
use Rattle.tracks.specs.declared.Track.{Track}
use Rattle.tracks.specs.declared.Track.TheVariants.{Many}
use Rattle.tracks.specs.Tracks.{push_all}
use Rattle.tracks.specs.Valid.{TrackValid}
use Rattle.summaries.specs.Made.{made_of}
use Rattle.summaries.specs.declared.Summary.{Summary}
use Rattle.gathering.specs.declared.Several.{Several}
use Rattle.numbers.specs.declared.refusal.Refusal.{Refusal}

-- where the records are sound
abbrev pub good_if : Result (Unit {0}) Refusal → Summary → Result Summary Refusal
good_if (Ok tt) v = Ok v
good_if (Err r) v = Err r

-- the summary of the records of s, or the first of them that breaks its own rules or is not the next
unfoldable pub gathered : LabelSettings → ℕ → List ℕ → Result Summary Refusal
gathered l first s = good_if (checked first 0 (intervals_in s)) (made_of l first (intervals_of (intervals_in s)))

-- A loop over the records has made the tracks a and b, of the records from the number `first` on to before `next`: what it makes of the
-- records xs behind them.

unfoldable pub made_with : LabelSettings → ℕ → ℕ → Track → Track → List Interval → Summary
made_with l first next a b vs =
    record {
      first = first;
      after = next + length vs;
      label = l;
      loss = push_all l.n l.p a (map (loss_seen l) vs);
      composite = push_all l.n l.p b (map (composite_seen l) vs);
    }

unfoldable pub onwards : LabelSettings → ℕ → ℕ → ℕ → Track → Track → List (Option Interval) → Result Summary Refusal
onwards l first next place a b xs = good_if (checked next place xs) (made_with l first next a b (intervals_of xs))

-- a segment, intervals in a row in which no mark changes, is kept as a run of high marks: it as a run of a track that has this mark in it
unfoldable pub toned : Bool → Run → Run
toned m g = record { mark = m; len = g.len; load = g.load; edges = cond m g.edges (Split 0 0 0) }

-- the segment of one valid interval, from which a loop goes on
pub record Begun (l : LabelSettings) (first : ℕ) (g : Run) : Type 0 where
  pub valid : label_meets l ≡ true
  pub known : first < intervals
  pub segment : RunValid l.p g
  pub one : g.len ≡ 1
  pub high : g.mark ≡ true

-- a track of several runs, taken apart
abbrev pub several_of : Several → Track
several_of a = Many a.first a.middle a.last

-- what a loop holds after k intervals: both tracks before the segment, and the segment
pub record Held (l : LabelSettings) (a b : Track) (g : Run) (k : ℕ) : Type 0 where
  pub before : ℕ
  pub lengths : before + g.len ≡ k
  pub loss : TrackValid l.n l.p before a
  pub composite : TrackValid l.n l.p before b
  pub segment : RunValid l.p g
  pub high : g.mark ≡ true

-- from which another loop goes on
pub record Gone (l : LabelSettings) (first : ℕ) (a b : Track) (g : Run) (next k : ℕ) : Type 0 where
  pub valid : label_meets l ≡ true
  pub numbered : next ≡ first + k
  pub few : next ≤ intervals
  pub held : Held l a b g k
