-- The meaning of summaries for what stands above them. The definitions are shut: what is known of them is what the laws of this crate say.
use Rattle.std.specs.Prelude.{◌≡◌, refl, List, ℕ, ◌-◌, Option, Some, None}
use Rattle.settings.specs.declared.LabelSettings.{LabelSettings}
use Rattle.intervals.specs.declared.Interval.{Interval}
use Rattle.tallies.specs.declared.Period.{Period}
use Rattle.tracks.specs.Tracks.{count_in}
use Rattle.summaries.specs.Stored.{summary_of, summary_bytes}
use Rattle.summaries.specs.Made.{made_of}
use Rattle.periods.specs.Between.{between}
use Rattle.periods.specs.declared.Stretch.{Stretch}
use Rattle.summaries.specs.declared.Summary.{Summary}
use Rattle.tallies.specs.declared.ByLabel.{ByLabel}
use Rattle.tallies.specs.declared.Totals.{Totals}

abbrev pub held_if : Option Summary → Option Stretch
held_if (Some v) = Some (record { held = v })
held_if None = None

-- the summary that bytes are, if they meet every rule
pub stretch_of : List ℕ → Option Stretch
stretch_of s = held_if (summary_of s)

-- its first number, the number after its last, and its label settings
pub first_of : Stretch → ℕ
first_of s = s.held.first

pub after_of : Stretch → ℕ
after_of s = s.held.after

pub label_of : Stretch → LabelSettings
label_of s = s.held.label

-- the summary of intervals, the first of which has the number `first`, and its bytes
pub made_stretch : LabelSettings → ℕ → List Interval → Stretch
made_stretch l first vs = record { held = made_of l first vs }

pub made_bytes : LabelSettings → ℕ → List Interval → List ℕ
made_bytes l first vs = summary_bytes (made_of l first vs)

abbrev pub counts_of : ByLabel Totals → ByLabel ℕ
counts_of t = record { available = t.available.count; unavailable = t.unavailable; undecided = t.undecided.count }

-- the report of the middle one of three
pub period_of : Stretch → Stretch → Stretch → Period
period_of a b c =
    record {
      length = b.held.after - b.held.first;
      maintenance = b.held.after - b.held.first - count_in b.held.loss;
      loss = between b.held.label.n b.held.label.p a.held.loss b.held.loss c.held.loss;
      composite = counts_of (between b.held.label.n b.held.label.p a.held.composite b.held.composite c.held.composite);
    }

-- three summaries, each of which is read out of bytes
pub record ThreeRead (a b c : Stretch) : Type 0 where
  pub left_bytes : List ℕ
  pub middle_bytes : List ℕ
  pub right_bytes : List ℕ
  pub left : stretch_of left_bytes ≡ Some a
  pub middle : stretch_of middle_bytes ≡ Some b
  pub right : stretch_of right_bytes ≡ Some c

-- of equal label settings, each right behind the one before
pub record Known (a b c : Stretch) : Type 0 where
  pub read : ThreeRead a b c
  pub left_settings : label_of a ≡ label_of b
  pub right_settings : label_of b ≡ label_of c
  pub left_numbers : after_of a ≡ first_of b
  pub right_numbers : after_of b ≡ first_of c

-- What the definitions hold, for the laws of this crate. Above it nothing on the right can be named.

pub stretch_held : (s : List ℕ) → stretch_of s ≡ held_if (summary_of s)
unfolding stretch_of
stretch_held s = refl

pub first_held : (s : Stretch) → first_of s ≡ s.held.first
unfolding first_of
first_held s = refl

pub after_held : (s : Stretch) → after_of s ≡ s.held.after
unfolding after_of
after_held s = refl

pub label_held : (s : Stretch) → label_of s ≡ s.held.label
unfolding label_of
label_held s = refl

pub made_held : (l : LabelSettings) (first : ℕ) (vs : List Interval) → made_stretch l first vs ≡ record { held = made_of l first vs }
unfolding made_stretch
made_held l first vs = refl

pub bytes_held : (l : LabelSettings) (first : ℕ) (vs : List Interval) → made_bytes l first vs ≡ summary_bytes (made_of l first vs)
unfolding made_bytes
bytes_held l first vs = refl

pub period_held :
    (a b c : Stretch) →
    period_of a b c
    ≡ record {
      length = b.held.after - b.held.first;
      maintenance = b.held.after - b.held.first - count_in b.held.loss;
      loss = between b.held.label.n b.held.label.p a.held.loss b.held.loss c.held.loss;
      composite = counts_of (between b.held.label.n b.held.label.p a.held.composite b.held.composite c.held.composite);
    }
unfolding period_of
period_held a b c = refl
