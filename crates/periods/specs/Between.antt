-- The middle one of three tracks: those at its sides count nothing, and give the labels all the same.
use Rattle.std.specs.Prelude.{ℕ, ◌+◌, ◌≤◌}
use Rattle.numbers.specs.Limits.{intervals}
use Rattle.tracks.specs.declared.Track.{Track}
use Rattle.tracks.specs.Tracks.{join, quiet, whole}
use Rattle.tracks.specs.Valid.{TrackValid}
use Rattle.tallies.specs.declared.ByLabel.{ByLabel}
use Rattle.tallies.specs.declared.Totals.{Totals}

unfoldable pub between : ℕ → ℕ → Track → Track → Track → ByLabel Totals
between n p a b c = whole n p (join n p (join n p (quiet a) b) (quiet c))

-- each meets the rules, and together they are no more intervals than there are
pub record BetweenFits (n p : ℕ) (a b c : Track) : Type 0 where
  pub i : ℕ
  pub j : ℕ
  pub k : ℕ
  pub left : TrackValid n p i a
  pub middle : TrackValid n p j b
  pub right : TrackValid n p k c
  pub room : i + j + k ≤ intervals
