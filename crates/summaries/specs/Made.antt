-- What a summary is made of: the intervals of a stretch, each seen on both tracks.
use Rattle.std.specs.Prelude.{ℕ, ◌+◌, List, map, length}
use Rattle.settings.specs.declared.LabelSettings.{LabelSettings}
use Rattle.intervals.specs.declared.Interval.{Interval}
use Rattle.tallies.specs.Seen.{loss_seen, composite_seen}
use Rattle.tracks.specs.Tracks.{summary}
use Rattle.summaries.specs.declared.Summary.{Summary}

-- the summary of the intervals vs, the first of which has the number `first`
unfoldable pub made_of : LabelSettings → ℕ → List Interval → Summary
made_of l first vs =
    record {
      first = first;
      after = first + length vs;
      label = l;
      loss = summary l.n l.p (map (loss_seen l) vs);
      composite = summary l.n l.p (map (composite_seen l) vs);
    }
