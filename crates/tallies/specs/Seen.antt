-- An interval record as a track sees it, with its mark on that track.
use Rattle.std.specs.Prelude.{Bool}
use Rattle.settings.specs.declared.LabelSettings.{LabelSettings}
use Rattle.intervals.specs.declared.Interval.{Interval}
use Rattle.labels.specs.Marked.{loss_mark, composite_mark}
use Rattle.tallies.specs.declared.Marked.{Marked}

unfoldable pub marked_as : Bool → Interval → Marked
marked_as mark v =
    record {
      mark = mark;
      maintenance = v.maintenance;
      sent = v.sent;
      lost = v.lost;
      sum = v.sum;
      least = v.least;
      most = v.most;
    }

-- as the loss track sees it, and as the composite track does
abbrev pub loss_seen : LabelSettings → Interval → Marked
loss_seen l v = marked_as (loss_mark l v) v

abbrev pub composite_seen : LabelSettings → Interval → Marked
composite_seen l v = marked_as (composite_mark l v) v
