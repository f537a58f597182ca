-- The marks of an interval record under label settings: high loss against C, and D against U, both in parts per million.
use Rattle.std.specs.Prelude.{Bool, List, ℕ}
use Rattle.numbers.specs.Bytes.{number_at}
use Rattle.numbers.specs.Limits.{million}
use Rattle.settings.specs.declared.LabelSettings.{LabelSettings}
use Rattle.intervals.specs.declared.Interval.{Interval}
use Rattle.rule.specs.declared.Counts.{Counts}
use Rattle.rule.specs.Marks.{high_loss, high_composite}
use Rattle.rule.specs.declared.Both.{Both}

abbrev pub counts_of : Interval → Counts
counts_of v = record { sent = v.sent; lost = v.lost; late = v.late; pairs = v.pairs; jumpy = v.jumpy }

-- the same out of the bytes of a record
unfoldable pub counts_in : List ℕ → Counts
counts_in s =
    record { sent = number_at 4 s 4; lost = number_at 4 s 8; late = number_at 4 s 12; pairs = number_at 4 s 16; jumpy = number_at 4 s 20 }

-- the marks of counts
abbrev pub loss_high : LabelSettings → Counts → Bool
loss_high l x = high_loss l.c million x

abbrev pub composite_high : LabelSettings → Counts → Bool
composite_high l x = high_composite l.weights l.u million x

abbrev pub both_high : LabelSettings → Counts → Both Bool
both_high l x = record { loss = loss_high l x; composite = composite_high l x }

-- the marks of an interval
abbrev pub loss_mark : LabelSettings → Interval → Bool
loss_mark l v = loss_high l (counts_of v)

abbrev pub composite_mark : LabelSettings → Interval → Bool
composite_mark l v = composite_high l (counts_of v)
