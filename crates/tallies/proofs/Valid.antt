-- Intervals that each meet the rules of their record.
use mathlib.Core.List.{List, [], ◌∷◌}
use Rattle.intervals.specs.declared.Interval.{Interval}
use Rattle.intervals.proofs.IntervalRecord.{IntervalValid}

unfoldable pub AllValid : List Interval → Type 0
AllValid [] = Unit {0}
AllValid (v ∷ vs) = IntervalValid v × AllValid vs
