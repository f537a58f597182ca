-- A made summary is 1,024 bytes.
-- Assumes nothing.
use mathlib.Core.Path.{◌≡◌, ap, ◌∙◌}
use mathlib.Core.List.{List}
use Prim.Native.Nat.{ℕ}
use lib.ListN.{length}
use Rattle.settings.specs.declared.LabelSettings.{LabelSettings}
use Rattle.intervals.specs.declared.Interval.{Interval}
use Rattle.summaries.proofs.Placing.{size_summary}
use Rattle.summaries.specs.Made.{made_of}
use Rattle.periods.specs.Stretches.{made_bytes, bytes_held}

pub size_made : (l : LabelSettings) (first : ℕ) (vs : List Interval) → length (made_bytes l first vs) ≡ 1024
size_made l first vs = ap length (bytes_held l first vs) ∙ size_summary (made_of l first vs)
