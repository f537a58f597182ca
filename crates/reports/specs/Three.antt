-- What three summaries give, for every input, in document 01's order of refusals: 5 for all, left to right, then 8, then 7. Each at the place of the
-- later one, counted from that of the first.
use Rattle.std.specs.Prelude.{ℕ, ◌+◌, ◌*◌, Bool, true, false, List, length, eqb, Option, Some, None, Result, Ok, Err}
use Rattle.numbers.specs.Limits.{pairs}
use Rattle.numbers.specs.Many.{record_at}
use Rattle.numbers.specs.Refusals.{refusal}
use Rattle.numbers.specs.declared.refusal.Fault.{Fault}
use Rattle.settings.specs.Settings.{same_label}
use Rattle.settings.specs.declared.LabelSettings.{LabelSettings}
use Rattle.periods.specs.Stretches.{stretch_of, first_of, after_of, label_of, period_of}
use Rattle.periods.specs.declared.Stretch.{Stretch}
use Rattle.numbers.specs.declared.refusal.Refusal.{Refusal}
use Rattle.tallies.specs.declared.Period.{Period}

unfoldable pub unless : Bool → Fault → ℕ → Result Period Refusal → Result Period Refusal
unless true f k r = r
unless false f k r = Err (refusal f k)

-- label settings are those of the settings given, where such are given
abbrev pub suits : Option LabelSettings → LabelSettings → Bool
suits None l = true
suits (Some m) l = same_label l m

-- three valid summaries, the first of which stands at `base`
unfoldable pub judged_three : Option LabelSettings → ℕ → Stretch → Stretch → Stretch → Result Period Refusal
judged_three w base a b c =
    unless (suits w (label_of a)) Fault.Mismatch base
    (unless (same_label (label_of a) (label_of b)) Fault.Mismatch (base + 1)
    (unless (same_label (label_of b) (label_of c)) Fault.Mismatch (base + 2)
    (unless (eqb (first_of a) 0) Fault.Order base
    (unless (eqb (after_of a) (first_of b)) Fault.Order (base + 1)
    (unless (eqb (after_of b) (first_of c)) Fault.Order (base + 2)
    (Ok (period_of a b c)))))))

abbrev pub judged_reads : Option LabelSettings → ℕ → Option Stretch → Option Stretch → Option Stretch → Result Period Refusal
judged_reads w base None b c = Err (refusal Fault.Field base)
judged_reads w base (Some a) None c = Err (refusal Fault.Field (base + 1))
judged_reads w base (Some a) (Some b) None = Err (refusal Fault.Field (base + 2))
judged_reads w base (Some a) (Some b) (Some c) = judged_three w base a b c

-- the summary that is the k-th record of many
abbrev pub summary_at : List ℕ → ℕ → Option Stretch
summary_at s k = stretch_of (record_at s 1024 k)

-- the three from `base` on
unfoldable pub three_at : Option LabelSettings → List ℕ → ℕ → Result Period Refusal
three_at w s base = judged_reads w base (summary_at s base) (summary_at s (base + 1)) (summary_at s (base + 2))

-- the report: three summaries, of any label settings
unfoldable pub report_of : List ℕ → Result Period Refusal
report_of s = unless (eqb (length s) 3072) Fault.Length 0 (three_at None s 0)

-- summaries of all pairs: no place is beyond
abbrev pub places : ℕ
places = 3 * pairs
