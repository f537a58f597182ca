-- Every known sequence has its labels: those of the rule's labelling, which `labels_settle` proves to be 01's. And there are no others.
-- Assumes nothing.
use mathlib.Core.Path.{◌≡◌}
use mathlib.Core.Bool.{Bool}
use mathlib.Core.List.{List, map}
use Prim.Native.Nat.{ℕ, ◌<◌, ◌≤◌}
use lib.ListN.{length, get_or}
use Rattle.settings.specs.declared.LabelSettings.{LabelSettings}
use Rattle.intervals.specs.declared.Interval.{Interval}
use Rattle.rule.specs.Evaluator.{labelling}
use Rattle.rule.specs.Labels.{Label, undecided}
use Rattle.rule.proofs.Labelling.{labels_settle, meaning_one}
use Rattle.labels.specs.Marked.{loss_mark, composite_mark}
use Rattle.tallies.specs.Report.{Labelled}
use Rattle.tallies.specs.Tally.{Labels}

-- the label that the known marks give to each interval
abbrev pub label_from : ℕ → List Bool → ℕ → Label
label_from n ms k = get_or (labelling n ms) k undecided

pub labels_known : (n : ℕ) (ms : List Bool) → 1 ≤ n → Labels n ms (label_from n ms)
unfolding Labels
labels_known n ms some k h = labels_settle n ms some k

pub labels_one : (n : ℕ) (ms : List Bool) (a b : ℕ → Label) → Labels n ms a → Labels n ms b → (k : ℕ) → k < length ms → a k ≡ b k
unfolding Labels
labels_one n ms a b p q k h = meaning_one n ms k (a k) (b k) (p k h) (q k h)

pub known_labelled :
    (l : LabelSettings) (vs : List Interval) → 1 ≤ l.n → Labelled l vs (label_from l.n (map (loss_mark l) vs)) (label_from l.n (map (composite_mark l) vs))
known_labelled l vs some =
    record { by_loss = labels_known l.n (map (loss_mark l) vs) some; by_composite = labels_known l.n (map (composite_mark l) vs) some }
