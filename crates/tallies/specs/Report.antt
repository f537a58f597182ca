-- The report of a period, as 01 has it: the labels are those of the full known sequence, and what is counted is the period's.
use Rattle.std.specs.Prelude.{true, false, cond, List, [], ◌∷◌, map, ℕ, suc, length}
use Rattle.settings.specs.declared.LabelSettings.{LabelSettings}
use Rattle.intervals.specs.declared.Interval.{Interval}
use Rattle.rule.specs.Labels.{Label, settled, undecided}
use Rattle.labels.specs.Marked.{loss_mark, composite_mark}
use Rattle.tallies.specs.declared.ByLabel.{ByLabel}
use Rattle.tallies.specs.declared.Marked.{Marked}
use Rattle.tallies.specs.declared.Period.{Period}
use Rattle.tallies.specs.Seen.{loss_seen, composite_seen}
use Rattle.tallies.specs.Tally.{those, tally, Labels}

-- how many intervals of a stretch, numbered from k, have each label and are not in maintenance
unfoldable pub counted : (ℕ → Label) → ℕ → List Marked → ByLabel ℕ
counted at k xs =
    record {
      available = length (those (settled false) at k xs);
      unavailable = length (those (settled true) at k xs);
      undecided = length (those undecided at k xs);
    }

-- how many intervals are in maintenance
unfoldable pub resting : List Interval → ℕ
resting [] = 0
resting (v ∷ vs) = cond v.maintenance (suc (resting vs)) (resting vs)

-- `loss` and `composite` give each interval of a known sequence from 0 its labels
pub record Labelled (l : LabelSettings) (known : List Interval) (loss composite : ℕ → Label) : Type 0 where
  pub by_loss : Labels l.n (map (loss_mark l) known) loss
  pub by_composite : Labels l.n (map (composite_mark l) known) composite

-- the report of a period whose first interval has the number k, by these labels
unfoldable pub report : LabelSettings → (ℕ → Label) → (ℕ → Label) → ℕ → List Interval → Period
report l loss composite k period =
    record {
      length = length period;
      maintenance = resting period;
      loss = tally l.p loss k (map (loss_seen l) period);
      composite = counted composite k (map (composite_seen l) period);
    }
