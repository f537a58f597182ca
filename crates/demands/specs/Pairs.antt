-- An ordered pair as it is known: its records before the period, in it and behind it, each of the three cut and grouped in a way of its own. The three summaries that come of them, one behind
-- the other, are what `report` takes, and those of several pairs what `verdicts` takes.
use Rattle.std.specs.Prelude.{ℕ, ◌≡◌, List, [], ◌∷◌, ◌++◌, Ok}
use Rattle.settings.specs.declared.LabelSettings.{LabelSettings}
use Rattle.intervals.specs.Sequence.{intervals_in, checked}
use Rattle.intervals.specs.declared.Interval.{Interval}
use Rattle.rule.specs.Labels.{Label}
use Rattle.labels.specs.Stretch.{intervals_of}
use Rattle.tallies.specs.Report.{Labelled}
use Rattle.reports.specs.Circuits.{Circuit}
use Rattle.demands.specs.Cuts.{Cut, uncut, BetweenRecords, Under, behind, Gives}

pub record Pair : Type 0 where
  pub before : Cut
  pub period : Cut
  pub after : Cut
  pub loss : ℕ → Label
  pub composite : ℕ → Label

-- the intervals in records
abbrev pub held : List ℕ → List Interval
held s = intervals_of (intervals_in s)

-- all records of the pair
abbrev pub all_of : Pair → List ℕ
all_of x = uncut x.before ++ (uncut x.period ++ uncut x.after)

-- its intervals and their labels, of which the definition's report speaks
abbrev pub circuit_of : Pair → Circuit
circuit_of x =
    record {
      before = held (uncut x.before);
      middle = held (uncut x.period);
      behind = held (uncut x.after);
      loss = x.loss;
      composite = x.composite;
    }

-- its records are valid and numbered from 0, it is cut between them and summarised under the label settings l, and its labels are those of all its intervals
pub record Known (l : LabelSettings) (x : Pair) : Type 0 where
  pub before_cut : BetweenRecords x.before
  pub period_cut : BetweenRecords x.period
  pub after_cut : BetweenRecords x.after
  pub before_under : Under l x.before
  pub period_under : Under l x.period
  pub after_under : Under l x.after
  pub checks : checked 0 0 (intervals_in (all_of x)) ≡ Ok tt
  pub labelled : Labelled l (held (all_of x)) x.loss x.composite

-- the three summaries
pub record PairGives (x : Pair) (bytes : List ℕ) : Type 0 where
  pub left : List ℕ
  pub middle : List ℕ
  pub right : List ℕ
  pub before : Gives 0 x.before left
  pub period : Gives (behind 0 (uncut x.before)) x.period middle
  pub after : Gives (behind (behind 0 (uncut x.before)) (uncut x.period)) x.after right
  pub in_order : bytes ≡ left ++ (middle ++ right)

-- several pairs

unfoldable pub AllKnown : LabelSettings → List Pair → Type 0
AllKnown l [] = Unit {0}
AllKnown l (x ∷ xs) = Known l x × AllKnown l xs

unfoldable pub AllGive : List Pair → List ℕ → Type 0
AllGive [] bytes = bytes ≡ []
AllGive (x ∷ xs) bytes = (one : List ℕ) × (rest : List ℕ) × PairGives x one × AllGive xs rest × (bytes ≡ one ++ rest)
