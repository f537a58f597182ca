-- What document 01's section "Both sides of each edge" speaks of, as values of the records' types, and what a line of its table says. H is sent 10, lost 10; L is sent 10, lost 0, each of its frames delivered in 1,000 ns;
-- C = 500,000. The intervals' own numbers do not matter here.
use Rattle.std.specs.Prelude.{◌≡◌, Bool, true, false, List, [], ◌∷◌, ◌++◌, map, ℕ, zero, suc, length, get_or}
use Rattle.settings.specs.declared.LabelSettings.{LabelSettings}
use Rattle.frames.specs.declared.Frame.{Frame}
use Rattle.intervals.specs.declared.Interval.{Interval}
use Rattle.measure.specs.Measured.{measured}
use Rattle.rule.specs.Labels.{Label, settled, undecided, Meaning}
use Rattle.rule.specs.Marks.{indicator}
use Rattle.rule.specs.declared.Fraction.{Fraction}
use Rattle.labels.specs.Marked.{counts_of, loss_mark, composite_mark}
use Rattle.tallies.specs.Report.{report}
use Rattle.tallies.specs.declared.Period.{Period}
use Rattle.tallies.proofs.Known.{label_from}

-- settings by n, p, the weights and U; DL 4 ms, Jt 2 ms
abbrev pub settings : ℕ → ℕ → ℕ → ℕ → LabelSettings
settings n p weights u = record { length = 60000; n = n; p = p; weights = weights; c = 500000; u = u; dl = 4000000; jt = 2000000 }

-- the loss track's, by n and p
abbrev pub by : ℕ → ℕ → LabelSettings
by n p = settings n p 1 500000

-- intervals

abbrev pub sent_lost : ℕ → ℕ → Bool → Interval
sent_lost sent lost maintenance =
    record { number = 0; sent = sent; lost = lost; late = 0; pairs = 0; jumpy = 0; sum = 0; least = 0; most = 0; maintenance = maintenance }

abbrev pub H : Interval
H = sent_lost 10 10 false

abbrev pub L : Interval
L = record { number = 0; sent = 10; lost = 0; late = 0; pairs = 0; jumpy = 0; sum = 10000; least = 1000; most = 1000; maintenance = false }

-- H in maintenance
abbrev pub R : Interval
R = sent_lost 10 10 true

-- frames

abbrev pub delivered : ℕ → ℕ → Frame
delivered time delay = record { time = time; delay = delay; lost = false }

abbrev pub lost : ℕ → Frame
lost time = record { time = time; delay = 0; lost = true }

-- delays 1 ms, 5 ms, lost, 1 ms
abbrev pub four : List Frame
four = delivered 0 1000000 ∷ delivered 1 5000000 ∷ lost 2 ∷ delivered 3 1000000 ∷ []

-- D of frames, and whether it is high
abbrev pub D : ℕ → List Frame → Fraction
D weights fs = indicator weights (counts_of (measured (settings 3 2 weights 500000) 0 false fs))

abbrev pub high_at : ℕ → List Frame → Bool
high_at u fs = composite_mark (settings 3 2 7 u) (measured (settings 3 2 7 u) 0 false fs)

-- labels by 01's bytes: 0 unavailable, 1 available, else undecided
abbrev pub read : ℕ → Label
read zero = settled true
read (suc zero) = settled false
read (suc (suc k)) = undecided

-- the labels of intervals on the loss track: each is what 01's recursion gives to every continuation, or two continuations differ
pub record Labelled (l : LabelSettings) (xs : List Interval) (labels : List ℕ) : Type 0 where
  pub each : length labels ≡ length xs
  pub right : (k : ℕ) → Meaning l.n (map (loss_mark l) xs) k (get_or (map read labels) k undecided)

-- the definition's report of a period between two stretches
abbrev pub of : LabelSettings → List Interval → List Interval → List Interval → Period
of l before period after =
    report l (label_from l.n (map (loss_mark l) (before ++ (period ++ after)))) (label_from l.n (map (composite_mark l) (before ++ (period ++ after)))) (length before) period

-- what it says: maintenance, available, unavailable, undecided, high, runs
abbrev pub Says : Period → ℕ → ℕ → ℕ → ℕ → ℕ → ℕ → Type 0
Says r maintenance available unavailable waiting high runs =
    (r.maintenance ≡ maintenance)
    × (r.loss.available.count ≡ available)
    × (r.loss.unavailable ≡ unavailable)
    × (r.loss.undecided.count ≡ waiting)
    × (r.loss.available.high ≡ high)
    × (r.loss.available.runs ≡ runs)
