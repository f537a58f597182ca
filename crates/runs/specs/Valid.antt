-- The rules that figures, runs and middles meet, over values. They keep every sum in its field.
use Rattle.std.specs.Prelude.{◌≡◌, Bool, true, false, ℕ, ◌+◌, ◌-◌, ◌*◌, ◌≤◌, ◌<◌}
use Rattle.numbers.specs.Limits.{frames, largest_delay}
use Rattle.runs.specs.declared.figures.Load.{Load}
use Rattle.runs.specs.declared.figures.Figures.{Figures}
use Rattle.runs.specs.declared.run.Edges.{Edges}
use Rattle.runs.specs.declared.run.Edges.TheVariants.{Solid, Split}
use Rattle.runs.specs.declared.run.Run.{Run}
use Rattle.runs.specs.declared.middles.Label.{Label}
use Rattle.runs.specs.declared.middles.Label.TheVariants.{Inherits, Says}
use Rattle.runs.specs.declared.middles.Middle.{Middle}
use Rattle.runs.specs.Figures.{none, plus}
use Rattle.runs.specs.Runs.{figures_of}

-- a load: an interval's rules, with the headroom for the least delay
pub record LoadValid (l : Load) : Type 0 where
  pub few : l.sent ≤ frames * l.count
  pub lost_of_sent : l.lost ≤ l.sent
  pub silent : l.sent ≡ l.lost → (l.most ≡ 0) × (l.headroom ≡ 0)
  pub within : l.most ≤ largest_delay
  pub roomy : l.headroom ≤ largest_delay
  pub ordered : l.lost < l.sent → largest_delay ≤ l.most + l.headroom
  pub from : (largest_delay - l.headroom) * (l.sent - l.lost) ≤ l.sum
  pub to : l.sum ≤ l.most * (l.sent - l.lost)

-- figures: of those counted some are high, and of those p or more in each run
pub record FiguresValid (p : ℕ) (f : Figures) : Type 0 where
  pub load : LoadValid f.load
  pub high : f.high ≤ f.load.count
  pub runs : p * f.runs ≤ f.high
  pub unasked : p ≡ 0 → f.runs ≡ 0

-- the edges of a run of high marks, of its length and how many of it count
unfoldable pub EdgesValid : ℕ → ℕ → ℕ → Edges → Type 0
EdgesValid p len count (Solid k) = (k ≡ len) × (count ≡ len)
EdgesValid p len count (Split pre inner post) = (inner + count < len) × (pre + post + p * inner ≤ count) × (p ≡ 0 → inner ≡ 0)

-- the edges of a run; one of low marks has none
unfoldable pub EdgesFor : Bool → ℕ → ℕ → ℕ → Edges → Type 0
EdgesFor true p len count e = EdgesValid p len count e
EdgesFor false p len count e = e ≡ Split 0 0 0

pub record RunValid (p : ℕ) (r : Run) : Type 0 where
  pub some : 1 ≤ r.len
  pub counted : r.load.count ≤ r.len
  pub load : LoadValid r.load
  pub edges : EdgesFor r.mark p r.len r.load.count r.edges

-- what inherits has nothing of its own; a label takes n intervals
unfoldable pub LabelValid : ℕ → ℕ → Label → Middle → Type 0
LabelValid n size Inherits m = (m.available ≡ none) × (m.unavailable ≡ 0)
LabelValid n size (Says b) m = n ≤ size

-- the figures of a middle of `size` intervals
pub record MiddleFits (p size : ℕ) (m : Middle) : Type 0 where
  pub inherited : FiguresValid p m.inherited
  pub available : FiguresValid p m.available
  pub counted : m.inherited.load.count + m.available.load.count + m.unavailable ≤ size

-- a middle of `size` intervals
pub record MiddleValid (n p size : ℕ) (m : Middle) : Type 0 where
  pub figures : MiddleFits p size m
  pub labelled : LabelValid n size m.label m

-- What the operations ask of their operands. The sums of two loads, two figures, two runs and two middles stay in their fields:

pub record LoadsFit (a b : Load) : Type 0 where
  pub counts : a.count + b.count < 4294967296
  pub sent : a.sent + b.sent < 18446744073709551616
  pub lost : a.lost + b.lost < 18446744073709551616
  pub sums : a.sum + b.sum < 18446744073709551616

pub record FiguresFit (a b : Figures) : Type 0 where
  pub loads : LoadsFit a.load b.load
  pub high : a.high + b.high < 4294967296
  pub runs : a.runs + b.runs < 4294967296

-- how much of a run its edges speak of
unfoldable pub span_of : Edges → ℕ
span_of (Solid k) = k
span_of (Split pre inner post) = pre + inner + post

pub record RunsFit (a b : Run) : Type 0 where
  pub lengths : a.len + b.len < 4294967296
  pub loads : LoadsFit a.load b.load
  pub spans : span_of a.edges + span_of b.edges < 4294967295

pub record MiddlesFit (a b : Middle) : Type 0 where
  pub inherited : FiguresFit a.inherited b.inherited
  pub available : FiguresFit a.available b.available
  pub handed : FiguresFit b.inherited b.available
  pub taken : FiguresFit a.available (plus b.inherited b.available)
  pub unavailable : a.unavailable + (b.inherited.load.count + b.unavailable) < 4294967296

-- a middle and a run that is shut behind it
pub record ShutFits (p : ℕ) (m : Middle) (t : Run) : Type 0 where
  pub span : span_of t.edges < 4294967294
  pub inherited : FiguresFit m.inherited (figures_of p t)
  pub available : FiguresFit m.available (figures_of p t)
  pub unavailable : m.unavailable + (figures_of p t).load.count < 4294967296
