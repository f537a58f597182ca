-- The rules that a track meets, over values. A made track meets them, a join of two that meet them does, and they keep every sum in its
-- field. A track that meets them may be one that no intervals make.
use Rattle.std.specs.Prelude.{◌≡◌, Bool, not, ℕ, ◌+◌, ◌≤◌}
use Rattle.std.specs.Bool.{beq}
use Rattle.numbers.specs.Limits.{intervals}
use Rattle.runs.specs.declared.run.Run.{Run}
use Rattle.runs.specs.declared.middles.Label.TheVariants.{Says}
use Rattle.runs.specs.declared.middles.Middle.{Middle}
use Rattle.runs.specs.Runs.{one}
use Rattle.tracks.specs.declared.Track.{Track}
use Rattle.tracks.specs.declared.Track.TheVariants.{Nothing, One, Many}
use Rattle.runs.specs.Valid.{RunValid, MiddleFits, MiddleValid}

-- the high intervals of a middle and its high loss runs
unfoldable pub busy : Middle → ℕ
busy m = m.inherited.high + m.inherited.runs + (m.available.high + m.available.runs)

-- a track of two runs or more, of `len` intervals. Something stands between two runs of high marks, those at the ends among them; a label
-- takes n intervals between, and one more to each end that has its mark
pub record ManyValid (n p len : ℕ) (l : Run) (m : Middle) (t : Run) : Type 0 where
  pub size : ℕ
  pub first : RunValid p l
  pub middle : MiddleValid n p size m
  pub last : RunValid p t
  pub lengths : l.len + (size + t.len) ≡ len
  pub adjoining : size ≡ 0 → l.mark ≡ not t.mark
  pub around : size ≡ 1 → l.mark ≡ t.mark
  pub spread : busy m + one l.mark + one t.mark ≤ size + 1
  pub labelled : (c : Bool) → m.label ≡ Says c → n + one (beq t.mark c) + one (beq l.mark c) ≤ size

-- a track of `len` intervals
unfoldable pub TrackValid : ℕ → ℕ → ℕ → Track → Type 0
TrackValid n p len Nothing = len ≡ 0
TrackValid n p len (One r) = RunValid p r × (r.len ≡ len)
TrackValid n p len (Many l m t) = ManyValid n p len l m t

-- What the operations ask of their operands: each meets the rules, and together they are no more intervals than there are.

pub record PushFits (n p : ℕ) (a : Track) (r : Run) : Type 0 where
  pub i : ℕ
  pub left : TrackValid n p i a
  pub right : RunValid p r
  pub room : i + r.len ≤ intervals

pub record GraftFits (n p : ℕ) (a : Track) (m : Middle) : Type 0 where
  pub i : ℕ
  pub j : ℕ
  pub left : TrackValid n p i a
  pub right : MiddleValid n p j m
  pub room : i + j ≤ intervals

pub record JoinFits (n p : ℕ) (a b : Track) : Type 0 where
  pub i : ℕ
  pub j : ℕ
  pub left : TrackValid n p i a
  pub right : TrackValid n p j b
  pub room : i + j ≤ intervals

pub record FinishFits (p : ℕ) (m : Middle) (t : Run) : Type 0 where
  pub i : ℕ
  pub left : MiddleFits p i m
  pub right : RunValid p t
  pub room : i + t.len ≤ intervals

pub record TrackFits (n p : ℕ) (t : Track) : Type 0 where
  pub i : ℕ
  pub valid : TrackValid n p i t
  pub room : i ≤ intervals
