-- The rules that a track meets, as tests, each rule a line: what a reader of records looks at. `Valid` of crates `runs` and `tracks` has them as facts.
use Rattle.std.specs.Prelude.{Bool, true, false, cond, not, ◌&&◌, ◌||◌, List, [], ◌∷◌, ℕ, ◌+◌, ◌-◌, ◌*◌, leb, ltb, eqb}
use Rattle.std.specs.Bool.{beq}
use Rattle.numbers.specs.Limits.{intervals, frames, largest_delay}
use Rattle.numbers.specs.Rules.{met_by}
use Rattle.runs.specs.declared.figures.Load.{Load}
use Rattle.runs.specs.declared.figures.Figures.{Figures}
use Rattle.runs.specs.declared.run.Edges.{Edges}
use Rattle.runs.specs.declared.run.Edges.TheVariants.{Solid, Split}
use Rattle.runs.specs.declared.run.Run.{Run}
use Rattle.runs.specs.declared.middles.Label.{Label}
use Rattle.runs.specs.declared.middles.Label.TheVariants.{Inherits, Says}
use Rattle.runs.specs.declared.middles.Middle.{Middle}
use Rattle.runs.specs.Runs.{one}
use Rattle.tracks.specs.declared.Track.{Track}
use Rattle.tracks.specs.declared.Track.TheVariants.{Nothing, One, Many}
use Rattle.tracks.specs.Valid.{busy}

-- an interval's rules, with the headroom for the least delay
abbrev pub load_rules : Load → List Bool
load_rules l =
    leb l.sent (frames * l.count)
    ∷ leb l.most largest_delay
    ∷ leb l.lost l.sent
    ∷ (not (eqb (l.sent - l.lost) 0) || (eqb l.most 0 && eqb l.headroom 0))
    ∷ leb l.headroom largest_delay
    ∷ (eqb (l.sent - l.lost) 0 || leb largest_delay (l.most + l.headroom))
    ∷ leb ((largest_delay - l.headroom) * (l.sent - l.lost)) l.sum
    ∷ leb l.sum (l.most * (l.sent - l.lost))
    ∷ []

unfoldable pub load_meets : Load → Bool
load_meets l = met_by (leb l.count intervals) (load_rules l)

-- of those counted some are high, and of those p or more in each run; none where p is 0
abbrev pub figures_rules : ℕ → Figures → List Bool
figures_rules p f = leb f.high f.load.count ∷ leb (p * f.runs) f.high ∷ (not (eqb p 0) || eqb f.runs 0) ∷ []

unfoldable pub figures_meet : ℕ → Figures → Bool
figures_meet p f = met_by (load_meets f.load) (figures_rules p f)

-- the edges of a run of high marks
unfoldable pub high_meets : ℕ → ℕ → ℕ → Edges → Bool
high_meets p len count (Solid k) = eqb k len && eqb count len
high_meets p len count (Split pre inner post) =
    met_by (ltb (inner + count) len) (leb (pre + post + p * inner) count ∷ (not (eqb p 0) || eqb inner 0) ∷ [])

-- the edges of a run of low marks: none
unfoldable pub low_meets : Edges → Bool
low_meets (Solid k) = false
low_meets (Split pre inner post) = met_by (eqb pre 0) (eqb inner 0 ∷ eqb post 0 ∷ [])

abbrev pub run_rules : ℕ → Run → List Bool
run_rules p r =
    leb r.load.count r.len
    ∷ load_meets r.load
    ∷ cond r.mark (high_meets p r.len r.load.count r.edges) (low_meets r.edges)
    ∷ []

unfoldable pub run_meets : ℕ → Run → Bool
run_meets p r = met_by (leb 1 r.len) (run_rules p r)

-- no figures at all
abbrev pub idle_rules : Load → List Bool
idle_rules l = eqb l.sent 0 ∷ eqb l.lost 0 ∷ eqb l.sum 0 ∷ eqb l.most 0 ∷ eqb l.headroom 0 ∷ []

unfoldable pub idle_load : Load → Bool
idle_load l = met_by (eqb l.count 0) (idle_rules l)

unfoldable pub no_figures : Figures → Bool
no_figures f = met_by (idle_load f.load) (eqb f.high 0 ∷ eqb f.runs 0 ∷ [])

-- what inherits has nothing of its own; a label takes n intervals
unfoldable pub label_meets : ℕ → ℕ → Label → Middle → Bool
label_meets n size Inherits m = no_figures m.available && eqb m.unavailable 0
label_meets n size (Says b) m = leb n size

-- a middle of `size` intervals
abbrev pub middle_rules : ℕ → ℕ → ℕ → Middle → List Bool
middle_rules n p size m =
    figures_meet p m.available
    ∷ leb (m.inherited.load.count + m.available.load.count + m.unavailable) size
    ∷ label_meets n size m.label m
    ∷ []

unfoldable pub middle_meets : ℕ → ℕ → ℕ → Middle → Bool
middle_meets n p size m = met_by (figures_meet p m.inherited) (middle_rules n p size m)

-- between a first run of the mark a and a last run of the mark b: a label takes n intervals, and one more to each end that has its mark
unfoldable pub ends_meet : ℕ → ℕ → Label → Bool → Bool → Bool
ends_meet n size Inherits a b = true
ends_meet n size (Says c) a b = leb (n + one (beq b c) + one (beq a c)) size

-- a track of two runs or more, with `size` intervals between: where none is, their marks differ, and where one is, they are equal.
-- Something stands between two runs of high marks
abbrev pub many_rules : ℕ → ℕ → ℕ → Run → Middle → Run → List Bool
many_rules n p size l m t =
    middle_meets n p size m
    ∷ run_meets p t
    ∷ (not (eqb size 0) || not (beq l.mark t.mark))
    ∷ (not (eqb size 1) || beq l.mark t.mark)
    ∷ leb (busy m + one l.mark + one t.mark) (size + 1)
    ∷ ends_meet n size m.label l.mark t.mark
    ∷ []

unfoldable pub many_meets : ℕ → ℕ → ℕ → Run → Middle → Run → Bool
many_meets n p size l m t = met_by (run_meets p l) (many_rules n p size l m t)

-- a track of `len` intervals
unfoldable pub track_meets : ℕ → ℕ → ℕ → Track → Bool
track_meets n p len Nothing = eqb len 0
track_meets n p len (One r) = eqb r.len len && run_meets p r
track_meets n p len (Many l m t) = leb (l.len + t.len) len && many_meets n p (len - (l.len + t.len)) l m t
