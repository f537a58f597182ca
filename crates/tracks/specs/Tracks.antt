-- Tracks of a stretch: made interval by interval, joined, put in maintenance as a whole.
use Rattle.std.specs.Prelude.{Bool, false, cond, ◌||◌, List, [], ◌∷◌, ℕ, ◌+◌, leb}
use Rattle.std.specs.Bool.{beq}
use Rattle.tallies.specs.declared.Marked.{Marked}
use Rattle.runs.specs.declared.figures.Figures.{Figures}
use Rattle.runs.specs.declared.run.Run.{Run}
use Rattle.runs.specs.declared.middles.Label.{Label}
use Rattle.runs.specs.declared.middles.Label.TheVariants.{Inherits, Says}
use Rattle.runs.specs.declared.middles.Middle.{Middle}
use Rattle.tracks.specs.declared.Track.{Track}
use Rattle.tracks.specs.declared.Track.TheVariants.{Nothing, One, Many}
use Rattle.tallies.specs.declared.ByLabel.{ByLabel}
use Rattle.tallies.specs.declared.Totals.{Totals}
use Rattle.runs.specs.Figures.{none, reported}
use Rattle.runs.specs.Runs.{figures_of, single, glue, same, quiet_run}
use Rattle.runs.specs.Middles.{unit, placed, shut, times, quiet_middle}

-- a track and a run behind it: it goes on the last run where the marks are equal, else the last run is shut
unfoldable pub push : ℕ → ℕ → Track → Run → Track
push n p Nothing r = One r
push n p (One t) r = cond (same t r) (One (glue p t r)) (Many t unit r)
push n p (Many l m t) r = cond (same t r) (Many l m (glue p t r)) (Many l (times m (shut n p t)) r)

-- a track whose last run is shut, with a middle and a last run behind it
unfoldable pub graft : ℕ → ℕ → Track → Middle → Run → Track
graft n p Nothing m t = One t
graft n p (One l) m t = Many l m t
graft n p (Many l m₀ t₀) m t = Many l (times m₀ (times (shut n p t₀) m)) t

-- two tracks, one after the other
unfoldable pub join : ℕ → ℕ → Track → Track → Track
join n p a Nothing = a
join n p a (One r) = push n p a r
join n p a (Many l m t) = graft n p (push n p a l) m t

-- a track and the intervals behind it
unfoldable pub push_all : ℕ → ℕ → Track → List Marked → Track
push_all n p a [] = a
push_all n p a (x ∷ xs) = push_all n p (push n p a (single x)) xs

-- the track of a stretch of intervals
unfoldable pub summary : ℕ → ℕ → List Marked → Track
summary n p xs = push_all n p Nothing xs

-- the same track, all in maintenance
unfoldable pub quiet : Track → Track
quiet Nothing = Nothing
quiet (One r) = One (quiet_run r)
quiet (Many l m t) = Many (quiet_run l) (quiet_middle m) (quiet_run t)

-- before interval 0 the label counts as available
unfoldable pub start : Middle
start = placed (Says false) none

-- whether a run at the end, behind a label, has its label whatever comes: it is of n or more, or its mark agrees
unfoldable pub decided : ℕ → Label → Run → Bool
decided n Inherits t = leb n t.len
decided n (Says b) t = leb n t.len || beq b t.mark

-- the figures behind a middle and, apart, those that are undecided
abbrev pub outcome : Middle → Figures → ByLabel Figures
outcome m f = record { available = m.available; unavailable = m.unavailable; undecided = f }

-- a known sequence, all of it but the last run behind its labels
unfoldable pub finish : ℕ → ℕ → Middle → Run → ByLabel Figures
finish n p m t = cond (decided n m.label t) (outcome (times m (shut n p t)) none) (outcome m (figures_of p t))

-- a known sequence from interval 0
unfoldable pub sorted : ℕ → ℕ → Track → ByLabel Figures
sorted n p Nothing = outcome start none
sorted n p (One t) = finish n p start t
sorted n p (Many l m t) = finish n p (times (times start (shut n p l)) m) t

-- an outcome as it is reported
unfoldable pub tallied : ByLabel Figures → ByLabel Totals
tallied o = record { available = reported o.available; unavailable = o.unavailable; undecided = reported o.undecided }

-- the tally of a known sequence from interval 0
unfoldable pub whole : ℕ → ℕ → Track → ByLabel Totals
whole n p t = tallied (sorted n p t)

-- how many intervals of a middle, and of a track, count: all but those in maintenance
unfoldable pub count_between : Middle → ℕ
count_between m = m.inherited.load.count + (m.available.load.count + m.unavailable)

unfoldable pub count_in : Track → ℕ
count_in Nothing = 0
count_in (One r) = r.load.count
count_in (Many l m t) = l.load.count + (count_between m + t.load.count)
