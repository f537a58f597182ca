-- Middles: what runs that can no longer grow come to, up to the one label that may still come from the left.
use Rattle.std.specs.Prelude.{true, false, cond, ℕ, ◌+◌, leb}
use Rattle.runs.specs.declared.figures.Figures.{Figures}
use Rattle.runs.specs.declared.run.Run.{Run}
use Rattle.runs.specs.declared.middles.Label.{Label}
use Rattle.runs.specs.declared.middles.Label.TheVariants.{Inherits, Says}
use Rattle.runs.specs.declared.middles.Middle.{Middle}
use Rattle.runs.specs.Figures.{none, plus}
use Rattle.runs.specs.Runs.{figures_of}

-- nothing between: it inherits and holds nothing
unfoldable pub unit : Middle
unit = record { label = Inherits; inherited = none; available = none; unavailable = 0 }

-- intervals that take the label l
unfoldable pub placed : Label → Figures → Middle
placed Inherits f = record { label = Inherits; inherited = f; available = none; unavailable = 0 }
placed (Says false) f = record { label = Says false; inherited = none; available = f; unavailable = 0 }
placed (Says true) f = record { label = Says true; inherited = none; available = none; unavailable = f.load.count }

-- the label of a run that can no longer grow: its own where it is of n or more, else that before it
unfoldable pub verdict : ℕ → Run → Label
verdict n r = cond (leb n r.len) (Says r.mark) Inherits

-- a run that can no longer grow
unfoldable pub shut : ℕ → ℕ → Run → Middle
shut n p r = placed (verdict n r) (figures_of p r)

-- the label behind two middles: the later's, or else the earlier's
unfoldable pub over : Label → Label → Label
over l Inherits = l
over l (Says b) = Says b

-- what the later one inherits goes where the label of the earlier one says
unfoldable pub times_by : Label → Middle → Middle → Middle
times_by Inherits a b =
    record {
      label = over Inherits b.label;
      inherited = plus a.inherited b.inherited;
      available = plus a.available b.available;
      unavailable = a.unavailable + b.unavailable;
    }
times_by (Says false) a b =
    record {
      label = over (Says false) b.label;
      inherited = a.inherited;
      available = plus a.available (plus b.inherited b.available);
      unavailable = a.unavailable + b.unavailable;
    }
times_by (Says true) a b =
    record {
      label = over (Says true) b.label;
      inherited = a.inherited;
      available = plus a.available b.available;
      unavailable = a.unavailable + (b.inherited.load.count + b.unavailable);
    }

-- two middles, one after the other
unfoldable pub times : Middle → Middle → Middle
times a b = times_by a.label a b

-- the same middle, all in maintenance
unfoldable pub quiet_middle : Middle → Middle
quiet_middle m = record { label = m.label; inherited = none; available = none; unavailable = 0 }
