-- The figures of a set of intervals, and how those of two sets are put together: counts and sums add, the most delay and the
-- headroom join by `max`. So kept they are a commutative monoid on all values.
use Rattle.std.specs.Prelude.{cond, ℕ, ◌+◌, ◌-◌, max, eqb}
use Rattle.numbers.specs.Limits.{largest_delay}
use Rattle.runs.specs.declared.figures.Load.{Load}
use Rattle.runs.specs.declared.figures.Figures.{Figures}
use Rattle.tallies.specs.declared.Totals.{Totals}

-- the headroom of a least delay, and the least delay of a headroom: the largest delay less it. Where nothing was delivered both are 0, and it stays
unfoldable pub turned : ℕ → ℕ → ℕ → ℕ
turned sent lost x = cond (eqb sent lost) x (largest_delay - x)

-- the load of no interval
unfoldable pub idle : Load
idle = record { count = 0; sent = 0; lost = 0; sum = 0; most = 0; headroom = 0 }

-- the load of two sets of intervals together
unfoldable pub both : Load → Load → Load
both a b =
    record {
      count = a.count + b.count;
      sent = a.sent + b.sent;
      lost = a.lost + b.lost;
      sum = a.sum + b.sum;
      most = max a.most b.most;
      headroom = max a.headroom b.headroom;
    }

-- the figures of no interval
unfoldable pub none : Figures
none = record { load = idle; high = 0; runs = 0 }

-- the figures of two sets of intervals together, no run of which goes on from the one into the other
unfoldable pub plus : Figures → Figures → Figures
plus a b = record { load = both a.load b.load; high = a.high + b.high; runs = a.runs + b.runs }

-- figures as they are reported, with the least delay for the headroom
unfoldable pub reported : Figures → Totals
reported f =
    record {
      count = f.load.count;
      high = f.high;
      runs = f.runs;
      sent = f.load.sent;
      lost = f.load.lost;
      sum = f.load.sum;
      least = turned f.load.sent f.load.lost f.load.headroom;
      most = f.load.most;
    }
