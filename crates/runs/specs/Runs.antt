-- Runs: stretches of equal marks, with what their intervals add up to and where maintenance splits those that count.
use Rattle.std.specs.Prelude.{Bool, true, false, cond, not, ◌&&◌, ℕ, ◌+◌, leb, eqb}
use Rattle.std.specs.Bool.{beq}
use Rattle.tallies.specs.declared.Marked.{Marked}
use Rattle.runs.specs.declared.figures.Load.{Load}
use Rattle.runs.specs.declared.figures.Figures.{Figures}
use Rattle.runs.specs.declared.run.Edges.{Edges}
use Rattle.runs.specs.declared.run.Edges.TheVariants.{Solid, Split}
use Rattle.runs.specs.declared.run.Run.{Run}
use Rattle.runs.specs.Figures.{turned, idle, both}

-- k intervals in a row make a run of length p or more; none does where p is 0
unfoldable pub long : ℕ → ℕ → Bool
long p k = not (eqb p 0) && leb p k

-- 1 where it holds
abbrev pub one : Bool → ℕ
one true = 1
one false = 0

-- the edges of two stretches, one after the other
unfoldable pub tie : ℕ → Edges → Edges → Edges
tie p (Solid a) (Solid b) = Solid (a + b)
tie p (Solid a) (Split pre inner post) = Split (a + pre) inner post
tie p (Split pre inner post) (Solid b) = Split pre inner (post + b)
tie p (Split pre inner post) (Split pre' inner' post') = Split pre (inner + one (long p (post + pre')) + inner') post'

-- the stretches of length p or more, where neither end can grow any more
unfoldable pub closed : ℕ → Edges → ℕ
closed p (Solid k) = one (long p k)
closed p (Split pre inner post) = one (long p pre) + inner + one (long p post)

-- the edges of one interval, by whether it is high and counts
abbrev pub edge : Bool → Edges
edge true = Solid 1
edge false = Split 0 0 0

-- the load of one interval that counts
unfoldable pub gross : Marked → Load
gross x =
    record {
      count = 1;
      sent = x.sent;
      lost = x.lost;
      sum = x.sum;
      most = x.most;
      headroom = turned x.sent x.lost x.least;
    }

-- the load of one interval; in maintenance it has none
unfoldable pub load_of : Marked → Load
load_of x = cond x.maintenance idle (gross x)

-- the run of one interval
unfoldable pub single : Marked → Run
single x = record { mark = x.mark; len = 1; load = load_of x; edges = edge (x.mark && not x.maintenance) }

-- two runs of one mark, one after the other
unfoldable pub glue : ℕ → Run → Run → Run
glue p a b = record { mark = a.mark; len = a.len + b.len; load = both a.load b.load; edges = tie p a.edges b.edges }

-- the two runs have one mark
unfoldable pub same : Run → Run → Bool
same a b = beq a.mark b.mark

-- the figures of a run that can no longer grow
unfoldable pub figures_of : ℕ → Run → Figures
figures_of p r = record { load = r.load; high = cond r.mark r.load.count 0; runs = closed p r.edges }

-- the same run, all in maintenance
unfoldable pub quiet_run : Run → Run
quiet_run r = record { mark = r.mark; len = r.len; load = idle; edges = Split 0 0 0 }

-- the same interval, in maintenance
unfoldable pub maintained : Marked → Marked
maintained x =
    record {
      mark = x.mark;
      maintenance = true;
      sent = x.sent;
      lost = x.lost;
      sum = x.sum;
      least = x.least;
      most = x.most;
    }
