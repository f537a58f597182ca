-- The rules keep every sum in its field: what the operations ask of their operands follows from the rules, where both together are no more
-- intervals than there are.
use mathlib.Core.Path.{refl}
use mathlib.Core.Bool.{Bool, true, false}
use Prim.Native.Nat.{ℕ, zero, suc, ◌+◌, ◌*◌, ◌≤◌, ◌<◌}
use native.Mathlib.Omega.{arith}
use native.Mathlib.Nat.{mul-le-mul, le_trans}
use Rattle.numbers.specs.Limits.{intervals, frames, largest_delay}
use Rattle.runs.specs.declared.figures.Load.{Load}
use Rattle.runs.specs.declared.figures.Figures.{Figures}
use Rattle.runs.specs.declared.run.Edges.{Edges}
use Rattle.runs.specs.declared.run.Edges.TheVariants.{Solid, Split}
use Rattle.runs.specs.declared.run.Run.{Run}
use Rattle.runs.specs.declared.middles.Middle.{Middle}
use Rattle.runs.specs.Figures.{both, plus}
use Rattle.runs.specs.Runs.{figures_of}
use Rattle.runs.specs.Valid.{LoadValid, FiguresValid, EdgesValid, EdgesFor, RunValid, MiddleFits, LoadsFit, FiguresFit, span_of, RunsFit, MiddlesFit, ShutFits}
use Rattle.runs.proofs.Keeping.{plus_valid, figures_valid}

-- a sum of delays is at most the largest delay for each frame
pub sum_bound : (l : Load) → LoadValid l → l.sum ≤ largest_delay * (frames * l.count)
sum_bound l v = le_trans v.to (mul-le-mul v.within (omega (arith, v.few)))

loads_fit : (a b : Load) → LoadValid a → LoadValid b → a.count + b.count ≤ intervals → LoadsFit a b
unfolding intervals frames largest_delay
loads_fit a b v w room =
    record {
      counts = omega arith;
      sent = omega (arith, v.few, w.few);
      lost = omega (arith, v.few, w.few, v.lost_of_sent, w.lost_of_sent);
      sums = omega (arith, sum_bound a v, sum_bound b w);
    }

-- there are no more runs than intervals
pub runs_few : (p : ℕ) (f : Figures) → FiguresValid p f → f.runs ≤ f.load.count
runs_few zero f v = omega (arith, v.unasked refl)
runs_few (suc p) f v = omega (arith, v.runs, v.high)

pub figures_fit : (p : ℕ) (a b : Figures) → FiguresValid p a → FiguresValid p b → a.load.count + b.load.count ≤ intervals → FiguresFit a b
unfolding intervals
figures_fit p a b v w room =
    record {
      loads = loads_fit a.load b.load v.load w.load room;
      high = omega (arith, v.high, w.high);
      runs = omega (arith, runs_few p a v, runs_few p b w);
    }

span_edges : (b : Bool) (p len count : ℕ) (e : Edges) → EdgesFor b p len count e → span_of e ≤ len
unfolding EdgesFor EdgesValid span_of
span_edges false p len count e v = rw v (omega arith)
span_edges true p len count (Solid k) v = omega arith
span_edges true p len count (Split x y z) v = omega (arith, v.0, v.1)

span_run : (p : ℕ) (r : Run) → RunValid p r → span_of r.edges ≤ r.len
span_run p r v = span_edges r.mark p r.len r.load.count r.edges v.edges

pub span_fits : (p : ℕ) (r : Run) → RunValid p r → r.len ≤ intervals → span_of r.edges < 4294967294
unfolding intervals
span_fits p r v room = omega (arith, span_run p r v)

pub runs_fit : (p : ℕ) (a b : Run) → RunValid p a → RunValid p b → a.len + b.len ≤ intervals → RunsFit a b
unfolding intervals
runs_fit p a b v w room =
    record {
      lengths = omega arith;
      loads = loads_fit a.load b.load v.load w.load (omega (arith, v.counted, w.counted));
      spans = omega (arith, span_run p a v, span_run p b w);
    }

pub middles_fit : (p i j : ℕ) (a b : Middle) → MiddleFits p i a → MiddleFits p j b → i + j ≤ intervals → MiddlesFit a b
unfolding intervals plus both
middles_fit p i j a b v w room =
    record {
      inherited = figures_fit p a.inherited b.inherited v.inherited w.inherited (omega (arith, v.counted, w.counted));
      available = figures_fit p a.available b.available v.available w.available (omega (arith, v.counted, w.counted));
      handed = figures_fit p b.inherited b.available w.inherited w.available (omega (arith, w.counted));
      taken =
          figures_fit p a.available (plus b.inherited b.available) v.available
          (plus_valid p b.inherited b.available w.inherited w.available) (omega (arith, v.counted, w.counted));
      unavailable = omega (arith, v.counted, w.counted);
    }

pub shut_fits : (p i : ℕ) (m : Middle) (t : Run) → MiddleFits p i m → RunValid p t → i + t.len ≤ intervals → ShutFits p m t
unfolding intervals figures_of
shut_fits p i m t v w room =
    record {
      span = span_fits p t w (omega arith);
      inherited = figures_fit p m.inherited (figures_of p t) v.inherited (figures_valid p t w) (omega (arith, v.counted, w.counted));
      available = figures_fit p m.available (figures_of p t) v.available (figures_valid p t w) (omega (arith, v.counted, w.counted));
      unavailable = omega (arith, v.counted, w.counted);
    }
