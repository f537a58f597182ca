-- A track that meets the rules, of no more intervals than there are, fits the fields that it is written in. The counts are at most the
-- intervals, frames at most so many for each of them, and a sum of delays at most the largest delay for each frame.
-- Assumes nothing.
use mathlib.Core.Path.{◌≡◌, refl}
use mathlib.Core.Bool.{Bool, true, false}
use Prim.Native.Nat.{ℕ, ◌≤◌}
use native.Mathlib.Omega.{arith}
use Rattle.numbers.specs.Limits.{intervals, frames, largest_delay}
use Rattle.runs.specs.declared.figures.Load.{Load}
use Rattle.runs.specs.declared.figures.Figures.{Figures}
use Rattle.runs.specs.declared.middles.Middle.{Middle}
use Rattle.runs.specs.declared.run.Edges.{Edges}
use Rattle.runs.specs.declared.run.Run.{Run}
use Rattle.runs.specs.Valid.{LoadValid, FiguresValid, EdgesValid, EdgesFor, RunValid, MiddleValid}
use Rattle.runs.proofs.Fitting.{sum_bound, runs_few}
use Rattle.tracks.specs.declared.Track.{Track}
use Rattle.tracks.specs.Valid.{TrackValid}
use Rattle.layout.proofs.RoundTrip.{LoadInField, FiguresInField, EdgesInField, RunInField, MiddleInField, TrackInField}

load_in_field : (l : Load) → LoadValid l → l.count ≤ intervals → LoadInField l
unfolding intervals frames largest_delay
load_in_field l v room =
    record {
      count_fits = omega arith;
      sent_fits = omega (arith, v.few);
      lost_fits = omega (arith, v.few, v.lost_of_sent);
      sum_fits = omega (arith, sum_bound l v);
      most_fits = omega (arith, v.within);
      headroom_fits = v.roomy;
    }

figures_in_field : (p : ℕ) (f : Figures) → FiguresValid p f → f.load.count ≤ intervals → FiguresInField f
unfolding intervals
figures_in_field p f v room =
    record {
      load_fits = load_in_field f.load v.load room;
      high_fits = omega (arith, v.high);
      runs_fits = omega (arith, runs_few p f v);
    }

edges_in_field : (b : Bool) (p len count : ℕ) (e : Edges) → EdgesFor b p len count e → count ≤ len → len ≤ intervals → EdgesInField b e
unfolding EdgesFor EdgesValid EdgesInField intervals
edges_in_field false p len count (Edges.Solid k) v few room = let z : ◌≡◌ {A = ℕ} 0 1 = cc v in absurd (omega arith)
edges_in_field false p len count (Edges.Split pre inner post) v few room =
    let a : pre ≡ 0 = cc v in
    let b : inner ≡ 0 = cc v in
    let c : post ≡ 0 = cc v in
    (omega arith, omega arith, omega arith)
edges_in_field true p len count (Edges.Solid k) v few room = (refl, omega (arith, v.0))
edges_in_field true p len count (Edges.Split pre inner post) v few room =
    (omega (arith, v.1), omega (arith, v.0), omega (arith, v.1))

run_in_field : (p : ℕ) (r : Run) → RunValid p r → r.len ≤ intervals → RunInField r
unfolding intervals
run_in_field p r v room =
    record {
      len_fits = omega arith;
      load_fits = load_in_field r.load v.load (omega (arith, v.counted));
      edges_fit = edges_in_field r.mark p r.len r.load.count r.edges v.edges v.counted room;
    }

middle_in_field : (n p size : ℕ) (m : Middle) → MiddleValid n p size m → size ≤ intervals → MiddleInField m
unfolding intervals
middle_in_field n p size m v room =
    record {
      inherited_fits = figures_in_field p m.inherited v.figures.inherited (omega (arith, v.figures.counted));
      available_fits = figures_in_field p m.available v.figures.available (omega (arith, v.figures.counted));
      unavailable_fits = omega (arith, v.figures.counted);
    }

pub track_in_field : (n p len : ℕ) (t : Track) → TrackValid n p len t → len ≤ intervals → TrackInField t
unfolding TrackValid TrackInField
track_in_field n p len Track.Nothing v room = tt
track_in_field n p len (Track.One r) v room = run_in_field p r v.0 (omega (arith, v.1))
track_in_field n p len (Track.Many l m t) v room = (
  run_in_field p l v.first (omega (arith, v.lengths)),
  middle_in_field n p v.size m v.middle (omega (arith, v.lengths)),
  run_in_field p t v.last (omega (arith, v.lengths)),
)
