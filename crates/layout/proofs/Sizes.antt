-- The sizes of what is put: each piece of known width is computed.
-- Assumes nothing.
use mathlib.Core.Path.{◌≡◌, refl}
use lib.ListN.{length}
use Prim.Native.Nat.{ℕ}
use Rattle.numbers.specs.Bytes.{bytes_of}
use Rattle.runs.specs.declared.figures.Load.{Load}
use Rattle.runs.specs.declared.figures.Figures.{Figures}
use Rattle.runs.specs.declared.middles.Middle.{Middle}
use Rattle.runs.specs.declared.run.Run.{Run}
use Rattle.tracks.specs.declared.Track.{Track}
use Rattle.layout.specs.Bytes.{load_bytes, figures_bytes, shape_bytes, run_bytes, middle_bytes, piece_bytes, track_bytes}

pub size_load : (l : Load) → length (load_bytes l) ≡ 36
unfolding load_bytes bytes_of
size_load l = refl

pub size_figures : (f : Figures) → length (figures_bytes f) ≡ 44
unfolding figures_bytes load_bytes bytes_of
size_figures f = refl

pub size_shape : (r : Run) → length (shape_bytes r) ≡ 20
unfolding shape_bytes bytes_of
size_shape r = refl

pub size_run : (r : Run) → length (run_bytes r) ≡ 56
unfolding run_bytes shape_bytes load_bytes bytes_of
size_run r = refl

pub size_middle : (m : Middle) → length (middle_bytes m) ≡ 96
unfolding middle_bytes figures_bytes load_bytes bytes_of
size_middle m = refl

pub size_pieces : (kind : ℕ) (l : Run) (m : Middle) (r : Run) → length (piece_bytes kind l m r) ≡ 216
unfolding piece_bytes run_bytes shape_bytes middle_bytes figures_bytes load_bytes bytes_of
size_pieces kind l m r = refl

pub size_track : (t : Track) → length (track_bytes t) ≡ 216
unfolding track_bytes
size_track Track.Nothing = size_pieces 0 _ _ _
size_track (Track.One r) = size_pieces 1 r _ _
size_track (Track.Many l m r) = size_pieces 2 l m r
