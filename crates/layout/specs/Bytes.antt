-- The bytes of a track, 216: its kind, the first run, what lies between, and the last run. What it does not have leaves 0.
use Rattle.std.specs.Prelude.{ℕ, Bool, false, cond, List, ◌++◌}
use Rattle.numbers.specs.Bytes.{bytes_of}
use Rattle.runs.specs.Figures.{turned, idle}
use Rattle.runs.specs.Middles.{unit}
use Rattle.runs.specs.declared.figures.Load.{Load}
use Rattle.runs.specs.declared.figures.Figures.{Figures}
use Rattle.runs.specs.declared.middles.Label.{Label}
use Rattle.runs.specs.declared.middles.Middle.{Middle}
use Rattle.runs.specs.declared.run.Edges.{Edges}
use Rattle.runs.specs.declared.run.Run.{Run}
use Rattle.tracks.specs.declared.Track.{Track}

-- a load, 36 bytes, with the least delay for the headroom
unfoldable pub load_bytes : Load → List ℕ
load_bytes l =
    bytes_of 4 l.count
    ++ (bytes_of 4 l.most
    ++ (bytes_of 4 (turned l.sent l.lost l.headroom) ++ (bytes_of 8 l.sent ++ (bytes_of 8 l.lost ++ bytes_of 8 l.sum))))

-- figures, 44 bytes
unfoldable pub figures_bytes : Figures → List ℕ
figures_bytes f = bytes_of 4 f.high ++ (bytes_of 4 f.runs ++ load_bytes f.load)

-- the form of a run: 0 low, 1 high and split, 2 high and solid
abbrev pub form_of : Bool → Edges → ℕ
form_of mark (Edges.Solid k) = cond mark 2 0
form_of mark (Edges.Split pre inner post) = cond mark 1 0

-- what touches the left end, neither end, the right end

abbrev pub pre_of : Edges → ℕ
pre_of (Edges.Solid k) = k
pre_of (Edges.Split pre inner post) = pre

abbrev pub inner_of : Edges → ℕ
inner_of (Edges.Solid k) = 0
inner_of (Edges.Split pre inner post) = inner

abbrev pub post_of : Edges → ℕ
post_of (Edges.Solid k) = 0
post_of (Edges.Split pre inner post) = post

-- a run: its shape, 20 bytes, and its load
unfoldable pub shape_bytes : Run → List ℕ
shape_bytes r =
    bytes_of 4 (form_of r.mark r.edges)
    ++ (bytes_of 4 r.len ++ (bytes_of 4 (pre_of r.edges) ++ (bytes_of 4 (inner_of r.edges) ++ bytes_of 4 (post_of r.edges))))

unfoldable pub run_bytes : Run → List ℕ
run_bytes r = shape_bytes r ++ load_bytes r.load

-- a label: 0 inherits, 1 available, 2 unavailable
abbrev pub label_word : Label → ℕ
label_word Label.Inherits = 0
label_word (Label.Says unavailable) = cond unavailable 2 1

-- a middle, 96 bytes
unfoldable pub middle_bytes : Middle → List ℕ
middle_bytes m =
    bytes_of 4 (label_word m.label) ++ (bytes_of 4 m.unavailable ++ (figures_bytes m.inherited ++ figures_bytes m.available))

-- a run that is not there
abbrev pub blank_run : Run
blank_run = record { mark = false; len = 0; load = idle; edges = Edges.Split 0 0 0 }

unfoldable pub piece_bytes : ℕ → Run → Middle → Run → List ℕ
piece_bytes kind first m last = bytes_of 8 kind ++ (run_bytes first ++ (middle_bytes m ++ run_bytes last))

-- a track: 0 nothing, 1 one run, 2 a first run, a middle and a last run
unfoldable pub track_bytes : Track → List ℕ
track_bytes Track.Nothing = piece_bytes 0 blank_run unit blank_run
track_bytes (Track.One r) = piece_bytes 1 r unit blank_run
track_bytes (Track.Many l m r) = piece_bytes 2 l m r
