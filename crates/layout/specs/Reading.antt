-- The values of a track in bytes, from a place on, and the words that a writer makes.
use Rattle.std.specs.Prelude.{ℕ, ◌+◌, Bool, true, false, ◌&&◌, ◌||◌, not, List, leb, eqb}
use Rattle.numbers.specs.Bytes.{number_at, are_zero}
use Rattle.numbers.specs.Limits.{largest_delay}
use Rattle.runs.specs.Figures.{turned}
use Rattle.runs.specs.declared.figures.Load.{Load}
use Rattle.runs.specs.declared.figures.Figures.{Figures}
use Rattle.runs.specs.declared.middles.Label.{Label}
use Rattle.runs.specs.declared.middles.Middle.{Middle}
use Rattle.runs.specs.declared.run.Edges.{Edges}
use Rattle.runs.specs.declared.run.Run.{Run}
use Rattle.tracks.specs.declared.Track.{Track}

-- the bytes hold the least delay
unfoldable pub load_in : List ℕ → ℕ → Load
load_in s at =
    record {
      count = number_at 4 s at;
      sent = number_at 8 s (at + 12);
      lost = number_at 8 s (at + 20);
      sum = number_at 8 s (at + 28);
      most = number_at 4 s (at + 4);
      headroom = turned (number_at 8 s (at + 12)) (number_at 8 s (at + 20)) (number_at 4 s (at + 8));
    }

unfoldable pub figures_in : List ℕ → ℕ → Figures
figures_in s at = record { load = load_in s (at + 8); high = number_at 4 s at; runs = number_at 4 s (at + 4) }

abbrev pub edges_by : Bool → ℕ → ℕ → ℕ → Edges
edges_by true pre inner post = Edges.Solid pre
edges_by false pre inner post = Edges.Split pre inner post

-- a form of 2 is solid
unfoldable pub edges_in : ℕ → ℕ → ℕ → ℕ → Edges
edges_in form pre inner post = edges_by (eqb form 2) pre inner post

-- a form of 0 is low
unfoldable pub run_in : List ℕ → ℕ → Run
run_in s at =
    record {
      mark = not (eqb (number_at 4 s at) 0);
      len = number_at 4 s (at + 4);
      load = load_in s (at + 20);
      edges = edges_in (number_at 4 s at) (number_at 4 s (at + 8)) (number_at 4 s (at + 12)) (number_at 4 s (at + 16));
    }

abbrev pub label_by : Bool → Bool → Label
label_by true one = Label.Inherits
label_by false one = Label.Says (not one)

-- 0 inherits, 1 is available, and else it is unavailable
unfoldable pub label_in : ℕ → Label
label_in word = label_by (eqb word 0) (eqb word 1)

unfoldable pub middle_in : List ℕ → ℕ → Middle
middle_in s at =
    record {
      label = label_in (number_at 4 s at);
      inherited = figures_in s (at + 8);
      available = figures_in s (at + 52);
      unavailable = number_at 4 s (at + 4);
    }

abbrev pub track_by : Bool → Bool → List ℕ → ℕ → Track
track_by true one s at = Track.Nothing
track_by false true s at = Track.One (run_in s (at + 8))
track_by false false s at = Track.Many (run_in s (at + 8)) (middle_in s (at + 64)) (run_in s (at + 160))

-- by the kind: 0 nothing, 1 one run, and else a first run, a middle and a last run
unfoldable pub track_in : List ℕ → ℕ → Track
track_in s at = track_by (eqb (number_at 8 s at) 0) (eqb (number_at 8 s at) 1) s at

-- a least delay is at most the largest delay
unfoldable pub load_words : List ℕ → ℕ → Bool
load_words s at = leb (number_at 4 s (at + 8)) largest_delay

-- the form is 0, 1 or 2, a solid run has nothing but its length at its edges, and its load's least delay is in order
unfoldable pub run_words : List ℕ → ℕ → Bool
run_words s at =
    leb (number_at 4 s at) 2
    && (not (eqb (number_at 4 s at) 2) || (eqb (number_at 4 s (at + 12)) 0 && eqb (number_at 4 s (at + 16)) 0))
    && load_words s (at + 20)

-- the label is 0, 1 or 2, and so are the least delays of both loads
unfoldable pub middle_words : List ℕ → ℕ → Bool
middle_words s at = leb (number_at 4 s at) 2 && load_words s (at + 16) && load_words s (at + 60)

abbrev pub words_by : Bool → Bool → Bool → List ℕ → ℕ → Bool
words_by true one two s at = are_zero 208 s (at + 8)
words_by false true two s at = run_words s (at + 8) && are_zero 152 s (at + 64)
words_by false false true s at = run_words s (at + 8) && middle_words s (at + 64) && run_words s (at + 160)
words_by false false false s at = false

-- the kind is 0, 1 or 2, what the track does not have is 0, and the words of what it has are in order
unfoldable pub words_meet : List ℕ → ℕ → Bool
words_meet s at = words_by (eqb (number_at 8 s at) 0) (eqb (number_at 8 s at) 1) (eqb (number_at 8 s at) 2) s at
