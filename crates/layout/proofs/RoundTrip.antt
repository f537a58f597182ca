-- Both round trips of a track in bytes. `track_read_write`: a track that fits its fields is read back out of its bytes, whose words are in order.
-- `track_write_read`: bytes whose words are in order are the bytes of the track that is read out of them.
-- Assumes nothing.
use mathlib.Core.Path.{◌≡◌, refl, ap, ◌∙◌}
use mathlib.Core.Bool.{Bool, true, false, ◌&&◌, ◌||◌, not}
use mathlib.Core.List.{List, ◌++◌, append_assoc}
use Prim.Native.Nat.{ℕ, ◌^◌, ◌≤◌, ◌<◌}
use native.Mathlib.Omega.{arith}
use lib.ListN.{length, length-append}
use lib.Dec.{eqb}
use borrow.Author.Tests.{le-leb}
use Rattle.numbers.specs.Bytes.{number_at, part, bytes_of, are_zero}
use Rattle.numbers.specs.Limits.{largest_delay}
use Rattle.numbers.proofs.Bounds.{largest_delay_fits}
use Rattle.numbers.proofs.Numbers.{number_of_bytes, length_bytes}
use Rattle.runs.specs.Figures.{turned, idle, none}
use Rattle.runs.specs.Middles.{unit}
use Rattle.runs.specs.declared.figures.Load.{Load}
use Rattle.runs.specs.declared.figures.Figures.{Figures}
use Rattle.runs.specs.declared.middles.Label.{Label}
use Rattle.runs.specs.declared.middles.Middle.{Middle}
use Rattle.runs.specs.declared.run.Edges.{Edges}
use Rattle.runs.specs.declared.run.Run.{Run}
use Rattle.runs.proofs.Headroom.{turned_within, turned_twice}
use Rattle.tracks.specs.declared.Track.{Track}
use Rattle.layout.specs.Bytes.{load_bytes, figures_bytes, form_of, pre_of, inner_of, post_of, shape_bytes, run_bytes, label_word, middle_bytes, blank_run, piece_bytes, track_bytes}
use Rattle.layout.specs.Reading.{load_in, figures_in, edges_in, run_in, label_in, middle_in, track_in, load_words, run_words, middle_words, words_meet}
use Rattle.layout.proofs.Sizes.{size_run, size_middle}
use Rattle.layout.proofs.Shifting.{load_behind, figures_behind, load_words_behind, zeros_at, run_at, middle_at, run_words_at, middle_words_at}

-- values that fit their fields; a headroom is that of a least delay

pub record LoadInField (l : Load) : Type 0 where
  pub count_fits : l.count < 2 ^ 32
  pub sent_fits : l.sent < 2 ^ 64
  pub lost_fits : l.lost < 2 ^ 64
  pub sum_fits : l.sum < 2 ^ 64
  pub most_fits : l.most < 2 ^ 32
  pub headroom_fits : l.headroom ≤ largest_delay

pub record FiguresInField (f : Figures) : Type 0 where
  pub load_fits : LoadInField f.load
  pub high_fits : f.high < 2 ^ 32
  pub runs_fits : f.runs < 2 ^ 32

-- the edges of a run of low marks are split
unfoldable pub EdgesInField : Bool → Edges → Type 0
EdgesInField mark (Edges.Solid k) = (mark ≡ true) × (k < 2 ^ 32)
EdgesInField mark (Edges.Split pre inner post) = (pre < 2 ^ 32) × (inner < 2 ^ 32) × (post < 2 ^ 32)

pub record RunInField (r : Run) : Type 0 where
  pub len_fits : r.len < 2 ^ 32
  pub load_fits : LoadInField r.load
  pub edges_fit : EdgesInField r.mark r.edges

pub record MiddleInField (m : Middle) : Type 0 where
  pub inherited_fits : FiguresInField m.inherited
  pub available_fits : FiguresInField m.available
  pub unavailable_fits : m.unavailable < 2 ^ 32

unfoldable pub TrackInField : Track → Type 0
TrackInField Track.Nothing = Unit {0}
TrackInField (Track.One r) = RunInField r
TrackInField (Track.Many l m r) = RunInField l × MiddleInField m × RunInField r

-- what is written reads as the value

module _ (rest : List ℕ) (l : Load) (f : LoadInField l) where
  sent_word : number_at 8 (load_bytes l ++ rest) 12 ≡ l.sent
  unfolding load_bytes number_at part bytes_of
  sent_word = number_of_bytes 8 l.sent (omega (arith, f.sent_fits))

  lost_word : number_at 8 (load_bytes l ++ rest) 20 ≡ l.lost
  unfolding load_bytes number_at part bytes_of
  lost_word = number_of_bytes 8 l.lost (omega (arith, f.lost_fits))

  least_within : turned l.sent l.lost l.headroom ≤ largest_delay
  least_within = turned_within l.sent l.lost l.headroom f.headroom_fits

  least_word : number_at 4 (load_bytes l ++ rest) 8 ≡ turned l.sent l.lost l.headroom
  unfolding load_bytes number_at part bytes_of
  least_word = number_of_bytes 4 (turned l.sent l.lost l.headroom) (omega (arith, least_within, largest_delay_fits))

  headroom_word :
      turned (number_at 8 (load_bytes l ++ rest) 12) (number_at 8 (load_bytes l ++ rest) 20) (number_at 4 (load_bytes l ++ rest) 8) ≡ l.headroom
  headroom_word = rw (sent_word, lost_word, least_word) (turned_twice l.sent l.lost l.headroom f.headroom_fits)

  load_back : load_in (load_bytes l ++ rest) 0 ≡ l
  unfolding load_in load_bytes number_at part bytes_of
  load_back =
      λ i.
      record {
        count = number_of_bytes 4 l.count (omega (arith, f.count_fits)) i;
        sent = sent_word i;
        lost = lost_word i;
        sum = number_of_bytes 8 l.sum (omega (arith, f.sum_fits)) i;
        most = number_of_bytes 4 l.most (omega (arith, f.most_fits)) i;
        headroom = headroom_word i;
      }

  load_words_meet : load_words (load_bytes l ++ rest) 0 ≡ true
  unfolding load_words
  load_words_meet = rw least_word (le-leb (turned l.sent l.lost l.headroom) largest_delay least_within)

module _ (rest : List ℕ) where
  figures_back : (f : Figures) → FiguresInField f → figures_in (figures_bytes f ++ rest) 0 ≡ f
  unfolding figures_in figures_bytes number_at part bytes_of
  figures_back f h =
      λ i.
      record {
        load = (load_behind (bytes_of 4 f.high ++ bytes_of 4 f.runs) (load_bytes f.load ++ rest) 0 ∙ load_back rest f.load h.load_fits) i;
        high = number_of_bytes 4 f.high (omega (arith, h.high_fits)) i;
        runs = number_of_bytes 4 f.runs (omega (arith, h.runs_fits)) i;
      }

  figures_words : (f : Figures) → FiguresInField f → load_words (figures_bytes f ++ rest) 8 ≡ true
  unfolding figures_bytes bytes_of
  figures_words f h =
      load_words_behind (bytes_of 4 f.high ++ bytes_of 4 f.runs) (load_bytes f.load ++ rest) 0 ∙ load_words_meet rest f.load h.load_fits

-- a form tells the mark and the edges

form_mark : (mark : Bool) (e : Edges) → not (eqb (form_of mark e) 0) ≡ mark
form_mark true (Edges.Solid k) = refl
form_mark false (Edges.Solid k) = refl
form_mark true (Edges.Split pre inner post) = refl
form_mark false (Edges.Split pre inner post) = refl

form_small : (mark : Bool) (e : Edges) → form_of mark e ≤ 2
form_small true (Edges.Solid k) = omega arith
form_small false (Edges.Solid k) = omega arith
form_small true (Edges.Split pre inner post) = omega arith
form_small false (Edges.Split pre inner post) = omega arith

form_edges : (mark : Bool) (e : Edges) → EdgesInField mark e → edges_in (form_of mark e) (pre_of e) (inner_of e) (post_of e) ≡ e
unfolding edges_in EdgesInField
form_edges true (Edges.Solid k) h = refl
form_edges false (Edges.Solid k) h = let z : ◌≡◌ {A = ℕ} 0 1 = cc h.0 in absurd (omega arith)
form_edges true (Edges.Split pre inner post) h = refl
form_edges false (Edges.Split pre inner post) h = refl

edge_words : (mark : Bool) (e : Edges) → EdgesInField mark e → (pre_of e < 2 ^ 32) × (inner_of e < 2 ^ 32) × (post_of e < 2 ^ 32)
unfolding EdgesInField
edge_words mark (Edges.Solid k) h = (h.1, omega arith, omega arith)
edge_words mark (Edges.Split pre inner post) h = h

solid_words : (mark : Bool) (e : Edges) → not (eqb (form_of mark e) 2) || (eqb (inner_of e) 0 && eqb (post_of e) 0) ≡ true
solid_words true (Edges.Solid k) = refl
solid_words false (Edges.Solid k) = refl
solid_words true (Edges.Split pre inner post) = refl
solid_words false (Edges.Split pre inner post) = refl

label_back : (l : Label) → label_in (label_word l) ≡ l
unfolding label_in
label_back Label.Inherits = refl
label_back (Label.Says true) = refl
label_back (Label.Says false) = refl

label_small : (l : Label) → label_word l ≤ 2
label_small Label.Inherits = omega arith
label_small (Label.Says true) = omega arith
label_small (Label.Says false) = omega arith

-- the words of a run, as they are read

module _ (rest : List ℕ) (r : Run) (f : RunInField r) where
  form_word : number_at 4 (run_bytes r ++ rest) 0 ≡ form_of r.mark r.edges
  unfolding run_bytes shape_bytes number_at part bytes_of
  form_word = number_of_bytes 4 (form_of r.mark r.edges) (omega (arith, form_small r.mark r.edges))

  len_word : number_at 4 (run_bytes r ++ rest) 4 ≡ r.len
  unfolding run_bytes shape_bytes number_at part bytes_of
  len_word = number_of_bytes 4 r.len (omega (arith, f.len_fits))

  pre_word : number_at 4 (run_bytes r ++ rest) 8 ≡ pre_of r.edges
  unfolding run_bytes shape_bytes number_at part bytes_of
  pre_word = number_of_bytes 4 (pre_of r.edges) (omega (arith, (edge_words r.mark r.edges f.edges_fit).0))

  inner_word : number_at 4 (run_bytes r ++ rest) 12 ≡ inner_of r.edges
  unfolding run_bytes shape_bytes number_at part bytes_of
  inner_word = number_of_bytes 4 (inner_of r.edges) (omega (arith, (edge_words r.mark r.edges f.edges_fit).1))

  post_word : number_at 4 (run_bytes r ++ rest) 16 ≡ post_of r.edges
  unfolding run_bytes shape_bytes number_at part bytes_of
  post_word = number_of_bytes 4 (post_of r.edges) (omega (arith, (edge_words r.mark r.edges f.edges_fit).2))

  load_word : load_in (run_bytes r ++ rest) 20 ≡ r.load
  unfolding run_bytes shape_bytes bytes_of
  load_word = load_behind (shape_bytes r) (load_bytes r.load ++ rest) 0 ∙ load_back rest r.load f.load_fits

  edges_word :
      edges_in (number_at 4 (run_bytes r ++ rest) 0) (number_at 4 (run_bytes r ++ rest) 8) (number_at 4 (run_bytes r ++ rest) 12) (number_at 4 (run_bytes r ++ rest) 16) ≡ r.edges
  edges_word = rw (form_word, pre_word, inner_word, post_word) (form_edges r.mark r.edges f.edges_fit)

  run_back : run_in (run_bytes r ++ rest) 0 ≡ r
  unfolding run_in
  run_back =
      λ i.
      record {
        mark = (ap (λ k. not (eqb k 0)) form_word ∙ form_mark r.mark r.edges) i;
        len = len_word i;
        load = load_word i;
        edges = edges_word i;
      }

  load_words_lem : load_words (run_bytes r ++ rest) 20 ≡ true
  unfolding run_bytes shape_bytes bytes_of
  load_words_lem = load_words_behind (shape_bytes r) (load_bytes r.load ++ rest) 0 ∙ load_words_meet rest r.load f.load_fits

  run_words_meet : run_words (run_bytes r ++ rest) 0 ≡ true
  unfolding run_words
  run_words_meet =
      rw (form_word, inner_word, post_word, load_words_lem, solid_words r.mark r.edges, le-leb (form_of r.mark r.edges) 2 (form_small r.mark r.edges))

module _ (rest : List ℕ) (m : Middle) (f : MiddleInField m) where
  label_word_lem : number_at 4 (middle_bytes m ++ rest) 0 ≡ label_word m.label
  unfolding middle_bytes number_at part bytes_of
  label_word_lem = number_of_bytes 4 (label_word m.label) (omega (arith, label_small m.label))

  unavailable_word : number_at 4 (middle_bytes m ++ rest) 4 ≡ m.unavailable
  unfolding middle_bytes number_at part bytes_of
  unavailable_word = number_of_bytes 4 m.unavailable (omega (arith, f.unavailable_fits))

  inherited_word : figures_in (middle_bytes m ++ rest) 8 ≡ m.inherited
  unfolding middle_bytes bytes_of
  inherited_word =
      ap (λ l. figures_in (bytes_of 4 (label_word m.label) ++ (bytes_of 4 m.unavailable ++ l)) 8) (append_assoc (figures_bytes m.inherited) (figures_bytes m.available) rest)
      ∙ figures_behind (bytes_of 4 (label_word m.label) ++ bytes_of 4 m.unavailable) (figures_bytes m.inherited ++ (figures_bytes m.available ++ rest)) 0
      ∙ figures_back (figures_bytes m.available ++ rest) m.inherited f.inherited_fits

  available_word : figures_in (middle_bytes m ++ rest) 52 ≡ m.available
  unfolding middle_bytes bytes_of figures_bytes load_bytes
  available_word =
      figures_behind (bytes_of 4 (label_word m.label) ++ (bytes_of 4 m.unavailable ++ figures_bytes m.inherited)) (figures_bytes m.available ++ rest) 0
      ∙ figures_back rest m.available f.available_fits

  inherited_words : load_words (middle_bytes m ++ rest) 16 ≡ true
  unfolding middle_bytes bytes_of
  inherited_words =
      ap (λ l. load_words (bytes_of 4 (label_word m.label) ++ (bytes_of 4 m.unavailable ++ l)) 16) (append_assoc (figures_bytes m.inherited) (figures_bytes m.available) rest)
      ∙ load_words_behind (bytes_of 4 (label_word m.label) ++ bytes_of 4 m.unavailable) (figures_bytes m.inherited ++ (figures_bytes m.available ++ rest)) 8
      ∙ figures_words (figures_bytes m.available ++ rest) m.inherited f.inherited_fits

  available_words : load_words (middle_bytes m ++ rest) 60 ≡ true
  unfolding middle_bytes bytes_of figures_bytes load_bytes
  available_words =
      load_words_behind (bytes_of 4 (label_word m.label) ++ (bytes_of 4 m.unavailable ++ figures_bytes m.inherited)) (figures_bytes m.available ++ rest) 8
      ∙ figures_words rest m.available f.available_fits

  middle_words_meet : middle_words (middle_bytes m ++ rest) 0 ≡ true
  unfolding middle_words
  middle_words_meet = rw (label_word_lem, inherited_words, available_words, le-leb (label_word m.label) 2 (label_small m.label))

  middle_back : middle_in (middle_bytes m ++ rest) 0 ≡ m
  unfolding middle_in
  middle_back =
      λ i.
      record {
        label = (ap label_in label_word_lem ∙ label_back m.label) i;
        inherited = inherited_word i;
        available = available_word i;
        unavailable = unavailable_word i;
      }

-- a track: its kind, and its pieces in their places

module _ (rest : List ℕ) (kind : ℕ) (l : Run) (m : Middle) (r : Run) where
  kind_word : kind < 2 ^ 64 → number_at 8 (piece_bytes kind l m r ++ rest) 0 ≡ kind
  unfolding piece_bytes number_at part bytes_of
  kind_word h = number_of_bytes 8 kind (omega arith)

  -- the pieces behind the kind, one by one

  at_first : piece_bytes kind l m r ++ rest ≡ bytes_of 8 kind ++ (run_bytes l ++ (middle_bytes m ++ (run_bytes r ++ rest)))
  unfolding piece_bytes
  at_first = simp append_assoc

  at_middle : piece_bytes kind l m r ++ rest ≡ (bytes_of 8 kind ++ run_bytes l) ++ (middle_bytes m ++ (run_bytes r ++ rest))
  unfolding piece_bytes
  at_middle = simp append_assoc

  at_last : piece_bytes kind l m r ++ rest ≡ (bytes_of 8 kind ++ (run_bytes l ++ middle_bytes m)) ++ (run_bytes r ++ rest)
  unfolding piece_bytes
  at_last = simp append_assoc

  before_first : length (bytes_of 8 kind) ≡ 8
  before_first = length_bytes 8 kind

  before_middle : length (bytes_of 8 kind ++ run_bytes l) ≡ 64
  before_middle = rw (length-append, before_first, size_run)

  before_last : length (bytes_of 8 kind ++ (run_bytes l ++ middle_bytes m)) ≡ 160
  before_last = rw (length-append, length-append, before_first, size_run, size_middle)

  first_run : RunInField l → run_in (piece_bytes kind l m r ++ rest) 8 ≡ l
  first_run f = rw at_first (run_at (bytes_of 8 kind) _ 8 before_first ∙ run_back (middle_bytes m ++ (run_bytes r ++ rest)) l f)

  middle_piece : MiddleInField m → middle_in (piece_bytes kind l m r ++ rest) 64 ≡ m
  middle_piece f = rw at_middle (middle_at (bytes_of 8 kind ++ run_bytes l) _ 64 before_middle ∙ middle_back (run_bytes r ++ rest) m f)

  last_run : RunInField r → run_in (piece_bytes kind l m r ++ rest) 160 ≡ r
  last_run f = rw at_last (run_at (bytes_of 8 kind ++ (run_bytes l ++ middle_bytes m)) _ 160 before_last ∙ run_back rest r f)

  first_words : RunInField l → run_words (piece_bytes kind l m r ++ rest) 8 ≡ true
  first_words f = rw at_first (run_words_at (bytes_of 8 kind) _ 8 before_first ∙ run_words_meet (middle_bytes m ++ (run_bytes r ++ rest)) l f)

  last_words : RunInField r → run_words (piece_bytes kind l m r ++ rest) 160 ≡ true
  last_words f = rw at_last (run_words_at (bytes_of 8 kind ++ (run_bytes l ++ middle_bytes m)) _ 160 before_last ∙ run_words_meet rest r f)

  middle_words_lem : MiddleInField m → middle_words (piece_bytes kind l m r ++ rest) 64 ≡ true
  middle_words_lem f = rw at_middle (middle_words_at (bytes_of 8 kind ++ run_bytes l) _ 64 before_middle ∙ middle_words_meet (run_bytes r ++ rest) m f)

-- what a track does not have is 0

nothing_zero : (rest : List ℕ) → are_zero 208 (piece_bytes 0 blank_run unit blank_run ++ rest) 8 ≡ true
unfolding piece_bytes run_bytes shape_bytes middle_bytes figures_bytes load_bytes bytes_of are_zero unit none idle turned
nothing_zero rest = refl

blank_zero : (rest : List ℕ) → are_zero 152 (middle_bytes unit ++ (run_bytes blank_run ++ rest)) 0 ≡ true
unfolding run_bytes shape_bytes middle_bytes figures_bytes load_bytes bytes_of are_zero unit none idle turned
blank_zero rest = refl

one_zero : (rest : List ℕ) (r : Run) → are_zero 152 (piece_bytes 1 r unit blank_run ++ rest) 64 ≡ true
one_zero rest r = rw (at_middle rest 1 r unit blank_run) (zeros_at (bytes_of 8 1 ++ run_bytes r) _ 64 (before_middle rest 1 r unit blank_run) 152 ∙ blank_zero rest)

-- the two halves of `read_write`

pub track_read_write : (t : Track) (rest : List ℕ) → TrackInField t → track_in (track_bytes t ++ rest) 0 ≡ t
unfolding track_in track_bytes TrackInField
track_read_write Track.Nothing rest f = rw (kind_word rest 0 blank_run unit blank_run (omega arith))
track_read_write (Track.One r) rest f = rw (kind_word rest 1 r unit blank_run (omega arith), first_run rest 1 r unit blank_run f)
track_read_write (Track.Many l m r) rest f =
    rw (kind_word rest 2 l m r (omega arith), first_run rest 2 l m r f.0, middle_piece rest 2 l m r f.1, last_run rest 2 l m r f.2)

pub track_words : (t : Track) (rest : List ℕ) → TrackInField t → words_meet (track_bytes t ++ rest) 0 ≡ true
unfolding words_meet track_bytes TrackInField
track_words Track.Nothing rest f = rw (kind_word rest 0 blank_run unit blank_run (omega arith)) (nothing_zero rest)
track_words (Track.One r) rest f = rw (kind_word rest 1 r unit blank_run (omega arith), first_words rest 1 r unit blank_run f, one_zero rest r)
track_words (Track.Many l m r) rest f =
    rw (kind_word rest 2 l m r (omega arith), first_words rest 2 l m r f.0, middle_words_lem rest 2 l m r f.1, last_words rest 2 l m r f.2)
