-- Pieces put one behind the other are all of them put at once, each a size and its bytes.
-- Assumes nothing.
use mathlib.Core.Path.{◌≡◌, refl, ap, sym, ◌∙◌}
use mathlib.Core.List.{List, [], ◌∷◌, ◌++◌}
use Prim.Native.Nat.{ℕ, ◌+◌}
use lib.ListN.{length}
use lib.Seq.{sets}
use Rattle.numbers.specs.Bytes.{bytes_of}
use Rattle.numbers.proofs.Numbers.{sets_append, length_bytes}
use Rattle.runs.specs.declared.figures.Figures.{Figures}
use Rattle.runs.specs.declared.middles.Middle.{Middle}
use Rattle.runs.specs.declared.run.Run.{Run}
use Rattle.layout.specs.Bytes.{figures_bytes, shape_bytes, run_bytes, middle_bytes}
use Rattle.layout.proofs.Sizes.{size_figures, size_shape, size_run, size_middle}

pub record Piece : Type 0 where
  pub size : ℕ
  pub bytes : List ℕ
  pub fits : length bytes ≡ size

abbrev pub piece : (size : ℕ) (bytes : List ℕ) → length bytes ≡ size → Piece
piece size bytes fits = record { size = size; bytes = bytes; fits = fits }

-- one behind the other, from i on
abbrev pub laid : List ℕ → ℕ → Piece → List Piece → List ℕ
laid l i p [] = sets l i p.bytes
laid l i p (q ∷ ps) = laid (sets l i p.bytes) (i + p.size) q ps

-- all of them
abbrev pub joined : Piece → List Piece → List ℕ
joined p [] = p.bytes
joined p (q ∷ ps) = p.bytes ++ joined q ps

pub laid_joined : (l : List ℕ) (i : ℕ) (p : Piece) (ps : List Piece) → laid l i p ps ≡ sets l i (joined p ps)
laid_joined l i p [] = refl
laid_joined l i p (q ∷ ps) =
    laid_joined (sets l i p.bytes) (i + p.size) q ps
    ∙ ap (λ k. sets (sets l i p.bytes) (i + k) (joined q ps)) (sym p.fits)
    ∙ sym (sets_append p.bytes (joined q ps) l i)

-- What is put right behind a piece of known size is put with it: one law for each piece.

right_behind : (n : ℕ) (a b l : List ℕ) (i j : ℕ) → length a ≡ n → j ≡ i + n → sets (sets l i a) j b ≡ sets l i (a ++ b)
right_behind n a b l i j e f = ap (λ k. sets (sets l i a) k b) (f ∙ ap (λ k. i + k) (sym e)) ∙ sym (sets_append a b l i)

pub behind_bytes : (w x i j : ℕ) (b l : List ℕ) → j ≡ i + w → sets (sets l i (bytes_of w x)) j b ≡ sets l i (bytes_of w x ++ b)
behind_bytes w x i j b l = right_behind w (bytes_of w x) b l i j (length_bytes w x)

pub behind_figures : (f : Figures) (i j : ℕ) (b l : List ℕ) → j ≡ i + 44 → sets (sets l i (figures_bytes f)) j b ≡ sets l i (figures_bytes f ++ b)
behind_figures f i j b l = right_behind 44 (figures_bytes f) b l i j (size_figures f)

pub behind_shape : (r : Run) (i j : ℕ) (b l : List ℕ) → j ≡ i + 20 → sets (sets l i (shape_bytes r)) j b ≡ sets l i (shape_bytes r ++ b)
behind_shape r i j b l = right_behind 20 (shape_bytes r) b l i j (size_shape r)

pub behind_run : (r : Run) (i j : ℕ) (b l : List ℕ) → j ≡ i + 56 → sets (sets l i (run_bytes r)) j b ≡ sets l i (run_bytes r ++ b)
behind_run r i j b l = right_behind 56 (run_bytes r) b l i j (size_run r)

pub behind_middle : (m : Middle) (i j : ℕ) (b l : List ℕ) → j ≡ i + 96 → sets (sets l i (middle_bytes m)) j b ≡ sets l i (middle_bytes m ++ b)
behind_middle m i j b l = right_behind 96 (middle_bytes m) b l i j (size_middle m)

pub ruleset behind = (behind_bytes, behind_figures, behind_shape, behind_run, behind_middle)
