-- The figures of the intervals with one label, over a stretch: they add up at the border of two runs, and over a run of one label
-- they are the figures that the run keeps.
use mathlib.Core.Path.{◌≡◌, refl, sym, ◌∙◌}
use mathlib.Core.Bool.{Bool, true, false, cond, not, ◌&&◌, and-false, and_comm}
use mathlib.Core.List.{List, [], ◌∷◌, ◌++◌, map, map-append}
use Prim.Native.Nat.{ℕ, suc, ◌+◌, ◌≤◌, ◌<◌}
use native.Mathlib.Omega.{arith}
use native.Mathlib.Nat.{add-zero, zero-add, add-suc, suc-add}
use lib.ListN.{length, length-append}
use Rattle.rule.specs.Labels.{Label}
use Rattle.tallies.specs.declared.Marked.{Marked}
use Rattle.runs.specs.declared.figures.Load.{Load}
use Rattle.runs.specs.declared.figures.Figures.{Figures}
use Rattle.runs.specs.declared.run.Run.{Run}
use Rattle.runs.specs.Figures.{idle, both, none, plus}
use Rattle.runs.specs.Runs.{gross, load_of, single, glue, figures_of}
use Rattle.tallies.specs.Tally.{is, counts, those, highs, number, runs_of}
use Rattle.runs.proofs.Adding.{both_assoc, both_idle, idle_both}
use Rattle.runs.proofs.Tying.{tie_solid}
use Rattle.tracks.proofs.Counting.{ties, ties_append, runs_closed, runs_cut, runs_after, runs_none, NoneOf, number_append, number_none}

-- all that count, put together
unfoldable pub loads : List Marked → Load
loads [] = idle
loads (x ∷ xs) = both (gross x) (loads xs)

-- the figures of the intervals labelled `want`
unfoldable pub figures : ℕ → Label → (ℕ → Label) → ℕ → List Marked → Figures
figures p want at k xs =
    record { load = loads (those want at k xs); high = number (highs want at k xs); runs = runs_of p (highs want at k xs) }

loads_append : (xs ys : List Marked) → loads (xs ++ ys) ≡ both (loads xs) (loads ys)
unfolding loads
loads_append [] ys = sym (idle_both (loads ys))
loads_append (x ∷ xs) ys = rw (loads_append xs ys, both_assoc)

cond_append : {A : Type 0} (b : Bool) (x : A) (xs ys : List A) → cond b (x ∷ (xs ++ ys)) (xs ++ ys) ≡ cond b (x ∷ xs) xs ++ ys
cond_append true x xs ys = refl
cond_append false x xs ys = refl

pub those_append : (want : Label) (at : ℕ → Label) (k : ℕ) (xs ys : List Marked)
    → those want at k (xs ++ ys) ≡ those want at k xs ++ those want at (k + length xs) ys
unfolding those
those_append want at k [] ys = rw add-zero
those_append want at k (x ∷ xs) ys =
    rw (those_append want at (suc k) xs ys, add-suc, ← suc-add) (cond_append (counts want (at k) x) x (those want at (suc k) xs) (those want at (suc k + length xs) ys))

pub highs_append : (want : Label) (at : ℕ → Label) (k : ℕ) (xs ys : List Marked)
    → highs want at k (xs ++ ys) ≡ highs want at k xs ++ highs want at (k + length xs) ys
unfolding highs
highs_append want at k [] ys = rw add-zero
highs_append want at k (x ∷ xs) ys = rw (highs_append want at (suc k) xs ys, add-suc, ← suc-add)

-- all have the mark b
unfoldable pub AllMarked : Bool → List Marked → Type 0
AllMarked b [] = Unit {0}
AllMarked b (x ∷ xs) = (x.mark ≡ b) × AllMarked b xs

highs_low : (want : Label) (at : ℕ → Label) (k : ℕ) (xs : List Marked) → AllMarked false xs → NoneOf (highs want at k xs)
unfolding AllMarked NoneOf highs
highs_low want at k [] h = tt
highs_low want at k (x ∷ xs) h = (rw (h.0, and-false), highs_low want at (suc k) xs h.1)

-- at the border of two runs the high loss runs add up
border : (p : ℕ) (want : Label) (at : ℕ → Label) (k j : ℕ) (b : Bool) (xs : List Marked) (y : Marked) (ys : List Marked)
    → AllMarked b xs → y.mark ≡ not b
    → runs_of p (highs want at k xs ++ highs want at j (y ∷ ys)) ≡ runs_of p (highs want at k xs) + runs_of p (highs want at j (y ∷ ys))
unfolding highs
border p want at k j true xs y ys h e = rw (e, and-false) (runs_cut p (highs want at k xs) (highs want at (suc j) ys))
border p want at k j false xs y ys h e =
    runs_after p (highs want at k xs) (highs want at j (y ∷ ys)) (highs_low want at k xs h)
    ∙ rw (runs_none p (highs want at k xs) (highs_low want at k xs h), zero-add)

-- and so do all figures
pub figures_border : (p : ℕ) (want : Label) (at : ℕ → Label) (k : ℕ) (b : Bool) (xs : List Marked) (y : Marked) (ys : List Marked)
    → AllMarked b xs → y.mark ≡ not b
    → figures p want at k (xs ++ (y ∷ ys)) ≡ plus (figures p want at k xs) (figures p want at (k + length xs) (y ∷ ys))
unfolding figures plus
figures_border p want at k b xs y ys h e =
    rw (those_append want at k xs (y ∷ ys), highs_append want at k xs (y ∷ ys), number_append, loads_append, border p want at k (k + length xs) b xs y ys h e)

-- the load of intervals, those in maintenance left out
unfoldable pub borne : List Marked → Load
borne [] = idle
borne (x ∷ xs) = both (load_of x) (borne xs)

-- whether each is high and counts
abbrev solids : List Marked → List Bool
solids xs = map (λ x. x.mark && not x.maintenance) xs

-- the run of intervals of one mark
unfoldable pub spanned : ℕ → Bool → List Marked → Run
spanned p b xs = record { mark = b; len = length xs; load = borne xs; edges = ties p (solids xs) }

borne_append : (xs ys : List Marked) → borne (xs ++ ys) ≡ both (borne xs) (borne ys)
unfolding borne
borne_append [] ys = sym (idle_both (borne ys))
borne_append (x ∷ xs) ys = rw (borne_append xs ys, both_assoc)

-- one interval is a run
pub spanned_single : (p : ℕ) (x : Marked) → single x ≡ spanned p x.mark (x ∷ [])
unfolding single spanned borne ties
spanned_single p x = rw (both_idle, tie_solid)

-- one more of its mark behind a run
pub spanned_more : (p : ℕ) (b : Bool) (xs : List Marked) (x : Marked) → glue p (spanned p b xs) (single x) ≡ spanned p b (xs ++ (x ∷ []))
unfolding glue single spanned borne ties
spanned_more p b xs x = rw (borne_append, map-append, ties_append, length-append, both_idle, tie_solid)

-- all have the label l
unfoldable pub Uniform : Label → (ℕ → Label) → ℕ → List Marked → Type 0
Uniform l at k [] = Unit {0}
Uniform l at k (x ∷ xs) = (at k ≡ l) × Uniform l at (suc k) xs

pub uniform_by : (l : Label) (at : ℕ → Label) (k : ℕ) (xs : List Marked) → ((i : ℕ) → k ≤ i → i < k + length xs → at i ≡ l) → Uniform l at k xs
unfolding Uniform
uniform_by l at k [] h = tt
uniform_by l at k (x ∷ xs) h = (h k (omega arith) (omega arith), uniform_by l at (suc k) xs (λ i p q. h i (omega arith) (omega arith)))

-- intervals with another label have no figures
those_out : (want l : Label) (at : ℕ → Label) (k : ℕ) (xs : List Marked) → is want l ≡ false → Uniform l at k xs → those want at k xs ≡ []
unfolding those counts Uniform
those_out want l at k [] e u = refl
those_out want l at k (x ∷ xs) e u = rw (u.0, e) (those_out want l at (suc k) xs e u.1)

highs_out : (want l : Label) (at : ℕ → Label) (k : ℕ) (xs : List Marked) → is want l ≡ false → Uniform l at k xs → NoneOf (highs want at k xs)
unfolding highs counts Uniform NoneOf
highs_out want l at k [] e u = tt
highs_out want l at k (x ∷ xs) e u = (rw (u.0, e), highs_out want l at (suc k) xs e u.1)

pub figures_out : (p : ℕ) (want l : Label) (at : ℕ → Label) (k : ℕ) (xs : List Marked) → is want l ≡ false → Uniform l at k xs → figures p want at k xs ≡ none
unfolding figures none loads
figures_out p want l at k xs e u =
    let h : NoneOf (highs want at k xs) = highs_out want l at k xs e u in
    rw (those_out want l at k xs e u, number_none (highs want at k xs) h, runs_none p (highs want at k xs) h)

-- intervals of one mark that all have the label have the figures of their run
loads_in : (want l : Label) (at : ℕ → Label) (k : ℕ) (xs : List Marked) → is want l ≡ true → Uniform l at k xs → loads (those want at k xs) ≡ borne xs
unfolding those counts Uniform loads borne load_of
loads_in want l at k [] e u = refl
loads_in want l at k (x ∷ xs) e u = by x.maintenance refl (loads_in want l at (suc k) xs e u.1)
  where
    by : (m : Bool) → x.maintenance ≡ m → loads (those want at (suc k) xs) ≡ borne xs → loads (those want at k (x ∷ xs)) ≡ borne (x ∷ xs)
    by true f rest = rw (u.0, e, f, idle_both) rest
    by false f rest = rw (u.0, e, f, rest)

highs_in : (want l : Label) (at : ℕ → Label) (k : ℕ) (xs : List Marked) → is want l ≡ true → Uniform l at k xs → highs want at k xs ≡ solids xs
unfolding highs counts Uniform
highs_in want l at k [] e u = refl
highs_in want l at k (x ∷ xs) e u = rw (u.0, e, highs_in want l at (suc k) xs e u.1, and_comm (not x.maintenance) x.mark)

number_solids : (b : Bool) (xs : List Marked) → AllMarked b xs → number (solids xs) ≡ cond b (borne xs).count 0
unfolding number AllMarked borne both load_of gross idle
number_solids true [] h = refl
number_solids false [] h = refl
number_solids true (x ∷ xs) h = by x.maintenance refl (number_solids true xs h.1)
  where
    by : (m : Bool) → x.maintenance ≡ m → number (solids xs) ≡ (borne xs).count → number (solids (x ∷ xs)) ≡ (borne (x ∷ xs)).count
    by true f rest = rw (h.0, f, zero-add) rest
    by false f rest = rw (h.0, f) (omega arith)
number_solids false (x ∷ xs) h = rw h.0 (number_solids false xs h.1)

pub figures_in_lem : (p : ℕ) (want l : Label) (at : ℕ → Label) (k : ℕ) (b : Bool) (xs : List Marked) → is want l ≡ true → Uniform l at k xs → AllMarked b xs
    → figures p want at k xs ≡ figures_of p (spanned p b xs)
unfolding figures figures_of spanned
figures_in_lem p want l at k b xs e u h =
    rw (loads_in want l at k xs e u, highs_in want l at k xs e u, number_solids b xs h, runs_closed)
