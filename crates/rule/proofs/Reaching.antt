-- What a running evaluator can hold of a track after a number of marks (`Possible`) is just what the test `reachable` lets through.
-- One way each mark keeps the test. The other way a list is at hand: first the label as often as fits, then the pending marks against it.
use mathlib.Core.Path.{◌≡◌, refl, ap, ◌∙◌}
use mathlib.Core.Bool.{Bool, true, false, not, cond, ◌&&◌, false≢true}
use mathlib.Core.List.{List, [], ◌∷◌, ◌++◌}
use Prim.Native.Nat.{ℕ, zero, suc, ◌+◌, ◌-◌, ◌≤◌, ◌<◌}
use native.Mathlib.Omega.{arith}
use native.Mathlib.Nat.{add-zero, zero-add, add-suc, suc-add}
use lib.Dec.{leb, ltb}
use lib.ListN.{length, replicate, length-append, length-replicate, replicate-append-replicate}
use borrow.Author.Tests.{leb-true, leb-false, ltb-true, lt-ltb, le-leb, lt-leb}
use Rattle.rule.specs.declared.Track.{Track}
use Rattle.rule.specs.Evaluator.{fresh, settles, turn, run, Possible, reachable}
use Rattle.rule.proofs.Windows.{beq_same, beq_not}
use Rattle.rule.proofs.Labelling.{run_append}

-- the test, taken apart
pub record Reached (n fed : ℕ) (t : Track) : Type 0 where
  pub short : t.pending < n
  pub enough : cond t.label (n + t.pending) t.pending ≤ fed

pub reached : (n fed : ℕ) (t : Track) → reachable n fed t ≡ true → Reached n fed t
unfolding reachable
reached n fed t e = by (ltb t.pending n) (leb (cond t.label (n + t.pending) t.pending) fed) refl refl e
  where
    by : (a b : Bool) → ltb t.pending n ≡ a → leb (cond t.label (n + t.pending) t.pending) fed ≡ b → (a && b) ≡ true → Reached n fed t
    by true true p q e = record { short = ltb-true _ _ p; enough = leb-true _ _ q }
    by true false p q e = absurd (false≢true e)
    by false b p q e = absurd (false≢true e)

pub reaches : (n fed : ℕ) (t : Track) → Reached n fed t → reachable n fed t ≡ true
unfolding reachable
reaches n fed t r = rw (lt-ltb _ _ r.short, le-leb _ _ r.enough)

-- each mark keeps the test
reached_turn : (n fed : ℕ) (t : Track) (m : Bool) → 1 ≤ n → Reached n fed t → Reached n (suc fed) (turn n t m)
unfolding turn settles
reached_turn n fed t m p r = by t.label m (leb n (t.pending + 1)) refl refl refl
  where
    enough : (l : Bool) → t.label ≡ l → cond l (n + t.pending) t.pending ≤ fed
    enough l e = rw e at r.enough

    by : (l a c : Bool) → t.label ≡ l → m ≡ a → leb n (t.pending + 1) ≡ c → Reached n (suc fed) (turn n t m)
    by true true c e f g = rw (e, f) (record { short = omega arith; enough = omega (arith, enough true e) })
    by true false true e f g = rw (e, f, g) (record { short = omega arith; enough = omega (arith, enough true e) })
    by true false false e f g = rw (e, f, g) (record { short = leb-false _ _ g; enough = omega (arith, enough true e) })
    by false true true e f g = rw (e, f, g) (record { short = omega arith; enough = omega (arith, enough false e, leb-true n (t.pending + 1) g, r.short) })
    by false true false e f g = rw (e, f, g) (record { short = leb-false _ _ g; enough = omega (arith, enough false e) })
    by false false c e f g = rw (e, f) (record { short = omega arith; enough = omega (arith, enough false e) })

reached_run : (n fed : ℕ) (t : Track) (ms : List Bool) → 1 ≤ n → Reached n fed t → Reached n (fed + length ms) (run n t ms)
unfolding run
reached_run n fed t [] p r = rw add-zero r
reached_run n fed t (m ∷ ms) p r = rw (add-suc, ← suc-add) (reached_run n (suc fed) (turn n t m) ms p (reached_turn n fed t m p r))

-- whatever some marks leave passes the test
pub possible_reachable : (n fed : ℕ) (t : Track) → 1 ≤ n → Possible n fed t → reachable n fed t ≡ true
unfolding Possible
possible_reachable n fed t p (ms, e, f) =
    rw (← f, ← e, ← zero-add (length ms))
    (reaches n (0 + length ms) (run n fresh ms) (reached_run n 0 fresh ms p (record { short = p; enough = omega arith })))

-- one mark: it agrees, or it is one more against, or it fills the window
abbrev held : Bool → ℕ → Track
held l q = record { label = l; pending = q }

turn_with : (n q : ℕ) (l : Bool) → turn n (held l q) l ≡ held l 0
unfolding turn settles
turn_with n q l = rw beq_same

turn_wait : (n q : ℕ) (l : Bool) → q + 1 < n → turn n (held l q) (not l) ≡ held l (q + 1)
unfolding turn settles
turn_wait n q l h = rw (beq_not, lt-leb _ _ h)

turn_fill : (n q : ℕ) (l : Bool) → n ≤ q + 1 → turn n (held l q) (not l) ≡ held (not l) 0
unfolding turn settles
turn_fill n q l h = rw (beq_not, le-leb _ _ h)

-- a stretch of equal marks: with the label, or short of a window against it, or a full window against it
stretch_with : (n c : ℕ) (l : Bool) → run n (held l 0) (replicate c l) ≡ held l 0
unfolding run
stretch_with n zero l = refl
stretch_with n (suc c) l = ap (λ (t : Track). run n t (replicate c l)) (turn_with n 0 l) ∙ stretch_with n c l

stretch_wait : (n q d : ℕ) (l : Bool) → q + d < n → run n (held l q) (replicate d (not l)) ≡ held l (q + d)
unfolding run
stretch_wait n q zero l h = rw add-zero
stretch_wait n q (suc d) l h =
    ap (λ (t : Track). run n t (replicate d (not l))) (turn_wait n q l (omega arith)) ∙ stretch_wait n (q + 1) d l (omega arith)
    ∙ ap (held l) (let e : q + 1 + d ≡ q + suc d = omega arith in e)

stretch_fill : (n q d : ℕ) (l : Bool) → q + suc d ≡ n → run n (held l q) (replicate (suc d) (not l)) ≡ held (not l) 0
unfolding run
stretch_fill n q zero l h = turn_fill n q l (omega arith)
stretch_fill n q (suc d) l h =
    ap (λ (t : Track). run n t (replicate (suc d) (not l))) (turn_wait n q l (omega arith)) ∙ stretch_fill n (q + 1) d l (omega arith)

stretch_turn : (n : ℕ) (l : Bool) → 1 ≤ n → run n (held l 0) (replicate n (not l)) ≡ held (not l) 0
stretch_turn zero l p = absurd (omega arith)
stretch_turn (suc n) l p = stretch_fill (suc n) 0 n l (zero-add (suc n))

-- the label alone, from nothing fed: any number of low marks, or n high marks and more
stretch_label : (n c : ℕ) (l : Bool) → 1 ≤ n → cond l n 0 ≤ c → run n fresh (replicate c l) ≡ held l 0
stretch_label n c false p h = stretch_with n c false
stretch_label n c true p h =
    let e : n + (c - n) ≡ c = omega arith in
    rw (← e, ← replicate-append-replicate n (c - n) true, run_append n fresh (replicate n true) (replicate (c - n) true))
    (ap (λ (t : Track). run n t (replicate (c - n) true)) (stretch_turn n false p) ∙ stretch_with n (c - n) true)

-- there was room for the pending marks, and before them for the label
room : (n q fed : ℕ) (l : Bool) → cond l (n + q) q ≤ fed → (q ≤ fed) × (cond l n 0 ≤ fed - q)
room n q fed true h = (omega arith, omega arith)
room n q fed false h = (omega arith, omega arith)

-- whatever passes the test some marks leave
pub reachable_possible : (n fed : ℕ) (t : Track) → 1 ≤ n → reachable n fed t ≡ true → Possible n fed t
unfolding Possible
reachable_possible n fed t p e = (
  firsts ++ lasts,
  simp (length-append, length-replicate) (omega (arith, fits.0)),
  run_append n fresh firsts lasts ∙ ap (λ (s : Track). run n s lasts) (stretch_label n (fed - q) l p fits.1)
      ∙ stretch_wait n 0 q l (rw zero-add r.short) ∙ ap (held l) (zero-add q),
)
  where
    q : ℕ
    q = t.pending

    l : Bool
    l = t.label

    r : Reached n fed t
    r = reached n fed t e

    fits : (q ≤ fed) × (cond l n 0 ≤ fed - q)
    fits = room n q fed l r.enough

    firsts : List Bool
    firsts = replicate (fed - q) l

    lasts : List Bool
    lasts = replicate q (not l)
