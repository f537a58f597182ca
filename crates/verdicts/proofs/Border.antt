-- No run of high loss intervals lies across the border between settled and undecided. The last of the settled intervals is settled by its own mark, as that mark says
-- (`last_settled`): so before an undecided interval stands an unavailable one, or one that is not high. It is no high loss interval (`no_run_across`), and the runs on either
-- side of the border are whole.
-- Assumes nothing.
use mathlib.Core.Path.{◌≡◌, refl, sym, ap, ◌∙◌}
use mathlib.Core.Logic.{◌⊎◌, inl, inr}
use mathlib.Core.Bool.{Bool, true, false, not, ◌&&◌}
use mathlib.Core.List.{List, [], ◌∷◌, ◌++◌}
use Prim.Native.Nat.{ℕ, zero, suc, ◌+◌, ◌≤◌, ◌<◌}
use native.Mathlib.Omega.{arith}
use native.Mathlib.Nat.{zero-add}
use native.Mathlib.Decide.{dec_lt}
use lib.ListN.{length, get_or, replicate, length-append, length-replicate, get_or-replicate, get_or-append}
use lib.Seq.{get_or-append-add}
use Rattle.rule.specs.declared.Track.{Track}
use Rattle.rule.specs.Labels.{Label, settled, undecided, Meaning}
use Rattle.rule.specs.Evaluator.{fresh, settles, gain, turn, told}
use Rattle.rule.proofs.Labelling.{told_settled, pending_undecided, undecided_pending, meaning_one}
use Rattle.rule.proofs.Windows.{and_false}
use Rattle.tallies.specs.declared.Marked.{Marked}
use Rattle.tallies.specs.Tally.{Labels, is, counts}

-- what a mark in front does: it settles all that was pending and its own interval, or its interval is pending too

abbrev pub settling : Bool → Track
settling m = record { label = m; pending = 0 }

abbrev pub waiting : Track → Track
waiting t = record { label = t.label; pending = t.pending + 1 }

pub told_settling : (n : ℕ) (t : Track) (m : Bool) (ms : List Bool) → settles n t m ≡ true → told n t (m ∷ ms) ≡ replicate (t.pending + 1) m ++ told n (settling m) ms
unfolding told gain turn
told_settling n t m ms e = rw e

pub told_waiting : (n : ℕ) (t : Track) (m : Bool) (ms : List Bool) → settles n t m ≡ false → told n t (m ∷ ms) ≡ told n (waiting t) ms
unfolding told gain turn
told_waiting n t m ms e = rw e

settled_length : (p : ℕ) (m : Bool) (xs : List Bool) → length (replicate (p + 1) m ++ xs) ≡ p + 1 + length xs
settled_length p m xs = length-append (replicate (p + 1) m) xs ∙ ap (λ k. k + length xs) (length-replicate (p + 1) m)

pub none_told : (n : ℕ) (t : Track) → length (told n t []) ≡ 0
unfolding told
none_told n t = refl

-- marks settle nothing, or more than was pending
told_past_pending : (n : ℕ) (t : Track) (ms : List Bool) → (length (told n t ms) ≡ 0) ⊎ (t.pending < length (told n t ms))
told_past_pending n t [] = inl (none_told n t)
told_past_pending n t (m ∷ ms) = by (settles n t m) refl (told_past_pending n (waiting t) ms)
  where
    by :
        (c : Bool) → settles n t m ≡ c → (length (told n (waiting t) ms) ≡ 0) ⊎ (t.pending + 1 < length (told n (waiting t) ms)) →
        (length (told n t (m ∷ ms)) ≡ 0) ⊎ (t.pending < length (told n t (m ∷ ms)))
    by true e r = inr (omega (arith, ap length (told_settling n t m ms e), settled_length t.pending m (told n (settling m) ms)))
    by false e (inl r) = inl (ap length (told_waiting n t m ms e) ∙ r)
    by false e (inr r) = inr (omega (arith, ap length (told_waiting n t m ms e)))

-- the last of the labels that marks settle, that of the k-th of the marks, is that mark
last_settled : (n : ℕ) (t : Track) (ms : List Bool) (k : ℕ) (d : Bool) → length (told n t ms) ≡ t.pending + suc k → get_or (told n t ms) (t.pending + k) d ≡ get_or ms k d
last_settled n t [] k d h = absurd (omega (arith, none_told n t, h))
last_settled n t (m ∷ ms) k d h = by (settles n t m) refl k h (λ j e. last_settled n (settling m) ms j d e) (λ j e. last_settled n (waiting t) ms j d e)
  where
    by :
        (c : Bool) → settles n t m ≡ c → (k : ℕ) → length (told n t (m ∷ ms)) ≡ t.pending + suc k →
        ((j : ℕ) → length (told n (settling m) ms) ≡ 0 + suc j → get_or (told n (settling m) ms) (0 + j) d ≡ get_or ms j d) →
        ((j : ℕ) → length (told n (waiting t) ms) ≡ t.pending + 1 + suc j → get_or (told n (waiting t) ms) (t.pending + 1 + j) d ≡ get_or ms j d) →
        get_or (told n t (m ∷ ms)) (t.pending + k) d ≡ get_or (m ∷ ms) k d
    by true e zero h settles_it waits =
        ap (λ xs. get_or xs (t.pending + 0) d) (told_settling n t m ms e)
        ∙ get_or-append (replicate (t.pending + 1) m) (told n (settling m) ms) d (t.pending + 0) (omega (arith, length-replicate (t.pending + 1) m))
        ∙ get_or-replicate (t.pending + 1) (t.pending + 0) m d (omega arith)
    by true e (suc k) h settles_it waits =
        let many = ap length (told_settling n t m ms e) ∙ settled_length t.pending m (told n (settling m) ms) in
        let place : t.pending + suc k ≡ length (replicate (t.pending + 1) m) + k = omega (arith, length-replicate (t.pending + 1) m) in
        ap (λ xs. get_or xs (t.pending + suc k) d) (told_settling n t m ms e)
        ∙ ap (λ i. get_or (replicate (t.pending + 1) m ++ told n (settling m) ms) i d) place
        ∙ get_or-append-add (replicate (t.pending + 1) m) (told n (settling m) ms) k d
        ∙ ap (λ i. get_or (told n (settling m) ms) i d) (sym (zero-add k))
        ∙ settles_it k (omega (arith, many, h))
    by false e zero h settles_it waits =
        let same = ap length (told_waiting n t m ms e) in
        elim (told_past_pending n (waiting t) ms) [ inl r ↦ absurd (omega (arith, same, r, h)) | inr r ↦ absurd (omega (arith, same, r, h)) ]
    by false e (suc k) h settles_it waits =
        let place : t.pending + suc k ≡ t.pending + 1 + k = omega arith in
        ap (λ xs. get_or xs (t.pending + suc k) d) (told_waiting n t m ms e)
        ∙ ap (λ i. get_or (told n (waiting t) ms) i d) place
        ∙ waits k (omega (arith, ap length (told_waiting n t m ms e), h))

pub settled_not_undecided : {b : Bool} → settled b ≡ undecided → ⊥
settled_not_undecided e = let z : ◌≡◌ {A = ℕ} 0 1 = cc in omega arith

module _ (n : ℕ) (ms : List Bool) (at : ℕ → Label) (some : 1 ≤ n) (L : Labels n ms at) where
  -- where an interval is settled and the next one is not, it is labelled as its own mark says
  border : (i : ℕ) (b : Bool) → suc i < length ms → at i ≡ settled b → at (suc i) ≡ undecided → get_or ms i false ≡ b
  unfolding Labels
  border i b q e u =
      let here : Meaning n ms i (settled b) = rw e at (L i (omega arith)) in
      let next : length (told n fresh ms) ≤ suc i = undecided_pending n ms some (suc i) (rw u at (L (suc i) q)) in
      elim (dec_lt i (length (told n fresh ms))) [
        | yes r ↦
            sym (ap (λ k. get_or (told n fresh ms) k false) (sym (zero-add i)) ∙ last_settled n fresh ms i false (omega arith))
            ∙ label (meaning_one n ms i (settled (get_or (told n fresh ms) i false)) (settled b) (told_settled n ms some i false r) here)
        | no r ↦ absurd (settled_not_undecided (meaning_one n ms i (settled b) undecided here (pending_undecided n ms some i (omega arith))))
      ]
    where
      label : {a b : Bool} → settled a ≡ settled b → a ≡ b
      label e = cc

  -- the interval before the first undecided one is no high loss interval
  pub no_run_across : (i : ℕ) (x : Marked) → get_or ms i false ≡ x.mark → suc i < length ms → (b : Bool) → at i ≡ settled b → at (suc i) ≡ undecided →
      (counts (settled false) (at i) x && x.mark) ≡ false
  unfolding counts is
  no_run_across i x m q b e u = rw (e, sym m ∙ border i b q e u) (quiet b)
    where
      quiet : (b : Bool) → ((is (settled false) (settled b) && not x.maintenance) && b) ≡ false
      quiet true = refl
      quiet false = and_false (not x.maintenance)
