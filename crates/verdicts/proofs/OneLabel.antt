-- The undecided intervals of a track all take one label, as 02 says: whatever comes, one mark settles all that are pending, and settles them as it is itself. So on each track the
-- labels of every continuation are those known, the undecided ones taken all as one of the two.
-- Assumes nothing.
use mathlib.Core.Path.{◌≡◌, refl, sym, ap, ◌∙◌}
use mathlib.Core.Logic.{◌⊎◌, inl, inr}
use mathlib.Core.Bool.{Bool, true, false}
use mathlib.Core.List.{List, [], ◌∷◌, ◌++◌}
use Prim.Native.Nat.{ℕ, zero, suc, ◌+◌, ◌-◌, ◌≤◌, ◌<◌}
use native.Mathlib.Omega.{arith}
use native.Mathlib.Nat.{zero-add}
use lib.ListN.{length, get_or, replicate, length-append, length-replicate, get_or-replicate, get_or-append}
use lib.Seq.{get_or-append-add}
use Rattle.rule.specs.declared.Track.{Track}
use Rattle.rule.specs.Labels.{Marks, lab, Begins, Label, settled, undecided, Meaning}
use Rattle.rule.specs.Evaluator.{fresh, settles, run, told}
use Rattle.rule.proofs.Continuing.{begins_append}
use Rattle.rule.proofs.Labelling.{told_append, told_settled, settled_and_pending, pending_short, undecided_pending}
use Rattle.tallies.specs.Tally.{Labels}
use Rattle.verdicts.specs.Verdicts.{decided, taken}
use Rattle.verdicts.proofs.Border.{settling, waiting, told_settling, told_waiting, none_told}

-- the marks of an endless track, c of them from j on

unfoldable ahead : Marks → ℕ → ℕ → List Bool
ahead f j zero = []
ahead f j (suc c) = f j ∷ ahead f (suc j) c

begins_ahead : (f : Marks) (j c : ℕ) → Begins f j (ahead f j c)
unfolding ahead Begins
begins_ahead f j zero = tt
begins_ahead f j (suc c) = (refl, begins_ahead f (suc j) c)

length_ahead : (f : Marks) (j c : ℕ) → length (ahead f j c) ≡ c
unfolding ahead
length_ahead f j zero = refl
length_ahead f j (suc c) = ap suc (length_ahead f (suc j) c)

-- what marks settle first: all that was pending, alike
settled_alike : (n : ℕ) (t : Track) (ms : List Bool) → (length (told n t ms) ≡ 0) ⊎ ((b : Bool) × ((i : ℕ) → i ≤ t.pending → get_or (told n t ms) i false ≡ b))
settled_alike n t [] = inl (none_told n t)
settled_alike n t (m ∷ ms) = by (settles n t m) refl (settled_alike n (waiting t) ms)
  where
    by :
        (c : Bool) → settles n t m ≡ c → (length (told n (waiting t) ms) ≡ 0) ⊎ ((b : Bool) × ((i : ℕ) → i ≤ t.pending + 1 → get_or (told n (waiting t) ms) i false ≡ b)) →
        (length (told n t (m ∷ ms)) ≡ 0) ⊎ ((b : Bool) × ((i : ℕ) → i ≤ t.pending → get_or (told n t (m ∷ ms)) i false ≡ b))
    by true e r =
        inr (
          m,
          λ i q.
              ap (λ xs. get_or xs i false) (told_settling n t m ms e)
              ∙ get_or-append (replicate (t.pending + 1) m) (told n (settling m) ms) false i (omega (arith, length-replicate (t.pending + 1) m))
              ∙ get_or-replicate (t.pending + 1) i m false (omega arith),
        )
    by false e (inl r) = inl (ap length (told_waiting n t m ms e) ∙ r)
    by false e (inr (b, r)) = inr (b, λ i q. ap (λ xs. get_or xs i false) (told_waiting n t m ms e) ∙ r i (omega arith))

module _ (n : ℕ) (ms : List Bool) (at : ℕ → Label) (some : 1 ≤ n) (L : Labels n ms at) (f : Marks) (known : Begins f 0 ms) where
  -- n marks more settle all that is pending

  abbrev more : List Bool
  more = ahead f (length ms) n

  longer : Begins f 0 (ms ++ more)
  longer = begins_append f ms more 0 known (rw zero-add (begins_ahead f (length ms) n))

  abbrev passed : List Bool
  passed = told n fresh ms

  abbrev then_told : List Bool
  then_told = told n (run n fresh ms) more

  both_told : told n fresh (ms ++ more) ≡ passed ++ then_told
  both_told = told_append n fresh ms more

  enough_told : (run n fresh ms).pending < length then_told
  enough_told =
      omega (
        arith,
        ap length both_told,
        length-append passed then_told,
        settled_and_pending n ms,
        settled_and_pending n (ms ++ more),
        pending_short n (ms ++ more) some,
        length-append ms more,
        length_ahead f (length ms) n,
      )

  -- so they have one label
  alike : (b : Bool) × ((i : ℕ) → i < (run n fresh ms).pending → lab n f (length passed + i) ≡ b)
  unfolding Meaning
  alike =
      elim (settled_alike n (run n fresh ms) more) [
        | inl e ↦ absurd (omega (arith, enough_told, e))
        | inr r ↦ (
          r.0,
          λ i q.
              told_settled n (ms ++ more) some (length passed + i) false (omega (arith, ap length both_told, length-append passed then_told, enough_told)) f longer
              ∙ ap (λ xs. get_or xs (length passed + i) false) both_told
              ∙ get_or-append-add passed then_told i false
              ∙ r.1 i (omega arith),
        )
      ]

  -- the labels of a continuation are those known, the undecided ones taken as one b
  pub one_label : (b : Bool) × ((k : ℕ) → k < length ms → settled (lab n f k) ≡ taken b at k)
  unfolding Labels Meaning decided
  one_label = (alike.0, λ k q. by k q (at k) (L k q))
    where
      by : (k : ℕ) → k < length ms → (x : Label) → Meaning n ms k x → settled (lab n f k) ≡ decided alike.0 x
      by k q (settled a) m = ap settled (m f known)
      by k q undecided m =
          let from = undecided_pending n ms some k m in
          let place : length passed + (k - length passed) ≡ k = omega arith in
          ap (λ j. settled (lab n f j)) (sym place) ∙ ap settled (alike.1 (k - length passed) (omega (arith, settled_and_pending n ms)))
