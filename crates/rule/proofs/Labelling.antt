-- Demand 2 on one track, for every n from 1 and every list of marks: the labelling that the evaluator gives is what 01's recursion
-- says (`labels_settle`), each step settles exactly what it says it does (`steps_settle`), nothing settled is taken back, and what is
-- undecided are the last intervals, fewer than n.
use mathlib.Core.Path.{◌≡◌, refl, sym, ap, ◌∙◌}
use mathlib.Core.Logic.{◌≢◌}
use mathlib.Core.Bool.{Bool, true, false, not, true≢false, false≢true}
use mathlib.Core.List.{List, [], ◌∷◌, ◌++◌, map, append_assoc, append-nil}
use Prim.Native.Nat.{ℕ, zero, suc, ◌+◌, ◌≤◌, ◌<◌}
use native.Mathlib.Omega.{arith}
use native.Mathlib.Nat.{zero-add}
use native.Mathlib.Decide.{dec_lt}
use lib.ListN.{length, get_or, replicate, length-append, length-map, length-replicate, get_or-eq_default}
use Rattle.rule.specs.declared.Track.{Track}
use Rattle.rule.specs.Labels.{Marks, lab, Label, settled, undecided, Meaning}
use Rattle.rule.specs.Evaluator.{fresh, gain, turn, run, told, labelling}
use Rattle.rule.proofs.Continuing.{begins_at, begins_prefix, begins_forever}
use Rattle.rule.proofs.Settling.{Held, held_fresh, held_run, told_right, told_count, goes_on, turns_round}

not_other : (b : Bool) → b ≢ not b
not_other true e = true≢false e
not_other false e = false≢true e

-- the track after a list is short of n marks
pub pending_short : (n : ℕ) (ms : List Bool) → 1 ≤ n → (run n fresh ms).pending < n
pending_short n ms p = (held_run n (λ i. get_or ms i false) 0 fresh ms (held_fresh n (λ i. get_or ms i false) p) (begins_forever ms false)).short

-- settled and undecided together are the number fed
pub settled_and_pending : (n : ℕ) (ms : List Bool) → length (told n fresh ms) + (run n fresh ms).pending ≡ length ms
settled_and_pending n ms = told_count n fresh ms ∙ zero-add (length ms)

-- what the evaluator has settled is settled so by 01
pub told_settled : (n : ℕ) (ms : List Bool) → 1 ≤ n → (k : ℕ) (d : Bool) → k < length (told n fresh ms) → Meaning n ms k (settled (get_or (told n fresh ms) k d))
unfolding Meaning
told_settled n ms p k d q =
    λ f b. rw zero-add at (begins_at (lab n f) (told n fresh ms) 0 k d (told_right n f 0 fresh ms (held_fresh n f p) b) q)

-- what it has not settled is undecided: the marks may be followed for ever by its label, or by the opposite
pub pending_undecided : (n : ℕ) (ms : List Bool) → 1 ≤ n → (k : ℕ) → length (told n fresh ms) ≤ k → Meaning n ms k undecided
unfolding Meaning
pending_undecided n ms p k q = (
  followed l,
  followed (not l),
  begins_forever ms l,
  begins_forever ms (not l),
  λ e. not_other l (sym (goes_on n (followed l) _ t (held l) (after l) k q) ∙ e ∙ turns_round n (followed (not l)) _ t (held (not l)) (after (not l)) k q),
)
  where
    t : Track
    t = run n fresh ms

    l : Bool
    l = t.label

    followed : Bool → Marks
    followed d = λ i. get_or ms i d

    held : (d : Bool) → Held n (followed d) (length (told n fresh ms)) t
    held d = rw zero-add at (held_run n (followed d) 0 fresh ms (held_fresh n (followed d) p) (begins_forever ms d))

    after : (d : Bool) (i : ℕ) → length (told n fresh ms) + t.pending ≤ i → followed d i ≡ d
    after d i r = get_or-eq_default ms d (omega (arith, settled_and_pending n ms))

-- behind a list stand equal elements
behind : {A : Type 0} (xs : List A) (c : ℕ) (a : A) (k : ℕ) → length xs ≤ k → get_or (xs ++ replicate c a) k a ≡ a
behind [] zero a k p = refl
behind [] (suc c) a zero p = refl
behind [] (suc c) a (suc k) p = behind [] c a k (omega arith)
behind (x ∷ xs) c a zero p = absurd (omega arith)
behind (x ∷ xs) c a (suc k) p = behind xs c a k (omega arith)

spread_settled : (xs : List Bool) (c k : ℕ) (d : Bool) → k < length xs → get_or (map settled xs ++ replicate c undecided) k undecided ≡ settled (get_or xs k d)
spread_settled [] c k d p = absurd (omega arith)
spread_settled (x ∷ xs) c zero d p = refl
spread_settled (x ∷ xs) c (suc k) d p = spread_settled xs c k d (omega arith)

-- the labelling, where it is told and where it is pending
pub labels_told_lem : (n : ℕ) (ms : List Bool) (k : ℕ) (d : Bool) → k < length (told n fresh ms) → get_or (labelling n ms) k undecided ≡ settled (get_or (told n fresh ms) k d)
unfolding labelling
labels_told_lem n ms k d q = spread_settled (told n fresh ms) (run n fresh ms).pending k d q

pub labels_pending : (n : ℕ) (ms : List Bool) (k : ℕ) → length (told n fresh ms) ≤ k → get_or (labelling n ms) k undecided ≡ undecided
unfolding labelling
labels_pending n ms k q = behind (map settled (told n fresh ms)) (run n fresh ms).pending undecided k (rw length-map q)

-- each label of the labelling is 01's, settled or undecided
pub labels_settle : (n : ℕ) (ms : List Bool) → 1 ≤ n → (k : ℕ) → Meaning n ms k (get_or (labelling n ms) k undecided)
labels_settle n ms p k =
    elim (dec_lt k (length (told n fresh ms))) [
      | yes q ↦ rw (labels_told_lem n ms k false q) (told_settled n ms p k false q)
      | no q ↦ let r : length (told n fresh ms) ≤ k = omega arith in rw (labels_pending n ms k r) (pending_undecided n ms p k r)
    ]

-- a label for each interval
pub labels_length : (n : ℕ) (ms : List Bool) → length (labelling n ms) ≡ length ms
unfolding labelling
labels_length n ms = rw (length-append, length-map, length-replicate) (settled_and_pending n ms)

-- an interval has one meaning only
pub meaning_one : (n : ℕ) (ms : List Bool) (k : ℕ) (x y : Label) → Meaning n ms k x → Meaning n ms k y → x ≡ y
unfolding Meaning
meaning_one n ms k (settled a) (settled b) p q =
    ap settled (sym (p (λ i. get_or ms i false) (begins_forever ms false)) ∙ q (λ i. get_or ms i false) (begins_forever ms false))
meaning_one n ms k (settled a) undecided p (f, g, b, c, d) = absurd (d (p f b ∙ sym (p g c)))
meaning_one n ms k undecided (settled b) (f, g, c, d, e) q = absurd (e (q f c ∙ sym (q g d)))
meaning_one n ms k undecided undecided p q = refl

-- a label once settled is settled by every longer list
pub settled_for_good : (n : ℕ) (ms ns : List Bool) (k : ℕ) (b : Bool) → Meaning n ms k (settled b) → Meaning n (ms ++ ns) k (settled b)
unfolding Meaning
settled_for_good n ms ns k b h = λ f c. h f (begins_prefix f ms ns 0 c)

-- what is undecided is pending
pub undecided_pending : (n : ℕ) (ms : List Bool) → 1 ≤ n → (k : ℕ) → Meaning n ms k undecided → length (told n fresh ms) ≤ k
undecided_pending n ms p k u =
    elim (dec_lt k (length (told n fresh ms))) [
      | yes q ↦ absurd (apart (meaning_one n ms k undecided (settled (get_or (told n fresh ms) k false)) u (told_settled n ms p k false q)))
      | no q ↦ omega arith
    ]
  where
    apart : {b : Bool} → undecided ≡ settled b → ⊥
    apart e = let z : ◌≡◌ {A = ℕ} 0 1 = cc in omega arith

-- undecided intervals are the last ones
pub undecided_last : (n : ℕ) (ms : List Bool) → 1 ≤ n → (k i : ℕ) → k ≤ i → Meaning n ms k undecided → Meaning n ms i undecided
undecided_last n ms p k i q u = pending_undecided n ms p i (omega (arith, undecided_pending n ms p k u))

-- and of those known at most n - 1 are undecided
pub undecided_few : (n : ℕ) (ms : List Bool) → 1 ≤ n → (k : ℕ) → Meaning n ms k undecided → length ms < k + n
undecided_few n ms p k u = omega (arith, undecided_pending n ms p k u, settled_and_pending n ms, pending_short n ms p)

pub run_append : (n : ℕ) (t : Track) (xs ys : List Bool) → run n t (xs ++ ys) ≡ run n (run n t xs) ys
unfolding run
run_append n t [] ys = refl
run_append n t (x ∷ xs) ys = run_append n (turn n t x) xs ys

pub told_append : (n : ℕ) (t : Track) (xs ys : List Bool) → told n t (xs ++ ys) ≡ told n t xs ++ told n (run n t xs) ys
unfolding told run
told_append n t [] ys = refl
told_append n t (x ∷ xs) ys = rw (told_append n (turn n t x) xs ys, append_assoc)

pub run_step : (n : ℕ) (ms : List Bool) (m : Bool) → run n fresh (ms ++ (m ∷ [])) ≡ turn n (run n fresh ms) m
unfolding run
run_step n ms m = run_append n fresh ms (m ∷ [])

-- one mark more settles so many labels more, all as the mark
pub told_step : (n : ℕ) (ms : List Bool) (m : Bool) → told n fresh (ms ++ (m ∷ [])) ≡ told n fresh ms ++ replicate (gain n (run n fresh ms) m) m
unfolding told
told_step n ms m = told_append n fresh ms (m ∷ []) ∙ rw append-nil

-- What one step does: the mark m after the marks ms, with the track as it was then. The intervals from `from` on, as many as the step
-- settles, were undecided and are settled now, all as m; each after them is undecided; each before them is settled as it was.
pub record Settles (n : ℕ) (ms : List Bool) (m : Bool) (count : ℕ) : Type 0 where
  pub from : ℕ
  pub were : (k : ℕ) → from ≤ k → Meaning n ms k undecided
  pub now_settled : (k : ℕ) → from ≤ k → k < from + count → Meaning n (ms ++ (m ∷ [])) k (settled m)
  pub still : (k : ℕ) → from + count ≤ k → Meaning n (ms ++ (m ∷ [])) k undecided
  pub done : (k : ℕ) → k < from → (b : Bool) × Meaning n ms k (settled b) × Meaning n (ms ++ (m ∷ [])) k (settled b)

-- each step settles as many labels as it says, all as its mark
pub steps_settle : (n : ℕ) (ms : List Bool) → 1 ≤ n → (m : Bool) → Settles n ms m (gain n (run n fresh ms) m)
steps_settle n ms p m = record {
  from = length xs;
  were = pending_undecided n ms p;
  now_settled = λ k q r.
      rw (grown, behind xs g m k q) at
      (told_settled n (ms ++ (m ∷ [])) p k m (omega (arith, ap length grown, length-append xs ys, length-replicate g m)));
  still = λ k q. pending_undecided n (ms ++ (m ∷ [])) p k (omega (arith, ap length grown, length-append xs ys, length-replicate g m));
  done = λ k q. (get_or xs k false, told_settled n ms p k false q, settled_for_good n ms (m ∷ []) k _ (told_settled n ms p k false q));
}
  where
    xs : List Bool
    xs = told n fresh ms

    g : ℕ
    g = gain n (run n fresh ms) m

    ys : List Bool
    ys = replicate g m

    grown : told n fresh (ms ++ (m ∷ [])) ≡ xs ++ ys
    grown = told_step n ms m
