-- The running evaluator follows 01's recursion. Whatever endless track continues the marks, the label before the first pending interval
-- is the evaluator's, and the pending marks all speak against it (`Held`). A mark that agrees lies in the window of every pending
-- interval, so the label stays for all of them; the n-th mark against it fills the first one's window, and then lies in those of the
-- others, so all of them turn round. What is still pending turns on what comes: for ever the label, or for ever its opposite.
use mathlib.Core.Path.{◌≡◌, refl, sym, ◌∙◌}
use mathlib.Core.Logic.{◌⊎◌, inl, inr}
use mathlib.Core.Bool.{Bool, true, false, not, cond}
use mathlib.Core.List.{List, [], ◌∷◌}
use Prim.Native.Nat.{ℕ, suc, ◌+◌, ◌-◌, ◌≤◌, ◌<◌}
use native.Mathlib.Omega.{arith}
use native.Mathlib.Decide.{dec_lt}
use native.Mathlib.Nat.{add-zero, add_assoc}
use lib.Dec.{leb}
use lib.ListN.{length, replicate, length-append, length-replicate}
use borrow.Author.Tests.{leb-true, leb-false}
use Rattle.rule.specs.declared.Track.{Track}
use Rattle.rule.specs.Labels.{Marks, before, lab, Begins}
use Rattle.rule.specs.Evaluator.{fresh, settles, gain, turn, run, told}
use Rattle.rule.proofs.Continuing.{begins_append, begins_replicate}
use Rattle.rule.proofs.Windows.{Agreeing, stays, turns}

-- the track t is where the recursion stands on f: before j its label holds, and the marks from j on, as many as are pending, are against it
pub record Held (n : ℕ) (f : Marks) (j : ℕ) (t : Track) : Type 0 where
  pub here : before n f j ≡ t.label
  pub against : (i : ℕ) → j ≤ i → i < j + t.pending → f i ≡ not t.label
  pub short : t.pending < n

-- what a mark does: it agrees with the label, or fills the window against it, or is one more against it
data Mark (n : ℕ) (t : Track) (m : Bool) : Type 0 where
  with_label : settles n t m ≡ true → m ≡ t.label → Mark n t m
  filling : settles n t m ≡ true → m ≡ not t.label → n ≤ t.pending + 1 → Mark n t m
  waiting : settles n t m ≡ false → m ≡ not t.label → t.pending + 1 < n → Mark n t m

kind : (n : ℕ) (t : Track) (m : Bool) → Mark n t m
unfolding settles
kind n t m = by m t.label (leb n (t.pending + 1)) refl refl refl
  where
    by : (a l c : Bool) → m ≡ a → t.label ≡ l → leb n (t.pending + 1) ≡ c → Mark n t m
    by true true c p q r = with_label (rw (p, q)) (p ∙ sym q)
    by false false c p q r = with_label (rw (p, q)) (p ∙ sym q)
    by true false true p q r = filling (rw (p, q, r)) (rw (p, q)) (leb-true _ _ r)
    by false true true p q r = filling (rw (p, q, r)) (rw (p, q)) (leb-true _ _ r)
    by true false false p q r = waiting (rw (p, q, r)) (rw (p, q)) (leb-false _ _ r)
    by false true false p q r = waiting (rw (p, q, r)) (rw (p, q)) (leb-false _ _ r)

module _ (n : ℕ) (f : Marks) (j : ℕ) (t : Track) (m : Bool) (h : Held n f j t) (e : f (j + t.pending) ≡ m) where
  -- the mark agrees with the label: it stays through the pending intervals and this one
  kept : m ≡ t.label → (d : ℕ) → d ≤ t.pending + 1 → before n f (j + d) ≡ m
  kept s d b =
      stays n f t.label j d h.here
      (λ i p q. record { at = j + t.pending; from = omega arith; within = omega (arith, h.short); agrees = e ∙ s }) ∙ sym s

  -- a mark against the label, and all the pending ones before it
  against_too : m ≡ not t.label → (i : ℕ) → j ≤ i → i < j + (t.pending + 1) → f i ≡ not t.label
  against_too s i p q =
      elim (dec_lt i (j + t.pending)) [
        | yes r ↦ h.against i p r
        | no r ↦ let last : i ≡ j + t.pending = omega arith in rw last (e ∙ s)
      ]

  -- the mark fills the window: the label turns round at the first pending interval and then stays
  turned : m ≡ not t.label → n ≤ t.pending + 1 → (d : ℕ) → d ≤ t.pending → before n f (suc j + d) ≡ m
  turned s w d b =
      stays n f m (suc j) d
      (turns n f t.label j h.here (λ i p q. against_too s i p (omega arith)) ∙ sym s)
      (λ i p q. record { at = j + t.pending; from = omega arith; within = omega (arith, h.short); agrees = e })

  -- every label that the mark settles is the mark itself
  pub settled_right : (i : ℕ) → j ≤ i → i < j + gain n t m → lab n f i ≡ m
  unfolding gain lab
  settled_right i p = elim (kind n t m) [
    | with_label z s ↦ rw z (λ q. let at : suc i ≡ j + (suc i - j) = omega arith in rw at (kept s (suc i - j) (omega arith)))
    | filling z s w ↦ rw z (λ q. let at : suc i ≡ suc j + (i - j) = omega arith in rw at (turned s w (i - j) (omega arith)))
    | waiting z s w ↦ rw z (λ q. absurd (omega arith))
  ]

  -- and the evaluator stands right after it
  pub held_step : Held n f (j + gain n t m) (turn n t m)
  unfolding gain turn
  held_step = elim (kind n t m) [
    | with_label z s ↦ rw z (record { here = kept s (t.pending + 1) (omega arith); against = λ i p q. absurd (omega arith); short = omega (arith, h.short) })
    | filling z s w ↦
        let at : j + (t.pending + 1) ≡ suc j + t.pending = omega arith in
        rw z (record { here = rw at (turned s w t.pending (omega arith)); against = λ i p q. absurd (omega arith); short = omega (arith, h.short) })
    | waiting z s w ↦ rw (z, add-zero) (record { here = h.here; against = against_too s; short = w })
  ]

-- a mark makes one more interval known: it is settled, or it is pending
pub gain_count : (n : ℕ) (t : Track) (m : Bool) → gain n t m + (turn n t m).pending ≡ t.pending + 1
unfolding gain turn
gain_count n t m = by (settles n t m)
  where
    by : (z : Bool) → cond z (t.pending + 1) 0 + (cond {A = Track} z (record { label = m; pending = 0 }) (record { label = t.label; pending = t.pending + 1 })).pending ≡ t.pending + 1
    by true = omega arith
    by false = omega arith

-- it settles its own interval's label and all that were pending, or none
pub gain_all : (n : ℕ) (t : Track) (m : Bool) → (gain n t m ≡ 0) ⊎ (gain n t m ≡ t.pending + 1)
unfolding gain
gain_all n t m = by (settles n t m)
  where
    by : (z : Bool) → (cond z (t.pending + 1) 0 ≡ 0) ⊎ (cond z (t.pending + 1) 0 ≡ t.pending + 1)
    by true = inr refl
    by false = inl refl

-- settled and pending together are those pending before and those fed
pub told_count : (n : ℕ) (t : Track) (ms : List Bool) → length (told n t ms) + (run n t ms).pending ≡ t.pending + length ms
unfolding told run
told_count n t [] = omega arith
told_count n t (m ∷ ms) =
    rw (length-append, length-replicate)
    (omega (arith, told_count n (turn n t m) ms, gain_count n t m))

-- the labels that a list of marks settles, on every track that goes on so
pub told_right : (n : ℕ) (f : Marks) (j : ℕ) (t : Track) (ms : List Bool) → Held n f j t → Begins f (j + t.pending) ms → Begins (lab n f) j (told n t ms)
unfolding told Begins
told_right n f j t [] h b = tt
told_right n f j t (m ∷ ms) h b =
    begins_append (lab n f) (replicate (gain n t m) m) (told n (turn n t m) ms) j
    (begins_replicate (lab n f) (gain n t m) m j (settled_right n f j t m h b.0))
    (rw length-replicate (told_right n f (j + gain n t m) (turn n t m) ms (held_step n f j t m h b.0) (rw at at_next)))
  where
    at : j + gain n t m + (turn n t m).pending ≡ suc (j + t.pending)
    at = omega (arith, gain_count n t m)

    at_next : Begins f (suc (j + t.pending)) ms
    at_next = b.1

-- and the evaluator stands right after the whole list
pub held_run : (n : ℕ) (f : Marks) (j : ℕ) (t : Track) (ms : List Bool) → Held n f j t → Begins f (j + t.pending) ms → Held n f (j + length (told n t ms)) (run n t ms)
unfolding told run Begins
held_run n f j t [] h b = rw add-zero h
held_run n f j t (m ∷ ms) h b =
    let at : j + gain n t m + (turn n t m).pending ≡ suc (j + t.pending) = omega (arith, gain_count n t m) in
    let next : Begins f (suc (j + t.pending)) ms = b.1 in
    rw (length-append, length-replicate, ← add_assoc)
    (held_run n f (j + gain n t m) (turn n t m) ms (held_step n f j t m h b.0) (rw at next))

-- with nothing fed it stands at interval 0
pub held_fresh : (n : ℕ) (f : Marks) → 1 ≤ n → Held n f 0 fresh
unfolding before
held_fresh n f p = record { here = refl; against = λ i q r. absurd (omega arith); short = p }

-- after the pending marks comes for ever the label: it stays
pub goes_on : (n : ℕ) (f : Marks) (j : ℕ) (t : Track) → Held n f j t → ((i : ℕ) → j + t.pending ≤ i → f i ≡ t.label) → (k : ℕ) → j ≤ k → lab n f k ≡ t.label
unfolding lab
goes_on n f j t h e k p =
    let at : suc k ≡ j + (suc k - j) = omega arith in
    rw at (stays n f t.label j (suc k - j) h.here agreeing)
  where
    agreeing : (i : ℕ) → j ≤ i → i < j + (suc k - j) → Agreeing n f t.label i
    agreeing i q r =
        elim (dec_lt i (j + t.pending)) [
          | yes s ↦ record { at = j + t.pending; from = omega arith; within = omega (arith, h.short); agrees = e (j + t.pending) (omega arith) }
          | no s ↦ record { at = i; from = omega arith; within = omega (arith, h.short); agrees = e i (omega arith) }
        ]

-- after the pending marks comes for ever its opposite: it turns round at the first of them
pub turns_round : (n : ℕ) (f : Marks) (j : ℕ) (t : Track) → Held n f j t → ((i : ℕ) → j + t.pending ≤ i → f i ≡ not t.label) → (k : ℕ) → j ≤ k → lab n f k ≡ not t.label
unfolding lab
turns_round n f j t h e k p =
    let at : suc k ≡ suc j + (k - j) = omega arith in
    rw at
    (stays n f (not t.label) (suc j) (k - j)
    (turns n f t.label j h.here (λ i q r. from_here i q))
    (λ i q r. record { at = i; from = omega arith; within = omega (arith, h.short); agrees = from_here i (omega arith) }))
  where
    from_here : (i : ℕ) → j ≤ i → f i ≡ not t.label
    from_here i q = elim (dec_lt i (j + t.pending)) [ yes s ↦ h.against i q s | no s ↦ e i (omega arith) ]
