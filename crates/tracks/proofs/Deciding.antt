-- Every interval of a run has one label. A run of n or more has its mark; a shorter one has the label before it where it is shut, or where
-- its mark agrees with that label; else, at the end of what is known, it is undecided.
use mathlib.Core.Path.{◌≡◌, refl, sym, ◌∙◌}
use mathlib.Core.Bool.{Bool, true, false, not, beq, not-eq-not, Bool-discrete}
use mathlib.Core.List.{List, [], ◌∷◌, ◌++◌}
use Prim.Native.Nat.{ℕ, suc, ◌+◌, ◌-◌, ◌≤◌, ◌<◌}
use native.Mathlib.Nat.{add-zero, add-suc, suc-add}
use native.Mathlib.Decide.{ℕ_discrete, dec_lt}
use lib.ListN.{length, length-append, get_or, get_or-eq_default}
use native.Mathlib.Omega.{arith}
use Rattle.rule.specs.Labels.{Marks, before, lab, Begins, Label, settled, undecided, Meaning}
use Rattle.rule.proofs.Windows.{Agreeing, stays, turns, not_not}
use Rattle.rule.proofs.Continuing.{begins_forever}
use Rattle.rule.proofs.Labelling.{meaning_one}
use Rattle.std.specs.Cmp.{booleans_Decides}
use Rattle.tallies.specs.declared.Marked.{Marked}
use Rattle.tallies.specs.Tally.{Labels, marks}
use Rattle.tracks.proofs.Spanning.{AllMarked, Uniform, uniform_by}

pub beq_yes : (a b : Bool) → beq a b ≡ true → a ≡ b
beq_yes a b = (booleans_Decides a b).0

pub other : (a b : Bool) → beq a b ≡ false → a ≡ not b
other true true e = cc
other true false e = refl
other false true e = refl
other false false e = cc

not_of : (a b : Bool) → (a ≡ b → ⊥) → a ≡ not b
not_of true true h = absurd (h refl)
not_of true false h = refl
not_of false true h = refl
not_of false false h = absurd (h refl)

-- a run of the mark b from s on, of the length d, behind the label l
pub record Stands (n : ℕ) (f : Marks) (s d : ℕ) (l b : Bool) : Type 0 where
  pub some : 1 ≤ n
  pub prior : before n f s ≡ l
  pub marked : (i : ℕ) → s ≤ i → i < s + d → f i ≡ b

module _ (n : ℕ) (f : Marks) (s d : ℕ) (l b : Bool) (h : Stands n f s d l b) where
  -- the label stays up to i, where the window of each before it has a mark that agrees
  staying : (i : ℕ) → s ≤ i → ((j : ℕ) → s ≤ j → j ≤ i → Agreeing n f l j) → lab n f i ≡ l
  unfolding lab
  staying i p w =
      let q : suc i ≡ s + suc (i - s) = omega arith in
      rw q (stays n f l s (suc (i - s)) h.prior (λ j x y. w j x (omega arith)))

  -- its mark is the label before it
  pub agreeing : l ≡ b → (i : ℕ) → s ≤ i → i < s + d → lab n f i ≡ l
  agreeing e i p q = staying i p (λ j x y. record { at = j; from = omega arith; within = omega (arith, h.some); agrees = h.marked j x (omega arith) ∙ sym e })

  -- it is shorter than n, and a mark of the label before it stands right behind it
  pub shutting : d < n → f (s + d) ≡ l → (i : ℕ) → s ≤ i → i < s + d → lab n f i ≡ l
  shutting w e i p q = staying i p (λ j x y. record { at = s + d; from = omega arith; within = omega arith; agrees = e })

  -- it is of n or more, against the label before it
  turning : l ≡ not b → n ≤ d → (i : ℕ) → s ≤ i → i < s + d → lab n f i ≡ b
  unfolding lab
  turning e w i p q =
      let r : suc i ≡ suc s + (i - s) = omega arith in
      let c : not l ≡ b = rw e (not_not b) in
      rw r
      (stays n f b (suc s) (i - s)
      (turns n f l s h.prior (λ j x y. h.marked j x (omega arith) ∙ sym c) ∙ c)
      (λ j x y. record { at = j; from = omega arith; within = omega (arith, h.some); agrees = h.marked j (omega arith) (omega arith) }))

  -- it is of n or more
  pub filling : n ≤ d → (i : ℕ) → s ≤ i → i < s + d → lab n f i ≡ b
  filling w i p q =
      elim (Bool-discrete l b) [
        | yes e ↦ agreeing e i p q ∙ e
        | no e ↦ turning (not_of l b e) w i p q
      ]

-- a track that begins with a run has its mark there
pub begins_run : (f : Marks) (s : ℕ) (b : Bool) (xs ys : List Marked) → AllMarked b xs → Begins f s (marks (xs ++ ys)) → (i : ℕ) → s ≤ i → i < s + length xs → f i ≡ b
unfolding AllMarked Begins
begins_run f s b [] ys a h i p q = absurd (omega arith)
begins_run f s b (x ∷ xs) ys a h i p q =
    elim (ℕ_discrete s i) [
      | yes e ↦ rw (← e) (h.0 ∙ a.0)
      | no e ↦ begins_run f (suc s) b xs ys a.1 h.1 i (omega arith) (omega arith)
    ]

-- and goes on with what stands behind
pub begins_behind : (f : Marks) (s : ℕ) (xs ys : List Marked) → Begins f s (marks (xs ++ ys)) → Begins f (s + length xs) (marks ys)
unfolding Begins
begins_behind f s [] ys h = rw add-zero h
begins_behind f s (x ∷ xs) ys h = rw (add-suc, ← suc-add) (begins_behind f (suc s) xs ys h.1)

-- Where the recursion stands at s, behind the label l, whatever continues the known marks ms; from s on they are those of xs.
pub record Reaches (n : ℕ) (ms : List Bool) (s : ℕ) (l : Bool) (xs : List Marked) : Type 0 where
  pub prior : (f : Marks) → Begins f 0 ms → before n f s ≡ l
  pub ahead : (f : Marks) → Begins f 0 ms → Begins f s (marks xs)
  pub end : s + length xs ≡ length ms

module _ (n : ℕ) (some : 1 ≤ n) (ms : List Bool) (s : ℕ) (l b : Bool) (xs ys : List Marked) (all : AllMarked b xs) (r : Reaches n ms s l (xs ++ ys)) where
  -- all of the run has the label c, whatever continues the known marks
  pub Labelled : Bool → Type 0
  Labelled c = (f : Marks) → Begins f 0 ms → (i : ℕ) → s ≤ i → i < s + length xs → lab n f i ≡ c

  stands : (f : Marks) → Begins f 0 ms → Stands n f s (length xs) l b
  stands f h = record { some = some; prior = r.prior f h; marked = begins_run f s b xs ys all (r.ahead f h) }

  pub labelled_long : n ≤ length xs → Labelled b
  unfolding Labelled
  labelled_long w f h = filling n f s (length xs) l b (stands f h) w

  pub labelled_agreeing : l ≡ b → Labelled l
  unfolding Labelled
  labelled_agreeing e f h = agreeing n f s (length xs) l b (stands f h) e

  pub labelled_uniform : (at : ℕ → Label) → Labels n ms at → (c : Bool) → Labelled c → Uniform (settled c) at s xs
  unfolding Labelled Labels Meaning
  labelled_uniform at g c w =
      uniform_by (settled c) at s xs
      (λ i p q. meaning_one n ms i (at i) (settled c) (g i (omega (arith, r.end, length-append xs ys))) (λ f h. w f h i p q))

  pub labelled_reaches : 1 ≤ length xs → (c : Bool) → Labelled c → Reaches n ms (s + length xs) c ys
  unfolding Labelled lab
  labelled_reaches o c w =
      record {
        prior = λ f h. let e : s + length xs ≡ suc (s + length xs - 1) = omega arith in rw e (w f h (s + length xs - 1) (omega arith) (omega arith));
        ahead = λ f h. begins_behind f s xs ys (r.ahead f h);
        end = omega (arith, r.end, length-append xs ys);
      }

-- a short run that is shut has the label before it
pub labelled_shut : (n : ℕ) (some : 1 ≤ n) (ms : List Bool) (s : ℕ) (l b : Bool) (xs : List Marked) (y : Marked) (ys : List Marked)
    (all : AllMarked b xs) (r : Reaches n ms s l (xs ++ (y ∷ ys))) → length xs < n → y.mark ≡ not b → Labelled n some ms s l b xs (y ∷ ys) all r l
unfolding Labelled Begins
labelled_shut n some ms s l b xs y ys all r w e f h =
    elim (Bool-discrete l b) [
      | yes q ↦ labelled_agreeing n some ms s l b xs (y ∷ ys) all r q f h
      | no q ↦ shutting n f s (length xs) l b (stands n some ms s l b xs (y ∷ ys) all r f h) w
          ((begins_behind f s xs (y ∷ ys) (r.ahead f h)).0 ∙ e ∙ sym (not_of l b q))
    ]

-- a short run at the end, against the label before it, is undecided: for ever its mark, or for ever the label, may come
pub undecided_end : (n : ℕ) (some : 1 ≤ n) (ms : List Bool) (s : ℕ) (l b : Bool) (xs : List Marked) (all : AllMarked b xs)
    (r : Reaches n ms s l (xs ++ [])) → length xs < n → l ≡ not b → (at : ℕ → Label) → Labels n ms at → Uniform undecided at s xs
unfolding Labels Meaning
undecided_end n some ms s l b xs all r w e at g =
    uniform_by undecided at s xs
    (λ i p q. meaning_one n ms i (at i) undecided (g i (omega (arith, r.end, length-append xs [])))
    (followed b, followed l, begins_forever ms b, begins_forever ms l, λ z. apart i p q z))
  where
    followed : Bool → Marks
    followed d = λ i. get_or ms i d

    on : Stands n (followed b) s (length xs + n) l b
    on =
        record {
          some = some;
          prior = r.prior (followed b) (begins_forever ms b);
          marked = λ i p q.
              elim (dec_lt i (s + length xs)) [
                | yes u ↦ begins_run (followed b) s b xs [] all (r.ahead (followed b) (begins_forever ms b)) i p u
                | no u ↦ get_or-eq_default ms b (omega (arith, r.end, length-append xs []))
              ];
        }

    apart : (i : ℕ) → s ≤ i → i < s + length xs → lab n (followed b) i ≡ lab n (followed l) i → ⊥
    apart i p q z =
        not-eq-not.1 (refl {a = b})
        (sym (filling n (followed b) s (length xs + n) l b on (omega arith) i p (omega arith))
        ∙ z
        ∙ shutting n (followed l) s (length xs) l b (stands n some ms s l b xs [] all r (followed l) (begins_forever ms l)) w
        (get_or-eq_default ms l (omega (arith, r.end, length-append xs [])))
        i p q
        ∙ e)
