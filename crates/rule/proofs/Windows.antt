-- What a window does to a label. The label turns round exactly where the window ahead is full of marks against it; so it stays
-- while each window holds a mark that agrees, which is all that settles a label before its own window is full.
use mathlib.Core.Path.{◌≡◌, refl, sym, ◌∙◌}
use mathlib.Core.Bool.{Bool, true, false, not, cond, ◌&&◌, beq}
use Prim.Native.Nat.{ℕ, zero, suc, ◌+◌, ◌≤◌, ◌<◌}
use native.Mathlib.Omega.{arith}
use native.Mathlib.Nat.{add-zero, add-suc}
use native.Mathlib.Decide.{ℕ_discrete}
use Rattle.rule.specs.Labels.{Marks, window, after, before}

pub beq_same : (b : Bool) → beq b b ≡ true
beq_same true = refl
beq_same false = refl

pub beq_not : (b : Bool) → beq (not b) b ≡ false
beq_not true = refl
beq_not false = refl

pub and_false : (a : Bool) → (a && false) ≡ false
and_false true = refl
and_false false = refl

pub not_not : (b : Bool) → not (not b) ≡ b
not_not true = refl
not_not false = refl

-- a window in which all marks are b
pub window_full : (n : ℕ) (b : Bool) (f : Marks) (k : ℕ) → ((i : ℕ) → k ≤ i → i < k + n → f i ≡ b) → window n b f k ≡ true
unfolding window
window_full zero b f k h = refl
window_full (suc n) b f k h =
    rw (h k (omega arith) (omega arith), beq_same, window_full n b f (suc k) (λ i p q. h i (omega arith) (omega arith)))

-- a window with a mark against b at u
pub window_broken : (n : ℕ) (b : Bool) (f : Marks) (k u : ℕ) → k ≤ u → u < k + n → f u ≡ not b → window n b f k ≡ false
unfolding window
window_broken zero b f k u p q e = absurd (omega arith)
window_broken (suc n) b f k u p q e =
    elim (ℕ_discrete k u) [
      | yes s ↦ rw (s, e, beq_not)
      | no s ↦ rw (window_broken n b f (suc k) u (omega arith) (omega arith) e, and_false)
    ]

-- the label turns round where the window ahead is full of marks against it, and else stays
pub after_window : (n : ℕ) (f : Marks) (l : Bool) (k : ℕ) → after n f l k ≡ cond (window n (not l) f k) (not l) l
unfolding after
after_window n f true k = by_window (window n false f k)
  where
    by_window : (w : Bool) → not w ≡ cond w false true
    by_window true = refl
    by_window false = refl
after_window n f false k = by_window (window n true f k)
  where
    by_window : (w : Bool) → w ≡ cond w true false
    by_window true = refl
    by_window false = refl

-- the window of i holds a mark that agrees with the label l
pub record Agreeing (n : ℕ) (f : Marks) (l : Bool) (i : ℕ) : Type 0 where
  pub at : ℕ
  pub from : i ≤ at
  pub within : at < i + n
  pub agrees : f at ≡ l

-- the label stays while each window holds a mark that agrees
pub stays : (n : ℕ) (f : Marks) (l : Bool) (j d : ℕ) → before n f j ≡ l → ((i : ℕ) → j ≤ i → i < j + d → Agreeing n f l i) → before n f (j + d) ≡ l
unfolding before
stays n f l j zero b w = rw add-zero b
stays n f l j (suc d) b w =
    let a : Agreeing n f l (j + d) = w (j + d) (omega arith) (omega arith) in
    let broken : window n (not l) f (j + d) ≡ false = window_broken n (not l) f (j + d) a.at a.from a.within (a.agrees ∙ sym (not_not l)) in
    rw (add-suc, stays n f l j d b (λ i p q. w i p (omega arith)), after_window, broken)

-- the label turns round at a full window
pub turns : (n : ℕ) (f : Marks) (l : Bool) (j : ℕ) → before n f j ≡ l → ((i : ℕ) → j ≤ i → i < j + n → f i ≡ not l) → before n f (suc j) ≡ not l
unfolding before
turns n f l j b h = rw (b, after_window, window_full n (not l) f j h)
