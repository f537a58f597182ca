-- An endless track that begins with a list: by parts, mark by mark, and one that exists, the list followed for ever by one mark.
use mathlib.Core.Path.{◌≡◌}
use mathlib.Core.Bool.{Bool}
use mathlib.Core.List.{List, [], ◌∷◌, ◌++◌}
use Prim.Native.Nat.{ℕ, zero, suc, ◌+◌, ◌≤◌, ◌<◌}
use native.Mathlib.Omega.{arith}
use native.Mathlib.Nat.{add-zero, zero-add, add-suc, suc-add}
use lib.ListN.{length, get_or, replicate}
use Rattle.rule.specs.Labels.{Marks, Begins}

pub begins_append : (f : Marks) (xs ys : List Bool) (j : ℕ) → Begins f j xs → Begins f (j + length xs) ys → Begins f j (xs ++ ys)
unfolding Begins
begins_append f [] ys j b c = rw add-zero at c
begins_append f (x ∷ xs) ys j b c = (b.0, begins_append f xs ys (suc j) b.1 (rw (add-suc, ← suc-add) at c))

pub begins_prefix : (f : Marks) (xs ys : List Bool) (j : ℕ) → Begins f j (xs ++ ys) → Begins f j xs
unfolding Begins
begins_prefix f [] ys j b = tt
begins_prefix f (x ∷ xs) ys j b = (b.0, begins_prefix f xs ys (suc j) b.1)

pub begins_replicate : (f : Marks) (c : ℕ) (m : Bool) (j : ℕ) → ((i : ℕ) → j ≤ i → i < j + c → f i ≡ m) → Begins f j (replicate c m)
unfolding Begins
begins_replicate f zero m j h = tt
begins_replicate f (suc c) m j h = (h j (omega arith) (omega arith), begins_replicate f c m (suc j) (λ i p q. h i (omega arith) (omega arith)))

pub begins_at : (f : Marks) (ms : List Bool) (j i : ℕ) (d : Bool) → Begins f j ms → i < length ms → f (j + i) ≡ get_or ms i d
unfolding Begins
begins_at f [] j i d b p = absurd (omega arith)
begins_at f (m ∷ ms) j zero d b p = rw add-zero b.0
begins_at f (m ∷ ms) j (suc i) d b p = rw (add-suc, ← suc-add) (begins_at f ms (suc j) i d b.1 (omega arith))

pub begins_by : (f : Marks) (ms : List Bool) (j : ℕ) (d : Bool) → ((i : ℕ) → i < length ms → f (j + i) ≡ get_or ms i d) → Begins f j ms
unfolding Begins
begins_by f [] j d h = tt
begins_by f (m ∷ ms) j d h =
    (rw add-zero at (h zero (omega arith)), begins_by f ms (suc j) d (λ i p. rw (add-suc, ← suc-add) at (h (suc i) (omega arith))))

-- the list, and then one mark for ever
pub begins_forever : (ms : List Bool) (d : Bool) → Begins (λ i. get_or ms i d) 0 ms
begins_forever ms d = begins_by (λ i. get_or ms i d) ms 0 d (λ i p. rw zero-add)
