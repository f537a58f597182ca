-- Laws of a slice of many records: where the k-th stands, what its part is, and what is left to read at k, as a loop over the records uses it.
-- Assumes nothing.
use mathlib.Core.Path.{◌≡◌, refl, ap, subst}
use mathlib.Core.List.{List, [], ◌∷◌}
use Prim.Native.Nat.{ℕ, zero, suc, ◌+◌, ◌-◌, ◌*◌, ◌/◌, ◌≤◌, ◌<◌}
use native.Mathlib.Nat.{suc-mul, le_trans, mul-le-mul_right, div-mul-le_self}
use native.Mathlib.Omega.{arith}
use lib.ListN.{length, take, drop}
use borrow.Author.Tests.{lt-ltb, le-ltb}
use Rattle.numbers.specs.Many.{record_at, read_each}

pub record_within : (len size k : ℕ) → k < len / size → k * size + size ≤ len
record_within len size k h =
    subst (λ (n : ℕ). n ≤ len) (suc-mul k size) (le_trans (mul-le-mul_right size h) (div-mul-le_self len size))

pub record_there : (s : List ℕ) (size k : ℕ) → 0 < size → k < length s / size → record_at s size k ≡ take size (drop (k * size) s)
unfolding record_at
record_there s size k some h = simp (lt-ltb 0 size some, lt-ltb k (length s / size) h)

pub record_missing : (s : List ℕ) (size k : ℕ) → 0 < size → length s / size ≤ k → record_at s size k ≡ []
unfolding record_at
record_missing s size k some h = simp (lt-ltb 0 size some, le-ltb k (length s / size) h)

module _ {A : Type 0} (read : List ℕ → A) (size : ℕ) (s : List ℕ) where
  pub each_many : (n k : ℕ) → length (read_each read size n s k) ≡ n
  unfolding read_each
  each_many zero k = refl
  each_many (suc n) k = ap suc (each_many n (suc k))

  pub each_next : (n k : ℕ) → k < n → read_each read size (n - k) s k ≡ read (record_at s size k) ∷ read_each read size (n - (k + 1)) s (k + 1)
  unfolding read_each
  each_next n k h =
      let e : n - k ≡ suc (n - (k + 1)) = omega arith in
      let f : k + 1 ≡ suc k = omega arith in
      rw (e, f)

  pub each_done : (n k : ℕ) → n ≤ k → read_each read size (n - k) s k ≡ []
  unfolding read_each
  each_done n k h = let e : n - k ≡ 0 = omega arith in rw e
