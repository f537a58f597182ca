-- Laws of a slice of many interval records, as a loop over it at k uses them: what is left to read, and what one record does to the check.
-- Assumes nothing.
use mathlib.Core.Path.{◌≡◌}
use mathlib.Core.List.{List, [], ◌∷◌}
use Prim.Native.Nat.{ℕ, suc, ◌+◌, ◌-◌, ◌/◌, ◌≤◌, ◌<◌}
use native.Mathlib.Omega.{arith}
use lib.ListN.{length}
use borrow.Author.Tests.{eq-eqb, ne_eqb}
use Rattle.std.specs.Prelude.{Some, None, Ok, Err}
use Rattle.numbers.specs.Many.{record_at}
use Rattle.numbers.specs.Refusals.{refusal}
use Rattle.numbers.specs.declared.refusal.Fault.{Fault}
use Rattle.numbers.proofs.Parts.{each_next, each_done}
use Rattle.intervals.specs.Interval.{interval_of}
use Rattle.intervals.specs.Sequence.{reads_from, intervals_in, checked}
use Rattle.intervals.specs.declared.Interval.{Interval}

-- what is left to read at k of n

pub reads_all : (s : List ℕ) → intervals_in s ≡ reads_from (length s / 48 - 0) s 0
unfolding intervals_in
reads_all s = let e : length s / 48 - 0 ≡ length s / 48 = omega arith in rw e

pub reads_next : (n k : ℕ) (s : List ℕ) → k < n → reads_from (n - k) s k ≡ interval_of (record_at s 48 k) ∷ reads_from (n - (k + 1)) s (k + 1)
reads_next n k s h = each_next interval_of 48 s n k h

pub reads_done : (n k : ℕ) (s : List ℕ) → n ≤ k → reads_from (n - k) s k ≡ []
reads_done n k s h = each_done interval_of 48 s n k h

-- what the record at k does to the check

module _ (n k next : ℕ) (s : List ℕ) where
  pub check_done : n ≤ k → checked next k (reads_from (n - k) s k) ≡ Ok tt
  unfolding checked
  check_done h = rw (reads_done n k s h)

  pub check_invalid :
      k < n → interval_of (record_at s 48 k) ≡ None → checked next k (reads_from (n - k) s k) ≡ Err (refusal Fault.Field k)
  unfolding checked
  check_invalid h e = rw (reads_next n k s h, e)

  pub check_disordered :
      (v : Interval) →
      k < n → interval_of (record_at s 48 k) ≡ Some v → (v.number ≡ next → ⊥) → checked next k (reads_from (n - k) s k) ≡ Err (refusal Fault.Order k)
  unfolding checked
  check_disordered v h e other = rw (reads_next n k s h, e, ne_eqb v.number next other)

  pub check_next :
      (v : Interval) →
      k < n → interval_of (record_at s 48 k) ≡ Some v → v.number ≡ next →
      checked next k (reads_from (n - k) s k) ≡ checked (v.number + 1) (k + 1) (reads_from (n - (k + 1)) s (k + 1))
  unfolding checked
  check_next v h e same =
      let f : v.number + 1 ≡ suc next = omega arith in
      let g : k + 1 ≡ suc k = omega arith in
      rw (reads_next n k s h, e, eq-eqb v.number next same, f, g)

-- what a turn of the loop, and each way out of it, does to the check
pub ruleset check_steps = (check_done, check_invalid, check_disordered, check_next)
