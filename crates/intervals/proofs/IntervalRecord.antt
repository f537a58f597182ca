-- Laws of the interval record: each rule of a valid one as a fact, its length, how its bytes are put, and both round trips.
-- Each fact is its rule of the list, taken out by its place; with bytes of known width both round trips are computed field by field.
-- Assumes nothing.
use mathlib.Core.Path.{◌≡◌, refl, subst}
use mathlib.Core.Logic.{◌⊎◌, inl, inr}
use mathlib.Core.Bool.{Bool, true, false, cond, ◌&&◌, ◌||◌, and-eq-true_iff, and_assoc}
use mathlib.Core.List.{List, ◌∷◌, ◌++◌}
use Prim.Native.Nat.{ℕ, ◌*◌, ◌≤◌, ◌<◌}
use native.Mathlib.Omega.{arith}
use lib.ListN.{length, get_or}
use lib.Seq.{sets}
use lib.Dec.{leb, ltb, eqb}
use borrow.Author.Tests.{leb-true, ltb-true, eqb-true, eqb-false, eq-eqb}
use Rattle.std.specs.Prelude.{Some}
use Rattle.numbers.specs.Bytes.{bytes_of, number_at, are_zero}
use Rattle.numbers.specs.Limits.{intervals, frames, largest_delay}
use Rattle.numbers.specs.Rules.{all_met}
use Rattle.intervals.specs.Interval.{
  interval_in,
  delivered_in,
  count_rules,
  counts_meet,
  no_delay_rules,
  delay_rules,
  delays_meet,
  interval_rules,
  interval_of,
  count_bytes,
  delay_bytes,
  interval_bytes,
  valid_if,
}
use Rattle.numbers.proofs.Rules.{rule_met}
use Rattle.numbers.proofs.Words.{flag_number}
use Rattle.intervals.specs.declared.Interval.{Interval}

-- a flag of the code over 48 bytes is the flag of the rules
pub by_rules :
    (t : Bool) (s : List ℕ) {v : Interval} {a b : Bool} {x : ℕ} →
    v ≡ interval_in s → a ≡ counts_meet v → b ≡ delays_meet v → x ≡ number_at 8 s 40 →
    length s ≡ 48 → a && b && leb x 1 ≡ t → interval_of s ≡ valid_if t v
unfolding interval_of interval_rules
by_rules t s {a = a} {b = b} ev ea eb ex whole et =
    let e : eqb (length s) 48 ≡ true = eq-eqb (length s) 48 whole in
    let f : leb (number_at 8 s 40) 1 ≡ leb (get_or s 40 0) 1 && are_zero 7 s 41 = flag_number 7 s 40 in
    cc (and_assoc (a && b) (leb (get_or s 40 0) 1) (are_zero 7 s 41))

-- the facts of a valid interval; those on delays hold with nothing delivered too
pub record IntervalValid (v : Interval) : Type 0 where
  pub number_fact : v.number < intervals
  pub sent_fact : v.sent ≤ frames
  pub lost_fact : v.lost ≤ v.sent
  pub late_fact : v.late ≤ delivered_in v
  pub jumpy_fact : v.jumpy ≤ v.pairs
  pub pairs_facts : (v.pairs < delivered_in v) ⊎ ((delivered_in v ≡ 0) × (v.pairs ≡ 0))
  pub least_fact : v.least ≤ v.most
  pub most_fact : v.most ≤ largest_delay
  pub low_fact : v.least * delivered_in v ≤ v.sum
  pub high_fact : v.sum ≤ v.most * delivered_in v
  pub none_facts : delivered_in v ≡ 0 → (v.sum ≡ 0) × (v.least ≡ 0) × (v.most ≡ 0)

few_or_none : (q d : ℕ) (t : Bool) → ltb q d ≡ t → t || (eqb d 0 && eqb q 0) ≡ true → (q < d) ⊎ ((d ≡ 0) × (q ≡ 0))
few_or_none q d true e h = inl (ltb-true q d e)
few_or_none q d false e h = let b = (and-eq-true_iff (eqb d 0) (eqb q 0)).0 h in inr (eqb-true d 0 b.0, eqb-true q 0 b.1)

record Delays (v : Interval) : Type 0 where
  least_fact : v.least ≤ v.most
  most_fact : v.most ≤ largest_delay
  low_fact : v.least * delivered_in v ≤ v.sum
  high_fact : v.sum ≤ v.most * delivered_in v
  none_facts : delivered_in v ≡ 0 → (v.sum ≡ 0) × (v.least ≡ 0) × (v.most ≡ 0)

delays_hold : (v : Interval) (t : Bool) → eqb (delivered_in v) 0 ≡ t → cond t (all_met (no_delay_rules v)) (all_met (delay_rules v)) ≡ true → Delays v
unfolding no_delay_rules delay_rules
delays_hold v true e h =
    let none : delivered_in v ≡ 0 = eqb-true (delivered_in v) 0 e in
    let s : v.sum ≡ 0 = eqb-true v.sum 0 (rule_met (no_delay_rules v) 0 h) in
    let l : v.least ≡ 0 = eqb-true v.least 0 (rule_met (no_delay_rules v) 1 h) in
    let m : v.most ≡ 0 = eqb-true v.most 0 (rule_met (no_delay_rules v) 2 h) in
    record {
      least_fact = omega arith;
      most_fact = omega arith;
      low_fact = rw (l, s) (omega arith);
      high_fact = rw s (omega arith);
      none_facts = λ _. (s, l, m);
    }
delays_hold v false e h =
    record {
      least_fact = leb-true v.least v.most (rule_met (delay_rules v) 0 h);
      most_fact = leb-true v.most largest_delay (rule_met (delay_rules v) 1 h);
      low_fact = leb-true (v.least * delivered_in v) v.sum (rule_met (delay_rules v) 2 h);
      high_fact = leb-true v.sum (v.most * delivered_in v) (rule_met (delay_rules v) 3 h);
      none_facts = λ none. absurd (eqb-false (delivered_in v) 0 e none);
    }

pub interval_facts : (v : Interval) → counts_meet v ≡ true → delays_meet v ≡ true → IntervalValid v
unfolding counts_meet count_rules delays_meet
interval_facts v e h =
    let d = delays_hold v (eqb (delivered_in v) 0) refl h in
    record {
      number_fact = ltb-true v.number intervals (rule_met (count_rules v) 0 e);
      sent_fact = leb-true v.sent frames (rule_met (count_rules v) 1 e);
      lost_fact = leb-true v.lost v.sent (rule_met (count_rules v) 2 e);
      late_fact = leb-true v.late (delivered_in v) (rule_met (count_rules v) 3 e);
      jumpy_fact = leb-true v.jumpy v.pairs (rule_met (count_rules v) 4 e);
      pairs_facts = few_or_none v.pairs (delivered_in v) (ltb v.pairs (delivered_in v)) refl (rule_met (count_rules v) 5 e);
      least_fact = d.least_fact;
      most_fact = d.most_fact;
      low_fact = d.low_fact;
      high_fact = d.high_fact;
      none_facts = d.none_facts;
    }

-- an interval that is read is what stands in the bytes, and the bytes meet every rule

taken_out : (t : Bool) (w v : Interval) → valid_if t w ≡ Some v → (t ≡ true) × (w ≡ v)
taken_out true w v e = (refl, (cc))
taken_out false w v e = absurd cc

pub interval_read : (s : List ℕ) (v : Interval) → interval_of s ≡ Some v → (all_met (interval_rules s) ≡ true) × (interval_in s ≡ v)
unfolding interval_of
interval_read s v e = taken_out (all_met (interval_rules s)) (interval_in s) v e

pub interval_valid : (s : List ℕ) (v : Interval) → interval_of s ≡ Some v → IntervalValid v
unfolding interval_rules
interval_valid s v e =
    let r = interval_read s v e in
    subst (λ w. IntervalValid w) r.1
    (interval_facts (interval_in s) (rule_met (interval_rules s) 1 r.0) (rule_met (interval_rules s) 2 r.0))

-- the bytes

pub length_interval : (v : Interval) → length (interval_bytes v) ≡ 48
unfolding interval_bytes count_bytes delay_bytes bytes_of
length_interval v = refl

-- four numbers put one behind the other; the last is the maintenance flag with the spare bytes
pub delays_laid :
    (l : List ℕ) (v : Interval) →
    sets (sets (sets (sets l 24 (bytes_of 8 v.sum)) 32 (bytes_of 4 v.least)) 36 (bytes_of 4 v.most)) 40 (bytes_of 8 (cond v.maintenance 1 0)) ≡ sets l 24 (delay_bytes v)
unfolding delay_bytes bytes_of
delays_laid l v =
    elim v.maintenance as (λ m.
    sets (sets (sets (sets l 24 (bytes_of 8 v.sum)) 32 (bytes_of 4 v.least)) 36 (bytes_of 4 v.most)) 40 (bytes_of 8 (cond m 1 0))
    ≡ sets l 24 (bytes_of 8 v.sum ++ (bytes_of 4 v.least ++ (bytes_of 4 v.most ++ (cond m 1 0 ∷ bytes_of 7 0))))) [ true ↦ refl | false ↦ refl ]
