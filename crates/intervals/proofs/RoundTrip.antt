-- Both round trips of the interval record. `read_write`: what is written of values that meet the rules is read back as the same values. `write_read`: the bytes
-- of a valid record are the bytes written of its values. With bytes of known width each field is computed, and what is left is that the field's number fits its
-- width, which the rules give, or that the spare bytes are 0.
-- Assumes nothing.
use mathlib.Core.Path.{◌≡◌, refl, sym, ◌∙◌}
use mathlib.Core.Logic.{⊎_elim}
use mathlib.Core.Bool.{Bool, true, false, cond}
use mathlib.Core.List.{List}
use Prim.Native.Nat.{ℕ, ◌*◌, ◌^◌, ◌≤◌, ◌<◌}
use native.Mathlib.Nat.{mul-le-mul_left, mul-le-mul_right}
use native.Mathlib.Omega.{arith}
use lib.ListN.{length, get_or}
use lib.Dec.{leb, eqb}
use borrow.Author.Tests.{leb-true, eqb-true, eqb-false, eq-eqb}
use Rattle.std.specs.Prelude.{Some}
use Rattle.numbers.specs.Bytes.{number_at, part, bytes_of, are_zero, Bytes}
use Rattle.numbers.specs.Limits.{frames, largest_delay}
use Rattle.numbers.proofs.Rules.{rule_met}
use Rattle.numbers.proofs.Bounds.{intervals_fit, frames_fit, largest_delay_fits, interval_sum_fits}
use Rattle.numbers.proofs.Numbers.{number_of_bytes, part_append, part_whole, part_bytes}
use Rattle.numbers.proofs.Zeros.{zero_bytes}
use Rattle.intervals.specs.Interval.{interval_in, delivered_in, counts_meet, delays_meet, interval_rules, interval_of, count_bytes, delay_bytes, interval_bytes}
use Rattle.intervals.specs.declared.Interval.{Interval}
use Rattle.intervals.proofs.IntervalRecord.{IntervalValid, interval_facts, interval_read, length_interval}

-- the sum of an interval that meets the rules fits its field
pub sum_fits : (v : Interval) → IntervalValid v → v.sum < 2 ^ 64
sum_fits v f =
    let d : delivered_in v ≤ frames = omega (arith, f.sent_fact) in
    let a : v.most * delivered_in v ≤ v.most * frames = mul-le-mul_left v.most d in
    let b : v.most * frames ≤ largest_delay * frames = mul-le-mul_right frames f.most_fact in
    omega (arith, f.high_fact, interval_sum_fits)

flag_read : (m : Bool) → eqb (cond m 1 0) 1 ≡ m
flag_read true = refl
flag_read false = refl

flag_rule : (m : Bool) → leb (cond m 1 0) 1 ≡ true
flag_rule true = refl
flag_rule false = refl

-- the values of the bytes written are the values
written_values : (v : Interval) → IntervalValid v → interval_in (interval_bytes v) ≡ v
unfolding interval_in interval_bytes count_bytes delay_bytes number_at part bytes_of
written_values v f =
    let pairs : v.pairs ≤ v.sent = ⊎_elim (λ few. omega arith) (λ none. omega arith) f.pairs_facts in
    λ i.
    record {
      number = number_of_bytes 4 v.number (omega (arith, f.number_fact, intervals_fit)) i;
      sent = number_of_bytes 4 v.sent (omega (arith, f.sent_fact, frames_fit)) i;
      lost = number_of_bytes 4 v.lost (omega (arith, f.lost_fact, f.sent_fact, frames_fit)) i;
      late = number_of_bytes 4 v.late (omega (arith, f.late_fact, f.sent_fact, frames_fit)) i;
      pairs = number_of_bytes 4 v.pairs (omega (arith, f.sent_fact, frames_fit)) i;
      jumpy = number_of_bytes 4 v.jumpy (omega (arith, f.jumpy_fact, f.sent_fact, frames_fit)) i;
      sum = number_of_bytes 8 v.sum (omega (arith, sum_fits v f)) i;
      least = number_of_bytes 4 v.least (omega (arith, f.least_fact, f.most_fact, largest_delay_fits)) i;
      most = number_of_bytes 4 v.most (omega (arith, f.most_fact, largest_delay_fits)) i;
      maintenance = flag_read v.maintenance i;
    }

-- the maintenance flag and the spare bytes of the bytes written

written_flag : (v : Interval) → leb (get_or (interval_bytes v) 40 0) 1 ≡ true
unfolding interval_bytes count_bytes delay_bytes bytes_of
written_flag v = flag_rule v.maintenance

written_spare : (v : Interval) → are_zero 7 (interval_bytes v) 41 ≡ true
unfolding interval_bytes count_bytes delay_bytes bytes_of are_zero
written_spare v = refl

pub read_write : (v : Interval) → counts_meet v ≡ true → delays_meet v ≡ true → interval_of (interval_bytes v) ≡ Some v
unfolding interval_of interval_rules
read_write v counts delays =
    let e : interval_in (interval_bytes v) ≡ v = written_values v (interval_facts v counts delays) in
    let w : eqb (length (interval_bytes v)) 48 ≡ true = eq-eqb (length (interval_bytes v)) 48 (length_interval v) in
    rw (w, e, counts, delays, written_flag v, written_spare v)

-- a flag is its byte
flag_bytes : (x : ℕ) (t : Bool) → eqb x 1 ≡ t → leb x 1 ≡ true → cond t 1 0 ≡ x
flag_bytes x true e h = sym (eqb-true x 1 e)
flag_bytes x false e h =
    let other : x ≡ 1 → ⊥ = eqb-false x 1 e in
    let small : x ≤ 1 = leb-true x 1 h in
    omega arith

counts_back : (s : List ℕ) → Bytes s → count_bytes (interval_in s) ≡ part 24 s 0
unfolding count_bytes interval_in part
counts_back s h =
    rw (part_bytes 4 s 0 h, part_bytes 4 s 4 h, part_bytes 4 s 8 h, part_bytes 4 s 12 h, part_bytes 4 s 16 h, part_bytes 4 s 20 h)

delays_back : (s : List ℕ) → Bytes s → leb (get_or s 40 0) 1 ≡ true → are_zero 7 s 41 ≡ true → delay_bytes (interval_in s) ≡ part 24 s 24
unfolding delay_bytes interval_in part
delays_back s h flag spare =
    rw (part_bytes 8 s 24 h, part_bytes 4 s 32 h, part_bytes 4 s 36 h, flag_bytes (get_or s 40 0) (eqb (get_or s 40 0) 1) refl flag, zero_bytes 7 s 41 spare)

pub write_read : (s : List ℕ) (v : Interval) → Bytes s → interval_of s ≡ Some v → interval_bytes v ≡ s
unfolding interval_bytes interval_rules
write_read s v h e =
    let r = interval_read s v e in
    let rules : (k : ℕ) → get_or (interval_rules s) k true ≡ true = λ k. rule_met (interval_rules s) k r.0 in
    rw (sym r.1, counts_back s h, delays_back s h (rules 3) (rules 4))
    (sym (part_append 24 24 s 0) ∙ part_whole s 48 (eqb-true (length s) 48 (rules 0)))
