-- Counting in 2,048 buckets of one width: where a delay is counted, and what a table holds after a part of the list.
use Rattle.std.proofs.Common.{◌≡◌, ℕ, ◌+◌, ◌-◌, ◌*◌, ◌/◌, ◌%◌, ◌^◌, ◌<◌, ◌≤◌, eqb, ltb, List, length, get_or, take, drop, set, replicate, ap, ◌∙◌, zero-le, mul-le-mul_right, div-lt_iff_lt-mul, zero-add, div-mul-le_self, arith, length-set, eq-eqb, ne_eqb}
use native.Mathlib.Decide.{dec_le, dec_lt}
use native.Mathlib.Nat.{lt-div-mul-add}
use lib.ListN.{length-replicate, get_or-replicate, get_or-eq_default}
use Rattle.std.proofs.lemmas.List.{get_or-take, length-take-le}
use Rattle.percentile.specs.Percentile.{hit}
use Rattle.percentile.specs.Ranks.{below, Slot, Tally, Front, Ranked}
use Rattle.percentile.specs.declared.table.Mark.{Mark}
use Rattle.percentile.proofs.Counts.{count_step, count_none, hit_le_one, lt_one, ge_none, set_hit, count_le, below_all, below_mono, below_zero, at_most_below}

same_one : (b q : ℕ) → b ≡ q → hit (eqb b q) ≡ 1
same_one b q h = rw (eq-eqb b q h)

other_none : (b q : ℕ) → (b ≡ q → ⊥) → hit (eqb b q) ≡ 0
other_none b q h = rw (ne_eqb b q h)

-- below all buckets
pub slot_left : (lo w x q : ℕ) → 2048 ≤ q → q < 2056 → x < lo → Slot lo w x q
slot_left lo w x q least most h =
    record {
      within = omega arith;
      counts =
          λ b p.
          omega (
            arith,
            other_none b q (omega arith),
            lt_one x (lo + b * w) (omega arith),
            lt_one x (lo + (b + 1) * w) (omega arith),
          );
    }

module _ (lo w x : ℕ) (positive : 0 < w) (above : lo ≤ x) where
  -- a delay from lo on is counted from the bucket of its quotient on
  in_bucket : (b : ℕ) → hit (ltb x (lo + (b + 1) * w)) ≡ hit (eqb b ((x - lo) / w)) + hit (ltb x (lo + b * w))
  in_bucket b =
      let q : ℕ = (x - lo) / w in
      let least : q * w ≤ x - lo = div-mul-le_self (x - lo) w in
      let most : x - lo < q * w + w = lt-div-mul-add positive in
      elim (dec_lt b q) [
        | yes p ↦
            let m : (b + 1) * w ≤ q * w = mul-le-mul_right w (omega arith) in
            omega (
              arith,
              other_none b q (omega arith),
              ge_none x (lo + (b + 1) * w) (omega arith),
              ge_none x (lo + b * w) (omega arith),
            )
        | no p ↦
            elim (dec_lt q b) [
              | yes r ↦
                  let m : (q + 1) * w ≤ b * w = mul-le-mul_right w (omega arith) in
                  omega (
                    arith,
                    other_none b q (omega arith),
                    lt_one x (lo + (b + 1) * w) (omega arith),
                    lt_one x (lo + b * w) (omega arith),
                  )
              | no r ↦
                  let e : b ≡ q = omega arith in
                  let m : b * w ≡ q * w = ap (λ (z : ℕ). z * w) e in
                  omega (
                    arith,
                    same_one b q e,
                    lt_one x (lo + (b + 1) * w) (omega arith),
                    ge_none x (lo + b * w) (omega arith),
                  )
            ]
      ]

  pub slot_in : (x - lo) / w < 2048 → Slot lo w x ((x - lo) / w)
  slot_in h = record { within = omega arith; counts = λ b p. in_bucket b }

  -- above all buckets
  pub slot_right : (q : ℕ) → 2048 ≤ q → q < 2056 → 2048 ≤ (x - lo) / w → Slot lo w x q
  slot_right q least most h =
      record {
        within = omega arith;
        counts =
            λ b p.
            omega (arith, in_bucket b, other_none b ((x - lo) / w) (omega arith), other_none b q (omega arith));
      }

-- d is x less lo, modulo 2^64
module _
    (lo w x d : ℕ)
    (positive : 0 < w)
    (small : w ≤ 2 ^ 31)
    (x_fits : x < 2 ^ 32)
    (lo_fits : lo < 2 ^ 32)
    (d_fits : d < 2 ^ 64)
    (wraps : (d + lo) % 2 ^ 64 ≡ x)
  where
    plain : lo ≤ x → d ≡ x - lo
    plain h = omega arith

    wrapped : x < lo → 2 ^ 63 ≤ d
    wrapped h = omega arith

    pub slot_found : d / w < 2048 → Slot lo w x (d / w)
    slot_found h =
        elim (dec_le lo x) [
          | yes p ↦
              let e : d ≡ x - lo = plain p in
              rw e (slot_in lo w x positive p (rw e at h))
          | no p ↦ absurd (omega (arith, wrapped (omega arith), (div-lt_iff_lt-mul positive).0 h))
        ]

    pub slot_outside : (q : ℕ) → 2048 ≤ q → q < 2056 → 2048 ≤ d / w → Slot lo w x q
    slot_outside q least most h =
        elim (dec_le lo x) [
          | yes p ↦ let e : d ≡ x - lo = plain p in slot_right lo w x positive p q least most (rw e at h)
          | no p ↦ slot_left lo w x q least most (omega arith)
        ]

-- the table after the first i delays
pub record Tallied (xs : List ℕ) (lo w i : ℕ) (t : List ℕ) : Type 0 where
  pub within : i ≤ length xs
  pub long : length t ≡ 2056
  pub small : (b : ℕ) → get_or t b 0 ≤ i
  pub counts :
      (b : ℕ) → b < 2048
      → get_or t b 0 + below (lo + (b + 1) * w) (drop i xs) + below (lo + b * w) xs
      ≡ below (lo + (b + 1) * w) xs + below (lo + b * w) (drop i xs)

get_or_zeros : (n b : ℕ) → ◌≡◌ {A = ℕ} (get_or (replicate n 0) b 0) 0
get_or_zeros n b =
    elim (dec_lt b n) [
      | yes h ↦ get_or-replicate {A = ℕ} n b 0 0 h
      | no h ↦ get_or-eq_default {A = ℕ} (replicate n 0) 0 (omega (arith, length-replicate {A = ℕ} n 0))
    ]

pub tallied_start : (xs : List ℕ) (lo w : ℕ) → Tallied xs lo w 0 (replicate 2056 0)
tallied_start xs lo w =
    record {
      within = zero-le;
      long = length-replicate {A = ℕ} 2056 0;
      small = λ b. omega (arith, get_or_zeros 2056 b);
      counts = λ b p. omega (arith, get_or_zeros 2056 b);
    }

pub tallied_step : (xs : List ℕ) (lo w i : ℕ) (t : List ℕ) (q : ℕ) → i < length xs → Tallied xs lo w i t
    → Slot lo w (get_or xs i 0) q → Tallied xs lo w (i + 1) (set t q (get_or t q 0 + 1))
tallied_step xs lo w i t q h v s =
    record {
      within = omega arith;
      long = length-set t q (get_or t q 0 + 1) ∙ v.long;
      small = λ b. omega (arith, set_hit t q b (omega arith), hit_le_one (eqb b q), v.small b);
      counts =
          λ b p.
          omega (
            arith,
            set_hit t q b (omega arith),
            v.counts b p,
            s.counts b p,
            count_step (λ x. ltb x (lo + (b + 1) * w)) xs i h,
            count_step (λ x. ltb x (lo + b * w)) xs i h,
          );
    }

pub tallied_end : (xs : List ℕ) (lo w i : ℕ) (t : List ℕ) → length xs ≤ i → Tallied xs lo w i t → Tally xs lo w t
tallied_end xs lo w i t h v b p =
    let e : i ≡ length xs = omega arith in
    let all : get_or t b 0 + below (lo + (b + 1) * w) (drop (length xs) xs) + below (lo + b * w) xs
    ≡ below (lo + (b + 1) * w) xs + below (lo + b * w) (drop (length xs) xs) =
    rw e at (v.counts b p) in
    omega (
      arith,
      all,
      count_none (λ x. ltb x (lo + (b + 1) * w)) xs,
      count_none (λ x. ltb x (lo + b * w)) xs,
    )

-- the walk over t, the counts of all but the last of 2,048 buckets of width w from lo₀ on: bucket q begins at the mark, below which are
-- fewer than k delays
pub record Walk (k : ℕ) (xs : List ℕ) (lo₀ w : ℕ) (t : List ℕ) (q : ℕ) (m : Mark) : Type 0 where
  pub long : length t ≡ 2047
  pub table : (b : ℕ) → b < 2047 → below (lo₀ + (b + 1) * w) xs ≡ get_or t b 0 + below (lo₀ + b * w) xs
  pub reached : k ≤ below (lo₀ + 2048 * w) xs
  pub short : q ≤ 2047
  pub at : m.lo ≡ lo₀ + q * w
  pub counted : m.under ≡ below m.lo xs
  pub before : m.under < k

-- w' is w, as the code computed it
pub walk_start : (k : ℕ) (xs : List ℕ) (w w' : ℕ) (t : List ℕ) (m : Mark) → length t ≡ 2056 → w' ≡ w → Tally xs m.lo w t
    → Front k xs (2048 * w) m → Walk k xs m.lo w' (take 2047 t) 0 m
walk_start k xs w w' t m l e h f =
    record {
      long = length-take-le 2047 t (omega arith);
      table = λ b p. rw (e, get_or-take 2047 t b 0 p) (h b (omega arith));
      reached = rw e f.reached;
      short = omega arith;
      at = omega arith;
      counted = f.counted;
      before = f.before;
    }

module _
    (k : ℕ)
    (xs : List ℕ)
    (lo₀ w : ℕ)
    (t : List ℕ)
    (q : ℕ)
    (m : Mark)
    (v : Walk k xs lo₀ w t q m)
  where
    next_lo : m.lo + w ≡ lo₀ + (q + 1) * w
    next_lo = omega (arith, v.at)

    -- the delays below the next bucket
    next_under : q < length t → below (m.lo + w) xs ≡ m.under + get_or t q 0
    next_under h =
        omega (
          arith,
          v.counted,
          v.table q (omega (arith, v.long)),
          ap (λ (z : ℕ). below z xs) next_lo,
          ap (λ (z : ℕ). below z xs) v.at,
        )

    pub walk_count : q < length t → m.under + get_or t q 0 ≤ length xs
    walk_count h = omega (arith, next_under h, count_le (λ x. ltb x (m.lo + w)) xs)

    pub walk_step : q < length t → m.under + get_or t q 0 < k
        → Walk k xs lo₀ w t (q + 1) (record { lo = m.lo + w; under = m.under + get_or t q 0 })
    walk_step h b =
        record {
          long = v.long;
          table = v.table;
          reached = v.reached;
          short = omega (arith, v.long);
          at = next_lo;
          counted = omega (arith, next_under h);
          before = b;
        }

    -- rank k lies in bucket q
    pub walk_found : (w' : ℕ) → w ≡ w' → q < length t → k ≤ m.under + get_or t q 0 → Front k xs w' m
    walk_found w' e h b =
        record {
          counted = v.counted;
          before = v.before;
          reached = omega (arith, next_under h, ap (λ (z : ℕ). below (m.lo + z) xs) e);
        }

    -- the last bucket needs no look: rank k lies below its end
    pub walk_last : (w' : ℕ) → w ≡ w' → length t ≤ q → Front k xs w' m
    walk_last w' e p =
        let z : q * w ≡ 2047 * w = ap (λ (z : ℕ). z * w) (omega (arith, v.short, v.long)) in
        let f : m.lo + w ≡ lo₀ + 2048 * w = omega (arith, v.at) in
        record {
          counted = v.counted;
          before = v.before;
          reached =
              omega (arith, v.reached, ap (λ (z : ℕ). below z xs) f, ap (λ (z : ℕ). below (m.lo + z) xs) e);
        }

    -- a bucket that begins above all delays is never reached
    pub walk_fits : (top : ℕ) → q < length t → m.under + get_or t q 0 < k → ((i : ℕ) → i < length xs → get_or xs i 0 < top)
        → m.lo + w < top
    walk_fits top h b all =
        elim (dec_lt (m.lo + w) top) [
          | yes r ↦ r
          | no r ↦
              omega (
                arith,
                next_under h,
                v.reached,
                count_le (λ x. ltb x (lo₀ + 2048 * w)) xs,
                below_all top xs all,
                below_mono top (m.lo + w) xs (omega arith),
              )
        ]

-- before the first narrowing: all delays lie below w
pub front_start : (k : ℕ) (xs : List ℕ) (w : ℕ) → 0 < k → k ≤ length xs → ((i : ℕ) → i < length xs → get_or xs i 0 < w)
    → Front k xs w (record { lo = 0; under = 0 })
front_start k xs w p h all =
    record {
      counted = omega (arith, below_zero xs);
      before = p;
      reached = omega (arith, below_all w xs all, ap (λ (z : ℕ). below z xs) (zero-add w));
    }

pub front_wider : (k : ℕ) (xs : List ℕ) (w w' : ℕ) (m : Mark) → w ≤ w' → Front k xs w m → Front k xs w' m
front_wider k xs w w' m h f =
    record {
      counted = f.counted;
      before = f.before;
      reached = omega (arith, f.reached, below_mono (m.lo + w) (m.lo + w') xs (omega arith));
    }

-- a bucket of width 1 is the delay itself
pub front_end : (k : ℕ) (xs : List ℕ) (m : Mark) → Front k xs 1 m → Ranked k xs m.lo
front_end k xs m f =
    record {
      before = omega (arith, f.counted, f.before);
      reached = omega (arith, f.reached, at_most_below m.lo xs);
    }
