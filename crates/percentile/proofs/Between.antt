-- A rank among the delays strictly between two numbers is a rank among all, less those at or below the lower one.
use Rattle.std.proofs.Common.{◌≡◌, ℕ, ◌+◌, ◌-◌, ◌^◌, ◌<◌, ◌≤◌, Bool, true, false, cond, ltb, leb, List, [], ◌∷◌, length, take, sym, refl, ap, ◌∙◌, arith, le-ltb, lt-ltb}
use native.Mathlib.Decide.{dec_le, dec_lt}
use Rattle.percentile.specs.Percentile.{hit, how_many, keep, at_most}
use Rattle.percentile.specs.Ranks.{below, inside, Ranked, Collected}
use Rattle.percentile.proofs.Counts.{lt_one, ge_none, le_one, gt_none, at_most_below}
use Rattle.percentile.proofs.Percentile.{Kept, kept, listed_here}

-- as many are kept as pass
pub length_keep : (f : ℕ → Bool) (xs : List ℕ) → length (keep f xs) ≡ how_many f xs
unfolding keep how_many
length_keep f [] = refl
length_keep f (x ∷ xs) = by (f x) (length_keep f xs)
  where
    by : (b : Bool) → length (keep f xs) ≡ how_many f xs → length (cond b (x ∷ keep f xs) (keep f xs)) ≡ hit b + how_many f xs
    by true e = omega arith
    by false e = omega arith

-- a test g counts those that pass e, and those kept by f that pass g, where that is so at each delay
count_keep : (f g e : ℕ → Bool) → ((x : ℕ) → hit (g x) ≡ hit (e x) + cond (f x) (hit (g x)) 0) → (xs : List ℕ)
    → how_many g xs ≡ how_many e xs + how_many g (keep f xs)
unfolding keep how_many
count_keep f g e h [] = refl
count_keep f g e h (x ∷ xs) = by (f x) (h x) (count_keep f g e h xs)
  where
    by : (b : Bool) → hit (g x) ≡ hit (e x) + cond b (hit (g x)) 0
        → how_many g xs ≡ how_many e xs + how_many g (keep f xs)
        → hit (g x) + how_many g xs ≡ hit (e x) + how_many e xs + how_many g (cond b (x ∷ keep f xs) (keep f xs))
    by true p q = omega arith
    by false p q = omega arith

module _ (lo hi : ℕ) where
  at_lower : (x : ℕ) → x ≤ lo → inside lo hi x ≡ false
  at_lower x h = rw (le-ltb lo x h)

  at_inside : (x : ℕ) → lo < x → x < hi → inside lo hi x ≡ true
  at_inside x h k = rw (lt-ltb lo x h, lt-ltb x hi k)

  at_upper : (x : ℕ) → lo < x → hi ≤ x → inside lo hi x ≡ false
  at_upper x h k = rw (lt-ltb lo x h, le-ltb x hi k)

  -- a delay below d is at or below lo, or lies between
  below_inside : (d : ℕ) → lo < d → d ≤ hi → (x : ℕ)
      → hit (ltb x d) ≡ hit (leb x lo) + cond (inside lo hi x) (hit (ltb x d)) 0
  below_inside d h k x =
      elim (dec_le x lo) [
        | yes p ↦ rw (at_lower x p) (omega (arith, le_one x lo p, lt_one x d (omega arith)))
        | no p ↦
            elim (dec_lt x hi) [
              | yes q ↦ rw (at_inside x (omega arith) q) (omega (arith, gt_none x lo (omega arith)))
              | no q ↦
                  rw (at_upper x (omega arith) (omega arith))
                  (omega (arith, gt_none x lo (omega arith), ge_none x d (omega arith)))
            ]
      ]

  below_between : (d : ℕ) (xs : List ℕ) → lo < d → d ≤ hi → below d xs ≡ at_most lo xs + below d (keep (inside lo hi) xs)
  below_between d xs h k = count_keep (inside lo hi) (λ x. ltb x d) (λ x. leb x lo) (below_inside d h k) xs

  -- those between make up the difference of the counts at the ends
  pub count_between_lem : (xs : List ℕ) → lo < hi → at_most lo xs + how_many (inside lo hi) xs ≡ below hi xs
  unfolding how_many
  count_between_lem [] h = refl
  count_between_lem (x ∷ xs) h =
      elim (dec_le x lo) [
        | yes p ↦
            omega (
              arith,
              count_between_lem xs h,
              ap hit (at_lower x p),
              le_one x lo p,
              lt_one x hi (omega arith),
            )
        | no p ↦
            elim (dec_lt x hi) [
              | yes q ↦
                  omega (
                    arith,
                    count_between_lem xs h,
                    ap hit (at_inside x (omega arith) q),
                    gt_none x lo (omega arith),
                    lt_one x hi q,
                  )
              | no q ↦
                  omega (
                    arith,
                    count_between_lem xs h,
                    ap hit (at_upper x (omega arith) (omega arith)),
                    gt_none x lo (omega arith),
                    ge_none x hi (omega arith),
                  )
            ]
      ]

  inside_lower : (d : ℕ) → inside lo hi d ≡ true → lo < d
  inside_lower d e =
      elim (dec_lt lo d) [
        | yes p ↦ p
        | no p ↦ let z : ◌≡◌ {A = ℕ} 0 1 = ap hit (sym (at_lower d (omega arith)) ∙ e) in omega arith
      ]

  inside_upper : (d : ℕ) → inside lo hi d ≡ true → d < hi
  inside_upper d e =
      elim (dec_lt d hi) [
        | yes p ↦ p
        | no p ↦
            let z : ◌≡◌ {A = ℕ} 0 1 = ap hit (sym (at_upper d (inside_lower d e) (omega arith)) ∙ e) in omega arith
      ]

  pub ranked_between : (u k d : ℕ) (xs : List ℕ) → u ≡ at_most lo xs → u < k → Ranked (k - u) (keep (inside lo hi) xs) d
      → Ranked k xs d
  ranked_between u k d xs e h r =
      let p : Kept (inside lo hi) d xs =
      kept (inside lo hi) d xs (listed_here d (keep (inside lo hi) xs) (omega (arith, r.before, r.reached))) in
      let q : lo < d = inside_lower d p.passes in
      let s : d < hi = inside_upper d p.passes in
      record {
        before = omega (arith, r.before, below_between d xs q (omega arith));
        reached =
            omega (
              arith,
              r.reached,
              at_most_below d xs,
              at_most_below d (keep (inside lo hi) xs),
              below_between (d + 1) xs (omega arith) (omega arith),
            );
      }

-- what `gather` has collected is as long as it says
pub collected_length : (f : ℕ → Bool) (xs few : List ℕ) (n : ℕ) → Collected f xs few n → n ≡ length (take n few)
collected_length f xs few n v = v.counted ∙ sym (ap length v.content ∙ length_keep f xs)

-- so a rank among those collected may be searched for
pub collected_asked : (f : ℕ → Bool) (xs few : List ℕ) (n k : ℕ) → Collected f xs few n → 0 < k → k ≤ how_many f xs
    → how_many f xs < 2 ^ 32 → (0 < k) × (k ≤ length (take n few)) × (length (take n few) < 2 ^ 32)
collected_asked f xs few n k v p h r =
    let e : n ≡ length (take n few) = collected_length f xs few n v in
    omega (arith, v.counted)
