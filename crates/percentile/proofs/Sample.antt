-- A sample of m delays: the i-th stands for place i × n / m of n, so each is a listed one; and of two delays the one of the lesser rank is no greater.
use Rattle.std.proofs.Common.{◌≡◌, ℕ, zero, suc, ◌+◌, ◌*◌, ◌/◌, ◌<◌, ◌≤◌, ◌⊎◌, List, [], ◌∷◌, length, get_or, set, sym, refl, ◌∙◌, subst, inl, inr, ⊎_elim, mul-le-mul_right, arith, length-set, get_or-set_other, get_or-set_same}
use mathlib.Core.List.Memᴰ
use mathlib.Core.List.{Memᴰ}
use native.Mathlib.Decide.{dec_le, dec_lt}
use Rattle.percentile.specs.Ranks.{Ranked, Drawn, EndOrListed, Chosen}
use Rattle.percentile.proofs.Counts.{at_most_below, below_mono}
use Rattle.percentile.proofs.Percentile.{listed_here}

pub spread_most : (i n : ℕ) → i < 16384 → i * n ≤ 16383 * n
spread_most i n h = mul-le-mul_right n (omega arith)

pub spread_within : (i n : ℕ) → i < 16384 → 0 < n → i * n / 16384 < n
spread_within i n h p = omega (arith, spread_most i n h)

listed_at : (xs : List ℕ) (i : ℕ) → i < length xs → Memᴰ (get_or xs i 0) xs
listed_at [] i h = absurd (omega arith)
listed_at (x ∷ xs) zero h = Memᴰ.head refl
listed_at (x ∷ xs) (suc i) h = Memᴰ.tail (listed_at xs i (omega arith))

-- the first i of the sample are drawn
pub record Drawing (xs few₀ few : List ℕ) (i : ℕ) : Type 0 where
  pub long : length few ≡ length few₀
  pub drawn : (j : ℕ) → j < i → Memᴰ (get_or few j 0) xs

module _ (xs few₀ : List ℕ) where
  pub drawing_step : (few : List ℕ) (i q : ℕ) → i < length few₀ → q < length xs → Drawing xs few₀ few i
      → Drawing xs few₀ (set few i (get_or xs q 0)) (i + 1)
  drawing_step few i q h p v =
      record {
        long = length-set few i (get_or xs q 0) ∙ v.long;
        drawn =
            λ j k.
            elim (dec_lt j i) [
              | yes b ↦ rw (get_or-set_other few i j (get_or xs q 0) 0 (λ (e : j ≡ i). omega arith)) (v.drawn j b)
              | no b ↦
                  let e : j ≡ i = omega arith in
                  rw (e, get_or-set_same few i (get_or xs q 0) 0 (omega (arith, v.long))) (listed_at xs q p)
            ];
      }

all_drawn : (xs few : List ℕ) → ((j : ℕ) → j < length few → Memᴰ (get_or few j 0) xs) → Drawn xs few
all_drawn xs [] h d m = absurd (Memᴰ.not-nil m)
all_drawn xs (x ∷ few) h d (Memᴰ.head p) = subst (λ z. Memᴰ z xs) (sym p) (h 0 (omega arith))
all_drawn xs (x ∷ few) h d (Memᴰ.tail m) = all_drawn xs few (λ j q. h (suc j) (omega arith)) d m

pub drawing_end : (xs few₀ few : List ℕ) (i : ℕ) → length few₀ ≤ i → Drawing xs few₀ few i → Drawn xs few
drawing_end xs few₀ few i h v = all_drawn xs few (λ j q. v.drawn j (omega (arith, v.long)))

-- the delay of a greater rank is no less
ranks_ordered : (xs : List ℕ) (j k d e : ℕ) → j ≤ k → Ranked j xs d → Ranked k xs e → d ≤ e
ranks_ordered xs j k d e h r s =
    elim (dec_le d e) [
      | yes p ↦ p
      | no p ↦ omega (arith, r.before, s.reached, at_most_below e xs, below_mono (e + 1) d xs (omega arith))
    ]

-- a lower pivot: 0, or the delay of a rank of the sample, at most `most`
abbrev pub Lower : List ℕ → ℕ → ℕ → Type 0
Lower few most lo = (lo ≡ 0) ⊎ ((j : ℕ) × (j ≤ most) × Ranked j few lo)

module _ (xs few : List ℕ) (drawn : Drawn xs few) where
  ranked_listed : (k d : ℕ) → Ranked k few d → EndOrListed xs d
  ranked_listed k d r = inr (inr (drawn d (listed_here d few (omega (arith, r.before, r.reached)))))

  lower_listed : (most lo : ℕ) → Lower few most lo → EndOrListed xs lo
  lower_listed most lo = ⊎_elim (λ z. inl z) (λ r. ranked_listed r.0 lo r.2)

  -- with an upper pivot out of the sample, and with the largest number
  pub chosen_ranked : (most k lo hi : ℕ) → Lower few most lo → most ≤ k → Ranked k few hi → Chosen xs (record { lo = lo; hi = hi })
  chosen_ranked most k lo hi l h r =
      record {
        ordered = ⊎_elim (λ z. omega arith) (λ q. ranks_ordered few q.0 k lo hi (omega (arith, q.1)) q.2 r) l;
        low = lower_listed most lo l;
        high = ranked_listed k hi r;
      }

  pub chosen_end : (most lo : ℕ) → Lower few most lo → lo ≤ 4294967295 → Chosen xs (record { lo = lo; hi = 4294967295 })
  chosen_end most lo l h = record { ordered = h; low = lower_listed most lo l; high = inr (inl refl) }
