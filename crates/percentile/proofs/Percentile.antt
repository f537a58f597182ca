-- The percentile exists and is one number: some listed delay reaches (the greatest does), and the least of those that do is listed,
-- reaches, and is at or below each other. A delay of the rank that Pr × N asks for is that number.
use Rattle.std.proofs.Common.{◌≡◌, ℕ, ◌+◌, ◌*◌, ◌<◌, ◌≤◌, min, Bool, true, false, cond, List, [], ◌∷◌, length, sym, refl, ap, ◌∙◌, le_refl, mul-le-mul_right, mul-le-mul_left, arith, le-leb, leb-true}
use mathlib.Core.List.Memᴰ
use mathlib.Core.List.{Memᴰ}
use native.Mathlib.Decide.{dec_le, dec_lt}
use Rattle.numbers.specs.Limits.{million}
use Rattle.percentile.specs.Percentile.{how_many, keep, at_most, reaches, least_from, least, percentile, IsPercentile}
use Rattle.percentile.specs.Ranks.{below, Ranked}
use Rattle.percentile.proofs.Counts.{lt_one, ge_none, le_one, gt_none, below_mono, at_most_below}

-- the least of a list: at or below each member, and one of them

least_from_le : (m : ℕ) (xs : List ℕ) → least_from m xs ≤ m
unfolding least_from
least_from_le m [] = le_refl m
least_from_le m (x ∷ xs) = omega (arith, least_from_le (min m x) xs)

least_from_below : (m e : ℕ) (xs : List ℕ) → Memᴰ e xs → least_from m xs ≤ e
unfolding least_from
least_from_below m e [] h = elim h [ ]
least_from_below m e (x ∷ xs) (Memᴰ.head p) = omega (arith, least_from_le (min m x) xs)
least_from_below m e (x ∷ xs) (Memᴰ.tail h) = least_from_below (min m x) e xs h

least_from_listed : (m : ℕ) (xs : List ℕ) → Memᴰ (least_from m xs) (m ∷ xs)
unfolding least_from
least_from_listed m [] = Memᴰ.head refl
least_from_listed m (x ∷ xs) = back (least_from_listed (min m x) xs)
  where
    back : {d : ℕ} → Memᴰ d (min m x ∷ xs) → Memᴰ d (m ∷ (x ∷ xs))
    back {d} (Memᴰ.head p) =
        elim (dec_le m x) [
          | yes h ↦ let e : d ≡ m = omega arith in Memᴰ.head e
          | no h ↦ let e : d ≡ x = omega arith in Memᴰ.tail (Memᴰ.head e)
        ]
    back (Memᴰ.tail h) = Memᴰ.tail (Memᴰ.tail h)

pub least_below : (e : ℕ) (xs : List ℕ) → Memᴰ e xs → least xs ≤ e
unfolding least
least_below e [] h = elim h [ ]
least_below e (x ∷ xs) (Memᴰ.head p) = omega (arith, least_from_le x xs)
least_below e (x ∷ xs) (Memᴰ.tail h) = least_from_below x e xs h

least_listed : (e : ℕ) (xs : List ℕ) → Memᴰ e xs → Memᴰ (least xs) xs
unfolding least
least_listed e [] h = elim h [ ]
least_listed e (x ∷ xs) h = least_from_listed x xs

-- what a test keeps: the members that pass

still_listed : (b : Bool) (x : ℕ) {e : ℕ} {ys : List ℕ} → Memᴰ e ys → Memᴰ e (cond b (x ∷ ys) ys)
still_listed true x h = Memᴰ.tail h
still_listed false x h = h

keep_listed : (f : ℕ → Bool) (e : ℕ) (xs : List ℕ) → Memᴰ e xs → f e ≡ true → Memᴰ e (keep f xs)
unfolding keep
keep_listed f e [] h t = elim h [ ]
keep_listed f e (x ∷ xs) (Memᴰ.head p) t =
    let pass : f x ≡ true = ap f (sym p) ∙ t in rw pass (Memᴰ.head p)
keep_listed f e (x ∷ xs) (Memᴰ.tail h) t = still_listed (f x) x (keep_listed f e xs h t)

pub record Kept (f : ℕ → Bool) (e : ℕ) (xs : List ℕ) : Type 0 where
  pub listed : Memᴰ e xs
  pub passes : f e ≡ true

later : {f : ℕ → Bool} {e x : ℕ} {xs : List ℕ} → Kept f e xs → Kept f e (x ∷ xs)
later k = record { listed = Memᴰ.tail k.listed; passes = k.passes }

kept_one : (f : ℕ → Bool) (e x : ℕ) (xs : List ℕ) (b : Bool) → f x ≡ b
    → (Memᴰ e (keep f xs) → Kept f e xs) → Memᴰ e (cond b (x ∷ keep f xs) (keep f xs)) → Kept f e (x ∷ xs)
kept_one f e x xs true p next (Memᴰ.head q) = record { listed = Memᴰ.head q; passes = ap f q ∙ p }
kept_one f e x xs true p next (Memᴰ.tail h) = later (next h)
kept_one f e x xs false p next h = later (next h)

pub kept : (f : ℕ → Bool) (e : ℕ) (xs : List ℕ) → Memᴰ e (keep f xs) → Kept f e xs
unfolding keep
kept f e [] h = absurd (Memᴰ.not-nil h)
kept f e (x ∷ xs) h = kept_one f e x xs (f x) refl (λ g. kept f e xs g) h

-- the greatest delay has all at or below it

record Greatest (xs : List ℕ) (m : ℕ) : Type 0 where
  listed : Memᴰ m xs
  all : length xs ≤ at_most m xs

at_most_mono : (d e : ℕ) (xs : List ℕ) → d ≤ e → at_most d xs ≤ at_most e xs
at_most_mono d e xs h = omega (arith, at_most_below d xs, at_most_below e xs, below_mono (d + 1) (e + 1) xs (omega arith))

greatest : (x : ℕ) (xs : List ℕ) → (m : ℕ) × Greatest (x ∷ xs) m
unfolding how_many
greatest x [] = (x, record { listed = Memᴰ.head refl; all = omega (arith, le_one x x (le_refl x)) })
greatest x (y ∷ ys) = next (greatest y ys)
  where
    next : (m : ℕ) × Greatest (y ∷ ys) m → (m : ℕ) × Greatest (x ∷ (y ∷ ys)) m
    next g =
        elim (dec_le x g.0) [
          | yes h ↦
              (g.0, record { listed = Memᴰ.tail g.1.listed; all = omega (arith, le_one x g.0 h, g.1.all) })
          | no h ↦ (
            x,
            record {
              listed = Memᴰ.head refl;
              all =
                  omega (
                    arith,
                    le_one x x (le_refl x),
                    g.1.all,
                    at_most_mono g.0 x (y ∷ ys) (omega arith),
                  );
            },
          )
        ]

-- some listed delay reaches
some_reaches : (pr x : ℕ) (xs : List ℕ) → pr ≤ million
    → (m : ℕ) × Memᴰ m (keep (reaches pr (x ∷ xs)) (x ∷ xs))
some_reaches pr x xs h =
    let g : (m : ℕ) × Greatest (x ∷ xs) m = greatest x xs in
    let p : pr * length (x ∷ xs) ≤ million * length (x ∷ xs) = mul-le-mul_right (length (x ∷ xs)) h in
    let q : million * length (x ∷ xs) ≤ million * at_most g.0 (x ∷ xs) = mul-le-mul_left million g.1.all in
    let r : pr * length (x ∷ xs) ≤ million * at_most g.0 (x ∷ xs) = omega arith in
    (g.0, keep_listed (reaches pr (x ∷ xs)) g.0 (x ∷ xs) g.1.listed (le-leb _ _ r))

-- the percentile of a list with a delay in it is listed, reaches, and is the first to do so
pub percentile_meets : (pr : ℕ) (xs : List ℕ) → pr ≤ million → 0 < length xs → IsPercentile pr xs (percentile pr xs)
unfolding percentile
percentile_meets pr [] h n = absurd (omega arith)
percentile_meets pr (x ∷ xs) h n =
    let s : (m : ℕ) × Memᴰ m (keep (reaches pr (x ∷ xs)) (x ∷ xs)) = some_reaches pr x xs h in
    let k : Kept (reaches pr (x ∷ xs)) (percentile pr (x ∷ xs)) (x ∷ xs) =
    kept (reaches pr (x ∷ xs)) (percentile pr (x ∷ xs)) (x ∷ xs)
    (least_listed s.0 (keep (reaches pr (x ∷ xs)) (x ∷ xs)) s.1) in
    record {
      listed = k.listed;
      reached = leb-true _ _ k.passes;
      first =
          λ e m r.
          least_below e (keep (reaches pr (x ∷ xs)) (x ∷ xs))
          (keep_listed (reaches pr (x ∷ xs)) e (x ∷ xs) m (le-leb _ _ r));
    }

-- no other number is
pub percentile_one : (pr : ℕ) (xs : List ℕ) (d e : ℕ) → IsPercentile pr xs d → IsPercentile pr xs e → d ≡ e
percentile_one pr xs d e p q =
    omega (arith, p.first e q.listed q.reached, q.first d p.listed p.reached)

-- a number with more delays at or below it than below it is listed
pub listed_here : (d : ℕ) (xs : List ℕ) → below d xs < at_most d xs → Memᴰ d xs
unfolding how_many
listed_here d [] h = absurd (omega arith)
listed_here d (x ∷ xs) h =
    elim (dec_lt x d) [
      | yes p ↦ Memᴰ.tail (listed_here d xs (omega (arith, lt_one x d p, le_one x d (omega arith))))
      | no p ↦
          elim (dec_lt d x) [
            | yes q ↦ Memᴰ.tail (listed_here d xs (omega (arith, ge_none x d (omega arith), gt_none x d q)))
            | no q ↦ let e : d ≡ x = omega arith in Memᴰ.head e
          ]
    ]

-- k is the least rank with Pr × N ≤ 1,000,000 × k: a delay of rank k is the percentile
pub ranked_meets : (pr : ℕ) (xs : List ℕ) (k d : ℕ) → pr * length xs ≤ million * k
    → million * k < pr * length xs + million → Ranked k xs d → IsPercentile pr xs d
unfolding million
ranked_meets pr xs k d lower upper r =
    record {
      listed = listed_here d xs (omega (arith, r.before, r.reached));
      reached = omega (arith, r.reached);
      first =
          λ e m s.
          elim (dec_le d e) [
            | yes p ↦ p
            | no p ↦
                omega (arith, r.before, at_most_below e xs, below_mono (e + 1) d xs (omega arith))
          ];
    }

pub ranked_percentile : (pr : ℕ) (xs : List ℕ) (k d : ℕ) → pr ≤ million → 0 < length xs
    → pr * length xs ≤ million * k → million * k < pr * length xs + million → Ranked k xs d → d ≡ percentile pr xs
ranked_percentile pr xs k d h n lower upper r =
    percentile_one pr xs d (percentile pr xs) (ranked_meets pr xs k d lower upper r) (percentile_meets pr xs h n)
