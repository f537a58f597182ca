-- The operation's outcome under each of its tests.
use Prim.Native.Nat.{ℕ, ◌-◌, ◌<◌, ◌≤◌}
use mathlib.Core.Bool.{Bool, true, false}
use mathlib.Core.List.{List, [], ◌∷◌}
use mathlib.Core.Path.{◌≡◌, refl, sym, subst}
use native.Mathlib.Decide.{dec_le}
use native.Mathlib.Nat.{le_refl}
use native.Mathlib.Omega.{arith}
use lib.ListN.{length}
use lib.Dec.{leb, ltb}
use borrow.Author.Tests.{le-leb, lt-leb, lt-ltb, le-ltb}
use Rattle.std.specs.Prelude.{Option, Some, None, Result, Ok, Err}
use Rattle.numbers.specs.Limits.{delays, largest_delay, million}
use Rattle.numbers.specs.Refusals.{refusal}
use Rattle.numbers.specs.declared.refusal.Fault.{Fault}
use Rattle.numbers.specs.declared.refusal.Refusal.{Refusal}
use Rattle.settings.specs.Settings.{settings_of}
use Rattle.settings.specs.declared.Settings.{Settings}
use Rattle.percentile.specs.Percentile.{at_most, keep, least, percentile, range, place_above}
use Rattle.percentile.specs.Ranks.{Ranked}
use Rattle.percentile.proofs.Counts.{count_le}
use Rattle.percentile.proofs.Percentile.{least_below, listed_here, ranked_percentile}
use Rattle.percentile.proofs.Place.{place_all, place_some, place_le}
use Rattle.delays.specs.Outcome.{Rank, answered, pick, judged, with_settings, outcome}
use Rattle.delays.specs.declared.Figures.{Figures}

-- a delay of the rank is the percentile, and less the least delay the range
module _ (pr : ℕ) (xs : List ℕ) (k d : ℕ) (most : pr ≤ million) (asked : Rank pr (length xs) k) (found : Ranked k xs d) where
  pub percentile_found : d ≡ percentile pr xs
  percentile_found =
      ranked_percentile pr xs k d most (omega (arith, asked.positive, asked.within)) asked.enough asked.first found

  pub range_found : (m : ℕ) → m ≡ least xs → d - m ≡ range pr xs
  unfolding range
  range_found m e = omega (arith, e, percentile_found)

  pub least_under : (m : ℕ) → m ≡ least xs → m ≤ d
  least_under m e =
      omega (arith, e, least_below d xs (listed_here d xs (omega (arith, found.before, found.reached))))

pub none_listed : (pr : ℕ) (xs : List ℕ) → length xs ≡ 0 → (percentile pr xs ≡ 0) × (range pr xs ≡ 0)
unfolding percentile range keep least
none_listed pr [] e = (refl, refl)
none_listed pr (x ∷ xs) e = absurd (omega arith)

module _ (v : Settings) (xs : List ℕ) where
  pub judged_full : delays < length xs → Err (refusal Fault.Full 0) ≡ judged v xs
  unfolding judged
  judged_full h = rw (lt-leb (length xs) delays h)

  pub judged_field : (at n : ℕ) → length xs ≤ delays → n ≡ at_most largest_delay xs → n < length xs → at ≡ place_above largest_delay xs
      → Err (refusal Fault.Field at) ≡ judged v xs
  unfolding judged
  judged_field at n h w s e =
      rw (
        e,
        le-leb (length xs) delays h,
        lt-ltb (place_above largest_delay xs) (length xs) (place_some largest_delay xs (omega arith)),
      )

  judged_answer : (d r : ℕ) → length xs ≤ delays → at_most largest_delay xs ≡ length xs → d ≡ percentile v.percentile xs
      → r ≡ range v.percentile xs → answered v d r ≡ judged v xs
  unfolding judged
  judged_answer d r h w p q =
      rw (
        p,
        q,
        le-leb (length xs) delays h,
        le-ltb (place_above largest_delay xs) (length xs) (omega (arith, place_all largest_delay xs w)),
      )

  pub judged_none : length xs ≡ 0 → answered v 0 0 ≡ judged v xs
  judged_none e =
      judged_answer 0 0 (omega arith) (omega (arith, count_le (λ x. leb x largest_delay) xs))
      (sym (none_listed v.percentile xs e).0) (sym (none_listed v.percentile xs e).1)

  pub judged_found : (k d m n : ℕ) → length xs ≤ delays → n ≡ at_most largest_delay xs → length xs ≤ n
      → v.percentile ≤ million → Rank v.percentile (length xs) k → Ranked k xs d → m ≡ least xs
      → answered v d (d - m) ≡ judged v xs
  judged_found k d m n h w s most asked found e =
      judged_answer d (d - m) h (omega (arith, w, count_le (λ x. leb x largest_delay) xs))
      (percentile_found v.percentile xs k d most asked found) (range_found v.percentile xs k d most asked found m e)

-- what `judge` needs
pub ruleset judged_steps = (judged_full, judged_field, judged_none, judged_found, least_under)

-- the place of a refusal is that of a delay, so it is at most 1,000,000

place_of : Result Figures Refusal → ℕ
place_of (Err r) = r.place
place_of (Ok f) = 0

field_place : (b : Bool) (v : Settings) (at d r : ℕ)
    → place_of (pick b (Err (refusal Fault.Field at)) (answered v d r)) ≤ at
unfolding place_of
field_place true v at d r = le_refl at
field_place false v at d r = omega arith

judged_place : (v : Settings) (xs : List ℕ) → place_of (judged v xs) ≤ delays
unfolding judged place_of
judged_place v xs =
    elim (dec_le (length xs) delays) [
      | yes h ↦
          rw (le-leb (length xs) delays h)
          (omega (
            arith,
            field_place (ltb (place_above largest_delay xs) (length xs)) v (place_above largest_delay xs)
                (percentile v.percentile xs) (range v.percentile xs),
            place_le largest_delay xs,
          ))
      | no h ↦ rw (lt-leb (length xs) delays (omega arith)) (omega arith)
    ]

read_place : (o : Option Settings) (xs : List ℕ) → place_of (with_settings o xs) ≤ delays
unfolding place_of
read_place (Some v) xs = judged_place v xs
read_place None xs = omega arith

pub refused_place : (s xs : List ℕ) (r : Refusal) → outcome s xs ≡ Err r → r.place ≤ delays
unfolding outcome place_of
refused_place s xs r e = subst (λ (o : Result Figures Refusal). place_of o ≤ delays) e (read_place (settings_of s) xs)

-- two results that the contract of `delays` allows coincide
pub delays_coincide : (s xs : List ℕ) (a b : Result Figures Refusal) → a ≡ outcome s xs → b ≡ outcome s xs → a ≡ b
delays_coincide s xs a b p q = cc
