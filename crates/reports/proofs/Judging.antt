-- What is known of three summaries whose report is answered: they are valid, of equal label settings, and adjoin, so that their report keeps to its bounds.
-- Assumes nothing.
use mathlib.Core.Path.{◌≡◌, refl, subst}
use mathlib.Core.Bool.{Bool, true, false}
use mathlib.Core.List.{List}
use Prim.Native.Nat.{ℕ, ◌+◌}
use native.Mathlib.Omega.{arith}
use lib.Dec.{eqb}
use lib.ListN.{length}
use borrow.Author.Tests.{eqb-true}
use Rattle.std.specs.Prelude.{Option, Some, None, Result, Ok}
use Rattle.numbers.specs.declared.refusal.Fault.{Fault}
use Rattle.settings.specs.Settings.{same_label}
use Rattle.settings.proofs.SettingsRecord.{same_label_equal}
use Rattle.tallies.specs.Bounds.{PeriodBounded, Accounted}
use Rattle.tallies.specs.declared.Period.{Period}
use Rattle.periods.specs.Stretches.{stretch_of, first_of, after_of, label_of, period_of, ThreeRead, Known}
use Rattle.periods.specs.declared.Stretch.{Stretch}
use Rattle.periods.proofs.Promises.{period_bounded, period_accounted}
use Rattle.reports.specs.Three.{unless, suits, judged_three, judged_reads, summary_at, three_at, report_of}
use Rattle.numbers.specs.declared.refusal.Refusal.{Refusal}
use Rattle.settings.specs.declared.LabelSettings.{LabelSettings}

-- three that are read, of equal label settings, each right behind the one before
pub known_by :
    (a b c : Stretch) → ThreeRead a b c → same_label (label_of a) (label_of b) ≡ true → same_label (label_of b) (label_of c) ≡ true → eqb (after_of a) (first_of b) ≡ true → eqb (after_of b) (first_of c) ≡ true → Known a b c
known_by a b c h p q e f =
    record {
      read = h;
      left_settings = same_label_equal (label_of a) (label_of b) p;
      right_settings = same_label_equal (label_of b) (label_of c) q;
      left_numbers = eqb-true (after_of a) (first_of b) e;
      right_numbers = eqb-true (after_of b) (first_of c) f;
    }

-- three that are read, and three that meet every test

pub all_read :
    (w : Option LabelSettings) (s : List ℕ) (base : ℕ) (a : Stretch) → summary_at s base ≡ Some a → (b : Stretch) → summary_at s (base + 1) ≡ Some b →
    (c : Stretch) → summary_at s (base + 2) ≡ Some c → three_at w s base ≡ judged_three w base a b c
unfolding three_at
all_read w s base a left b middle c right = rw (left, middle, right)

pub adjoined :
    (w : Option LabelSettings) (base : ℕ) (a b c : Stretch) → suits w (label_of a) ≡ true → same_label (label_of a) (label_of b) ≡ true → same_label (label_of b) (label_of c) ≡ true →
    eqb (first_of a) 0 ≡ true → eqb (after_of a) (first_of b) ≡ true → eqb (after_of b) (first_of c) ≡ true → judged_three w base a b c ≡ Ok (period_of a b c)
unfolding judged_three unless
adjoined w base a b c suit left right start first second = rw (suit, left, right, start, first, second)

-- an answer is the report of three known ones

pub record Found (p : Period) : Type 0 where
  pub a : Stretch
  pub b : Stretch
  pub c : Stretch
  pub known : Known a b c
  pub told : period_of a b c ≡ p

passed : (t : Bool) (f : Fault) (k : ℕ) (r : Result Period Refusal) (p : Period) → unless t f k r ≡ Ok p → (t ≡ true) × (r ≡ Ok p)
unfolding unless
passed true f k r p e = (refl, e)
passed false f k r p e = let z : ◌≡◌ {A = ℕ} 0 1 = cc in absurd (omega arith)

three_found : (w : Option LabelSettings) (base : ℕ) (a b c : Stretch) (p : Period) → ThreeRead a b c → judged_three w base a b c ≡ Ok p → Found p
unfolding judged_three
three_found w base a b c p h e =
    let s1 = passed _ _ _ _ p e in
    let s2 = passed _ _ _ _ p s1.1 in
    let s3 = passed _ _ _ _ p s2.1 in
    let s4 = passed _ _ _ _ p s3.1 in
    let s5 = passed _ _ _ _ p s4.1 in
    let s6 = passed _ _ _ _ p s5.1 in
    record { a = a; b = b; c = c; known = known_by a b c h s2.0 s3.0 s5.0 s6.0; told = cc s6.1 }

reads_found :
    (w : Option LabelSettings) (base : ℕ) (s t u : List ℕ) (p : Period) (x y z : Option Stretch) → stretch_of s ≡ x → stretch_of t ≡ y → stretch_of u ≡ z → judged_reads w base x y z ≡ Ok p → Found p
reads_found w base s t u p None y z f g h e = let z : ◌≡◌ {A = ℕ} 0 1 = cc in absurd (omega arith)
reads_found w base s t u p (Some a) None z f g h e = let z : ◌≡◌ {A = ℕ} 0 1 = cc in absurd (omega arith)
reads_found w base s t u p (Some a) (Some b) None f g h e = let z : ◌≡◌ {A = ℕ} 0 1 = cc in absurd (omega arith)
reads_found w base s t u p (Some a) (Some b) (Some c) f g h e =
    three_found w base a b c p (record { left_bytes = s; middle_bytes = t; right_bytes = u; left = f; middle = g; right = h }) e

pub answer_found : (w : Option LabelSettings) (s : List ℕ) (base : ℕ) (p : Period) → three_at w s base ≡ Ok p → Found p
unfolding three_at
answer_found w s base p e = reads_found w base _ _ _ p _ _ _ refl refl refl e

-- so every report answered keeps to its bounds, for some p
pub found_bounded : (p : Period) (f : Found p) → PeriodBounded (label_of f.b).p p
found_bounded p f = subst (λ r. PeriodBounded (label_of f.b).p r) f.told (period_bounded f.a f.b f.c f.known)

-- Of whatever summaries `report` answers, made or only valid: its figures keep to the bounds, for the p of the summaries, and account for each interval of the period.
pub report_sound : (s : List ℕ) (r : Period) → report_of s ≡ Ok r → (p : ℕ) × PeriodBounded p r × Accounted r
unfolding report_of
report_sound s r e =
    let f = answer_found None s 0 r (passed (eqb (length s) 3072) Fault.Length 0 (three_at None s 0) r e).1 in
    ((label_of f.b).p, found_bounded r f, subst Accounted f.told (period_accounted f.a f.b f.c f.known))

-- two results that the contract allows are one
pub report_coincide : (s : List ℕ) (x y : Result Period Refusal) → x ≡ report_of s → y ≡ report_of s → x ≡ y
report_coincide s x y p q = cc
