-- The place of a refusal: one of the three summaries.
-- Assumes nothing.
use mathlib.Core.Path.{◌≡◌}
use mathlib.Core.Bool.{Bool, true, false}
use mathlib.Core.List.{List}
use Prim.Native.Nat.{ℕ, ◌+◌, ◌≤◌}
use native.Mathlib.Omega.{arith}
use Rattle.std.specs.Prelude.{Option, Some, None, Result, Err}
use Rattle.numbers.specs.declared.refusal.Fault.{Fault}
use Rattle.numbers.specs.declared.refusal.Refusal.{Refusal}
use Rattle.periods.specs.declared.Stretch.{Stretch}
use Rattle.reports.specs.Three.{unless, judged_three, judged_reads, summary_at, three_at, report_of}
use Rattle.tallies.specs.declared.Period.{Period}
use Rattle.settings.specs.declared.LabelSettings.{LabelSettings}

unless_place : (t : Bool) (f : Fault) (k m : ℕ) (r : Result Period Refusal) (x : Refusal) → k ≤ m → (r ≡ Err x → x.place ≤ m) → unless t f k r ≡ Err x → x.place ≤ m
unfolding unless
unless_place true f k m r x h rest e = rest e
unless_place false f k m r x h rest e = let q : k ≡ x.place = cc in omega arith

three_place : (w : Option LabelSettings) (base : ℕ) (a b c : Stretch) (x : Refusal) → judged_three w base a b c ≡ Err x → x.place ≤ base + 2
unfolding judged_three
three_place w base a b c x e =
    unless_place _ _ base (base + 2) _ x (omega arith)
    (unless_place _ _ (base + 1) (base + 2) _ x (omega arith)
    (unless_place _ _ (base + 2) (base + 2) _ x (omega arith)
    (unless_place _ _ base (base + 2) _ x (omega arith)
    (unless_place _ _ (base + 1) (base + 2) _ x (omega arith)
    (unless_place _ _ (base + 2) (base + 2) _ x (omega arith) (λ f. let z : ◌≡◌ {A = ℕ} 0 1 = cc in absurd (omega arith)))))))
    e

reads_place : (w : Option LabelSettings) (base : ℕ) (a b c : Option Stretch) (x : Refusal) → judged_reads w base a b c ≡ Err x → x.place ≤ base + 2
reads_place w base None b c x e = let q : base ≡ x.place = cc in omega arith
reads_place w base (Some a) None c x e = let q : base + 1 ≡ x.place = cc in omega arith
reads_place w base (Some a) (Some b) None x e = let q : base + 2 ≡ x.place = cc in omega arith
reads_place w base (Some a) (Some b) (Some c) x e = three_place w base a b c x e

pub at_place : (w : Option LabelSettings) (s : List ℕ) (base : ℕ) (x : Refusal) → three_at w s base ≡ Err x → x.place ≤ base + 2
unfolding three_at
at_place w s base x e = reads_place w base (summary_at s base) (summary_at s (base + 1)) (summary_at s (base + 2)) x e

pub report_place : (s : List ℕ) (x : Refusal) → report_of s ≡ Err x → x.place ≤ 2
unfolding report_of
report_place s x e = unless_place _ _ 0 2 _ x (omega arith) (at_place None s 0 x) e
