-- The place of a refusal of a set: one of the summaries of all pairs.
-- Assumes nothing.
use mathlib.Core.Path.{◌≡◌, refl}
use mathlib.Core.Bool.{Bool, true, false, and-eq-true_iff}
use mathlib.Core.List.{List, [], ◌∷◌, ◌++◌}
use Prim.Native.Nat.{ℕ, zero, suc, ◌+◌, ◌*◌, ◌≤◌}
use native.Mathlib.Omega.{arith}
use lib.ListN.{length}
use lib.Dec.{leb, eqb}
use borrow.Author.Tests.{leb-true}
use Rattle.std.specs.Prelude.{Option, Some, None, Result, Ok, Err}
use Rattle.numbers.specs.Limits.{pairs}
use Rattle.numbers.specs.declared.refusal.Fault.{Fault}
use Rattle.numbers.specs.declared.refusal.Refusal.{Refusal}
use Rattle.settings.specs.Settings.{settings_of}
use Rattle.settings.specs.declared.LabelSettings.{LabelSettings}
use Rattle.settings.specs.declared.Settings.{Settings}
use Rattle.tallies.specs.declared.Period.{Period}
use Rattle.verdicts.specs.Verdicts.{verdicts_of}
use Rattle.reports.specs.Three.{three_at}
use Rattle.reports.proofs.Places.{at_place}
use Rattle.sets.specs.Sets.{unless, pairs_from, set_from, with_settings, judged_of}
use Rattle.verdicts.specs.declared.PerObjective.{PerObjective}
use Rattle.verdicts.specs.declared.Verdict.{Verdict}

set_place :
    (n : ℕ) (v : Settings) (passed : List (PerObjective Verdict)) (l : LabelSettings) (s : List ℕ) (k : ℕ) (x : Refusal) → set_from v passed (pairs_from n l s k) ≡ Err x → x.place ≤ 3 * (k + n) + 2
unfolding set_from pairs_from
set_place zero v passed l s k x e = let z : ◌≡◌ {A = ℕ} 0 1 = cc in absurd (omega arith)
set_place (suc n) v passed l s k x e = by (three_at (Some l) s (3 * k)) refl (λ p. set_place n v (passed ++ (verdicts_of v p ∷ [])) l s (suc k) x) e
  where
    by :
        (r : Result Period Refusal) → three_at (Some l) s (3 * k) ≡ r →
        ((p : Period) → set_from v (passed ++ (verdicts_of v p ∷ [])) (pairs_from n l s (suc k)) ≡ Err x → x.place ≤ 3 * (suc k + n) + 2) →
        set_from v passed (r ∷ pairs_from n l s (suc k)) ≡ Err x → x.place ≤ 3 * (k + suc n) + 2
    by (Err y) f later g =
        let q : y.place ≡ x.place = cc in
        omega (arith, at_place (Some l) s (3 * k) y f)
    by (Ok p) f later g = omega (arith, later p g)

unless_set : (t : Bool) (f : Fault) (m : ℕ) (j : Result (PerObjective Verdict) Refusal) (x : Refusal) → (t ≡ true → j ≡ Err x → x.place ≤ m) → unless t f j ≡ Err x → x.place ≤ m
unfolding unless
unless_set true f m j x rest e = rest refl e
unless_set false f m j x rest e = let q : 0 ≡ x.place = cc in omega arith

read_place : (r : Option Settings) (n : ℕ) (s : List ℕ) (x : Refusal) → with_settings r n s ≡ Err x → x.place ≤ 3 * pairs + 2
read_place None n s x e = let q : 0 ≡ x.place = cc in omega arith
read_place (Some v) n s x e =
    unless_set _ _ (3 * pairs + 2) _ x
    (λ few.
    let h = leb-true n pairs ((and-eq-true_iff (leb 1 n) (leb n pairs)).0 few).1 in
    unless_set (eqb (length s) (n * 3072)) _ (3 * pairs + 2) _ x (λ whole g. omega (arith, set_place n v [] v.label s 0 x g)))
    e

pub verdicts_place : (settings : List ℕ) (n : ℕ) (s : List ℕ) (x : Refusal) → judged_of settings n s ≡ Err x → x.place ≤ 3 * pairs + 2
unfolding judged_of
verdicts_place settings n s x e = read_place (settings_of settings) n s x e
