-- Going over the pairs of a set: the whole outcome is what the pairs from the k-th on give after the verdicts of those passed.
-- Assumes nothing.
use mathlib.Core.Path.{◌≡◌, refl, ap, sym, ◌∙◌}
use mathlib.Core.List.{List, [], ◌∷◌, ◌++◌}
use Prim.Native.Nat.{ℕ, suc, ◌+◌, ◌*◌, ◌-◌, ◌≤◌, ◌<◌}
use native.Mathlib.Omega.{arith}
use lib.ListN.{length}
use borrow.Author.Tests.{le-leb, eq-eqb}
use Rattle.std.specs.Prelude.{Some, Result, Ok, Err}
use Rattle.numbers.specs.Limits.{pairs}
use Rattle.numbers.specs.declared.refusal.Refusal.{Refusal}
use Rattle.settings.specs.Settings.{settings_of}
use Rattle.settings.specs.declared.LabelSettings.{LabelSettings}
use Rattle.settings.specs.declared.Settings.{Settings}
use Rattle.tallies.specs.declared.Period.{Period}
use Rattle.verdicts.specs.Verdicts.{verdicts_of}
use Rattle.verdicts.specs.Sets.{of_sets}
use Rattle.verdicts.proofs.Gathering.{sets_more}
use Rattle.reports.specs.Three.{three_at}
use Rattle.sets.specs.Sets.{pairs_from, set_from, unless, judged_of}
use Rattle.verdicts.specs.declared.PerObjective.{PerObjective}
use Rattle.verdicts.specs.declared.Verdict.{Verdict}

-- what is left at k of n

pairs_next : (n k : ℕ) (l : LabelSettings) (s : List ℕ) → k < n → pairs_from (n - k) l s k ≡ three_at (Some l) s (3 * k) ∷ pairs_from (n - (k + 1)) l s (k + 1)
unfolding pairs_from
pairs_next n k l s h =
    let e : n - k ≡ suc (n - (k + 1)) = omega arith in
    let f : k + 1 ≡ suc k = omega arith in
    rw (e, f)

pairs_done : (n k : ℕ) (l : LabelSettings) (s : List ℕ) → n ≤ k → pairs_from (n - k) l s k ≡ []
unfolding pairs_from
pairs_done n k l s h = let e : n - k ≡ 0 = omega arith in rw e

module _ (v : Settings) (s : List ℕ) (n : ℕ) where
  -- the pairs before the k-th are passed, and `all` is what they come to
  pub record Going (k : ℕ) (all : PerObjective Verdict) : Type 0 where
    pub passed : List (PerObjective Verdict)
    pub kept : all ≡ of_sets passed
    pub most : k ≤ n
    pub left : set_from v [] (pairs_from n v.label s 0) ≡ set_from v passed (pairs_from (n - k) v.label s k)

  pub going_start : (all : PerObjective Verdict) → all ≡ of_sets [] → Going 0 all
  going_start all e =
      let f : n - 0 ≡ n = omega arith in
      record { passed = []; kept = e; most = omega arith; left = rw f refl }

  module _ (k : ℕ) (all : PerObjective Verdict) (g : Going k all) where
    pub going_refused : (r : Refusal) → k < n → three_at (Some v.label) s (3 * k) ≡ Err r → set_from v [] (pairs_from n v.label s 0) ≡ Err r
    unfolding set_from
    going_refused r h e = g.left ∙ rw (pairs_next n k v.label s h, e)

    pub going_next :
        (p : Period) (more : PerObjective Verdict) → k < n → three_at (Some v.label) s (3 * k) ≡ Ok p → more ≡ of_sets (all ∷ verdicts_of v p ∷ []) → Going (k + 1) more
    unfolding set_from
    going_next p more h e f =
        record {
          passed = g.passed ++ (verdicts_of v p ∷ []);
          kept = f ∙ ap (λ x. of_sets (x ∷ verdicts_of v p ∷ [])) g.kept ∙ sym (sets_more g.passed (verdicts_of v p));
          most = omega arith;
          left = g.left ∙ rw (pairs_next n k v.label s h, e);
        }

    pub going_done : n ≤ k → set_from v [] (pairs_from n v.label s 0) ≡ Ok all
    unfolding set_from
    going_done h = g.left ∙ rw (pairs_done n k v.label s h, g.kept)

-- where each test has been made, the operation goes over the pairs
pub gone_over :
    (settings : List ℕ) (n : ℕ) (s : List ℕ) (v : Settings) → settings_of settings ≡ Some v → 1 ≤ n → n ≤ pairs → length s ≡ n * 3072 →
    judged_of settings n s ≡ set_from v [] (pairs_from n v.label s 0)
unfolding judged_of unless
gone_over settings n s v valid some few h = rw (valid, le-leb 1 n some, le-leb n pairs few, eq-eqb (length s) (n * 3072) h)

-- two results that the contract allows are one
pub verdicts_coincide : (settings : List ℕ) (n : ℕ) (s : List ℕ) (x y : Result (PerObjective Verdict) Refusal) → x ≡ judged_of settings n s → y ≡ judged_of settings n s → x ≡ y
verdicts_coincide settings n s x y p q = cc
