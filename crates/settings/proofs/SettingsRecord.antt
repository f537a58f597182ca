-- Each rule of valid settings as a fact, and two label settings that pass as the same are equal.
-- Each fact is its rule of the list, taken out by its place.
-- Assumes nothing.
use mathlib.Core.Path.{◌≡◌, refl, sym, subst, ◌∙◌}
use mathlib.Core.Logic.{◌⊎◌, inl, inr}
use mathlib.Core.Bool.{Bool, true, false, ◌&&◌, ◌||◌, not, and_assoc}
use mathlib.Core.List.{List}
use Prim.Native.Nat.{ℕ, ◌≤◌, ◌<◌}
use lib.ListN.{get_or}
use lib.Dec.{leb, ltb, eqb}
use borrow.Author.Tests.{leb-true, eqb-true, eq-eqb}
use Rattle.std.specs.Prelude.{Some}
use Rattle.numbers.specs.Limits.{largest_delay, million}
use Rattle.numbers.specs.Rules.{all_met}
use Rattle.numbers.proofs.Rules.{rule_met, within_facts, below_facts}
use Rattle.settings.specs.Settings.{label_in, label_rules, label_meets, objectives_in, objective_rules, objectives_meet, settings_rules, settings_of, same_fields, same_label, valid_if}
use Rattle.settings.specs.declared.LabelSettings.{LabelSettings}
use Rattle.settings.specs.declared.Settings.{Settings}

pub record LabelValid (l : LabelSettings) : Type 0 where
  pub length_facts : (100 ≤ l.length) × (l.length ≤ 60000)
  pub n_facts : (1 ≤ l.n) × (l.n ≤ 64)
  pub p_facts : (l.p ≡ 0) ⊎ ((2 ≤ l.p) × (l.p < l.n))
  pub weights_facts : (1 ≤ l.weights) × (l.weights ≤ 7)
  pub c_facts : (1 ≤ l.c) × (l.c < million)
  pub u_facts : (1 ≤ l.u) × (l.u < million)
  pub dl_fact : l.dl ≤ largest_delay
  pub jt_fact : l.jt ≤ largest_delay

-- 0, or from 2 to below n
none_or_some : (p n : ℕ) (z : Bool) → eqb p 0 ≡ z → z || (leb 2 p && ltb p n) ≡ true → (p ≡ 0) ⊎ ((2 ≤ p) × (p < n))
none_or_some p n true e h = inl (eqb-true p 0 e)
none_or_some p n false e h = inr (below_facts 2 n p h)

pub label_valid : (l : LabelSettings) → label_meets l ≡ true → LabelValid l
unfolding label_meets label_rules
label_valid l e =
    record {
      length_facts = within_facts 100 60000 l.length (rule_met (label_rules l) 0 e);
      n_facts = within_facts 1 64 l.n (rule_met (label_rules l) 1 e);
      p_facts = none_or_some l.p l.n (eqb l.p 0) refl (rule_met (label_rules l) 2 e);
      weights_facts = within_facts 1 7 l.weights (rule_met (label_rules l) 3 e);
      c_facts = below_facts 1 million l.c (rule_met (label_rules l) 4 e);
      u_facts = below_facts 1 million l.u (rule_met (label_rules l) 5 e);
      dl_fact = leb-true l.dl largest_delay (rule_met (label_rules l) 6 e);
      jt_fact = leb-true l.jt largest_delay (rule_met (label_rules l) 7 e);
    }

pub record SettingsValid (v : Settings) : Type 0 where
  pub label_facts : LabelValid v.label
  pub availability_fact : v.availability ≤ million
  pub composite_fact : v.composite ≤ million
  pub loss_fact : v.loss ≤ million
  pub mean_fact : v.mean ≤ largest_delay
  pub runs_fact : v.label.p ≡ 0 → v.runs ≡ 0
  pub percentile_facts : (1 ≤ v.percentile) × (v.percentile ≤ million)
  pub delay_fact : v.delay ≤ largest_delay
  pub range_fact : v.range ≤ largest_delay

no_runs : (p r : ℕ) → not (eqb p 0) || eqb r 0 ≡ true → p ≡ 0 → r ≡ 0
no_runs p r h none = let e : eqb p 0 ≡ true = eq-eqb p 0 none in eqb-true r 0 (rw e at h)

objectives_valid : (v : Settings) → label_meets v.label ≡ true → objectives_meet v ≡ true → SettingsValid v
unfolding objectives_meet objective_rules
objectives_valid v l e =
    record {
      label_facts = label_valid v.label l;
      availability_fact = leb-true v.availability million (rule_met (objective_rules v) 0 e);
      composite_fact = leb-true v.composite million (rule_met (objective_rules v) 1 e);
      loss_fact = leb-true v.loss million (rule_met (objective_rules v) 2 e);
      mean_fact = leb-true v.mean largest_delay (rule_met (objective_rules v) 3 e);
      runs_fact = no_runs v.label.p v.runs (rule_met (objective_rules v) 4 e);
      percentile_facts = within_facts 1 million v.percentile (rule_met (objective_rules v) 5 e);
      delay_fact = leb-true v.delay largest_delay (rule_met (objective_rules v) 6 e);
      range_fact = leb-true v.range largest_delay (rule_met (objective_rules v) 7 e);
    }

-- settings that are read are what stands in the bytes, and the bytes meet every rule

taken_out : (t : Bool) (w v : Settings) → valid_if t w ≡ Some v → (t ≡ true) × (w ≡ v)
taken_out true w v e = (refl, (cc))
taken_out false w v e = absurd cc

pub settings_read : (s : List ℕ) (v : Settings) → settings_of s ≡ Some v → (all_met (settings_rules s) ≡ true) × (objectives_in (label_in s) s ≡ v)
unfolding settings_of
settings_read s v e = taken_out (all_met (settings_rules s)) (objectives_in (label_in s) s) v e

pub settings_valid : (s : List ℕ) (v : Settings) → settings_of s ≡ Some v → SettingsValid v
unfolding settings_rules objectives_in
settings_valid s v e =
    let r = settings_read s v e in
    subst (λ w. SettingsValid w) r.1
    (objectives_valid (objectives_in (label_in s) s) (rule_met (settings_rules s) 1 r.0) (rule_met (settings_rules s) 2 r.0))

-- label settings that pass as the same are equal, and equal ones pass

pub same_label_equal : (a b : LabelSettings) → same_label a b ≡ true → a ≡ b
unfolding same_label same_fields
same_label_equal a b e =
    let r : (k : ℕ) → get_or (same_fields a b) k true ≡ true = λ k. rule_met (same_fields a b) k e in
    λ i.
    record {
      length = eqb-true a.length b.length (r 0) i;
      n = eqb-true a.n b.n (r 1) i;
      p = eqb-true a.p b.p (r 2) i;
      weights = eqb-true a.weights b.weights (r 3) i;
      c = eqb-true a.c b.c (r 4) i;
      u = eqb-true a.u b.u (r 5) i;
      dl = eqb-true a.dl b.dl (r 6) i;
      jt = eqb-true a.jt b.jt (r 7) i;
    }

pub same_label_self : (a : LabelSettings) → same_label a a ≡ true
unfolding same_label same_fields
same_label_self a =
    rw (eq-eqb a.length a.length refl, eq-eqb a.n a.n refl, eq-eqb a.p a.p refl, eq-eqb a.weights a.weights refl, eq-eqb a.c a.c refl, eq-eqb a.u a.u refl, eq-eqb a.dl a.dl refl, eq-eqb a.jt a.jt refl)

-- the derived `==` and `!=` say the same, field by field

abbrev pub derived_eq : LabelSettings → LabelSettings → Bool
derived_eq a b =
    eqb a.length b.length
    && (eqb a.n b.n && (eqb a.p b.p && (eqb a.weights b.weights && (eqb a.c b.c && (eqb a.u b.u && (eqb a.dl b.dl && eqb a.jt b.jt))))))

pub derived_same : (a b : LabelSettings) → derived_eq a b ≡ same_label a b
unfolding same_label same_fields
derived_same a b = simp and_assoc

pub told_same : (a b : LabelSettings) (differ : Bool) → differ ≡ not (derived_eq a b) → differ ≡ false → same_label a b ≡ true
told_same a b differ e f = sym (derived_same a b) ∙ not_false (derived_eq a b) (sym e ∙ f)
  where
    not_false : (x : Bool) → not x ≡ false → x ≡ true
    not_false true e = refl
    not_false false e = sym e

pub told_other : (a b : LabelSettings) (differ : Bool) → differ ≡ not (derived_eq a b) → differ ≡ true → same_label a b ≡ false
told_other a b differ e f = sym (derived_same a b) ∙ not_true (derived_eq a b) (sym e ∙ f)
  where
    not_true : (x : Bool) → not x ≡ true → x ≡ false
    not_true true e = sym e
    not_true false e = refl
