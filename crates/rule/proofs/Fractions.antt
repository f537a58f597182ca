-- The marks as statements on fractions: the denominator of D is never 0 under valid weights, and an interval is high exactly when its
-- ratio, or its D, is a fraction greater than the threshold. Which of the fractions of one value is taken makes no difference.
use mathlib.Core.Path.{◌≡◌, refl, sym, ap, ◌∙◌}
use mathlib.Core.Logic.{◌↔◌}
use mathlib.Core.Bool.{Bool, true, false, ◌||◌, false≢true}
use Prim.Native.Nat.{ℕ, zero, suc, ◌*◌, ◌≤◌, ◌<◌}
use native.Mathlib.Omega.{arith}
use native.Mathlib.Nat.{zero-mul, mul-lt-mul_of_pos_right, lt_of_mul-lt-mul_right}
use native.Mathlib.Decide.{dec_lt}
use lib.Dec.{eqb}
use borrow.Author.Tests.{ltb-true, lt-ltb, le-ltb, eqb-true, eqb-false}
use Rattle.rule.specs.declared.Counts.{Counts}
use Rattle.rule.specs.declared.Fraction.{Fraction}
use Rattle.rule.specs.Marks.{above, Greater, loss_ratio, high_loss, delivered, weighed, nothing_weighed, indicator, high_composite}

abbrev ratio : ℕ → ℕ → Fraction
ratio a b = record { top = a; bottom = b }

-- the test by cross products is the statement, for fractions
pub above_greater : (x y : Fraction) → 0 < x.bottom → 0 < y.bottom → (above x y ≡ true) ↔ Greater x y
unfolding above
above_greater x y p q = (λ e. record { whole = p; other = q; greater = ltb-true _ _ e }, λ g. lt-ltb _ _ g.greater)

-- two fractions of one value are above the same fractions
pub above_value : (x z y : Fraction) → 0 < x.bottom → 0 < z.bottom → x.top * z.bottom ≡ z.top * x.bottom → above x y ≡ above z y
unfolding above
above_value x z y p q e =
    elim (dec_lt (y.top * x.bottom) (x.top * y.bottom)) [
      | yes h ↦ lt-ltb _ _ h ∙ sym (lt-ltb _ _ (over x z p q e h))
      | no h ↦
          elim (dec_lt (y.top * z.bottom) (z.top * y.bottom)) [
            | yes g ↦ absurd (h (over z x q p (sym e) g))
            | no g ↦
                let h' : x.top * y.bottom ≤ y.top * x.bottom = omega arith in
                let g' : z.top * y.bottom ≤ y.top * z.bottom = omega arith in
                le-ltb _ _ h' ∙ sym (le-ltb _ _ g')
          ]
    ]
  where
    over : (a b : Fraction) → 0 < a.bottom → 0 < b.bottom → a.top * b.bottom ≡ b.top * a.bottom → y.top * a.bottom < a.top * y.bottom → y.top * b.bottom < b.top * y.bottom
    over a b r s e h =
        let wide : y.top * a.bottom * b.bottom < a.top * y.bottom * b.bottom = mul-lt-mul_of_pos_right h s in
        let same : a.top * b.bottom * y.bottom ≡ b.top * a.bottom * y.bottom = ap (λ (v : ℕ). v * y.bottom) e in
        let narrow : y.top * b.bottom * a.bottom < b.top * y.bottom * a.bottom = omega arith in
        lt_of_mul-lt-mul_right _ narrow

neither : (a b : Bool) → (a || b) ≡ false → (a ≡ false) × (b ≡ false)
neither false b e = (refl, e)
neither true b e = absurd (false≢true (sym e))

-- under weights 1 to 7 some count that is weighed is not 0, but where D has a case of its own
weighed_some : (w : ℕ) (x : Counts) → 1 ≤ w → w ≤ 7 → (x.sent ≡ 0 → ⊥) → nothing_weighed w x ≡ false → 0 < weighed w x.sent (delivered x) x.pairs
unfolding weighed nothing_weighed
weighed_some zero x p q s e = absurd (omega arith)
weighed_some (suc zero) x p q s e = omega arith
weighed_some (suc (suc zero)) x p q s e = omega (arith, eqb-false (delivered x) 0 (neither (eqb (delivered x) 0) false e).0)
weighed_some (suc (suc (suc zero))) x p q s e = omega arith
weighed_some (suc (suc (suc (suc zero)))) x p q s e = omega (arith, eqb-false x.pairs 0 (neither (eqb (delivered x) 0) (eqb x.pairs 0) e).1)
weighed_some (suc (suc (suc (suc (suc zero))))) x p q s e = omega arith
weighed_some (suc (suc (suc (suc (suc (suc zero)))))) x p q s e = omega (arith, eqb-false (delivered x) 0 (neither (eqb (delivered x) 0) false e).0)
weighed_some (suc (suc (suc (suc (suc (suc (suc zero))))))) x p q s e = omega arith
weighed_some (suc (suc (suc (suc (suc (suc (suc (suc w)))))))) x p q s e = absurd (omega arith)

-- the denominator of D is not 0
pub indicator_whole : (w : ℕ) (x : Counts) → 1 ≤ w → w ≤ 7 → 0 < (indicator w x).bottom
unfolding indicator
indicator_whole w x p q = by (eqb x.sent 0) (nothing_weighed w x) refl refl
  where
    by : (a b : Bool) → eqb x.sent 0 ≡ a → nothing_weighed w x ≡ b → 0 < (indicator w x).bottom
    by true b e f = rw e (omega arith)
    by false true e f = rw (e, f) (omega arith)
    by false false e f = rw (e, f) (weighed_some w x p q (eqb-false _ _ e) f)

-- an interval is high on the composite track exactly when D > U
pub composite_greater : (w num den : ℕ) (x : Counts) → 1 ≤ w → w ≤ 7 → 0 < den → (high_composite w num den x ≡ true) ↔ Greater (indicator w x) (ratio num den)
unfolding high_composite
composite_greater w num den x p q d = above_greater (indicator w x) (ratio num den) (indicator_whole w x p q) d

-- the loss ratio is a fraction
pub loss_whole : (x : Counts) → 0 < (loss_ratio x).bottom
unfolding loss_ratio
loss_whole x = by (eqb x.sent 0) refl
  where
    by : (a : Bool) → eqb x.sent 0 ≡ a → 0 < (loss_ratio x).bottom
    by true e = rw e (omega arith)
    by false e = let some : x.sent ≡ 0 → ⊥ = eqb-false _ _ e in rw e (omega arith)

-- the test on products is that of the ratio, also where nothing is sent
pub loss_above : (num den : ℕ) (x : Counts) → x.lost ≤ x.sent → high_loss num den x ≡ above (loss_ratio x) (ratio num den)
unfolding high_loss above loss_ratio
loss_above num den x h = by (eqb x.sent 0) refl
  where
    by : (a : Bool) → eqb x.sent 0 ≡ a → high_loss num den x ≡ above (loss_ratio x) (ratio num den)
    by true e =
        let none : x.sent ≡ 0 = eqb-true _ _ e in
        let lost : x.lost ≡ 0 = omega arith in
        let low : x.lost * den ≤ num * x.sent = rw (lost, zero-mul) (omega arith) in
        let ground : 0 * den ≤ num * 1 = rw zero-mul (omega arith) in
        rw e (le-ltb _ _ low ∙ sym (le-ltb _ _ ground))
    by false e = rw e

-- an interval is high on the loss track exactly when its ratio > C
pub loss_greater : (num den : ℕ) (x : Counts) → x.lost ≤ x.sent → 0 < den → (high_loss num den x ≡ true) ↔ Greater (loss_ratio x) (ratio num den)
loss_greater num den x h d = rw (loss_above num den x h) (above_greater (loss_ratio x) (ratio num den) (loss_whole x) d)
