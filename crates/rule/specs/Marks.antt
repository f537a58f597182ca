-- The two marks of an interval: is its loss high, and is its composite indicator D high. All by exact products, with no quotient.
use Rattle.std.specs.Prelude.{Bool, cond, ◌&&◌, ◌||◌, ℕ, ◌+◌, ◌-◌, ◌*◌, ◌/◌, ◌%◌, ◌<◌, ltb, eqb}
use Rattle.rule.specs.declared.Counts.{Counts}
use Rattle.rule.specs.declared.Fraction.{Fraction}

-- a fraction above another one: by their cross products
unfoldable pub above : Fraction → Fraction → Bool
above x y = ltb (y.top * x.bottom) (x.top * y.bottom)

-- the same as a statement: both are fractions, their denominators not 0, and the first is greater
pub record Greater (x y : Fraction) : Type 0 where
  pub whole : 0 < x.bottom
  pub other : 0 < y.bottom
  pub greater : y.top * x.bottom < x.top * y.bottom

-- Loss: the ratio lost/sent, 0 when nothing is sent. High when lost × den > num × sent
unfoldable pub loss_ratio : Counts → Fraction
loss_ratio x = cond (eqb x.sent 0) (record { top = 0; bottom = 1 }) (record { top = x.lost; bottom = x.sent })

unfoldable pub high_loss : ℕ → ℕ → Counts → Bool
high_loss num den x = ltb (num * x.sent) (x.lost * den)

abbrev pub delivered : Counts → ℕ
delivered x = x.sent - x.lost

-- three counts under the weights: bit 1 for loss, 2 for delay, 4 for variation, each weight 0 or 1
unfoldable pub weighed : ℕ → ℕ → ℕ → ℕ → ℕ
weighed w loss delay variation = loss * (w % 2) + delay * (w / 2 % 2) + variation * (w / 4 % 2)

-- D is 1 when the loss weight is 0 and nothing was delivered, or when loss and delay weights are both 0 and pairs is 0
unfoldable pub nothing_weighed : ℕ → Counts → Bool
nothing_weighed w x = eqb (w % 2) 0 && eqb (delivered x) 0 || eqb (w % 2) 0 && eqb (w / 2 % 2) 0 && eqb x.pairs 0

-- D: 0 when nothing is sent; else 1 in these two cases; else failures over characteristics
unfoldable pub indicator : ℕ → Counts → Fraction
indicator w x =
    cond (eqb x.sent 0) (record { top = 0; bottom = 1 })
    (cond (nothing_weighed w x) (record { top = 1; bottom = 1 })
    (record { top = weighed w x.lost x.late x.jumpy; bottom = weighed w x.sent (delivered x) x.pairs }))

-- high when D > U, with U = num/den
unfoldable pub high_composite : ℕ → ℕ → ℕ → Counts → Bool
high_composite w num den x = above (indicator w x) (record { top = num; bottom = den })
