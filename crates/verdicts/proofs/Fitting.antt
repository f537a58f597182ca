-- Every report that can come out, judged by valid settings, keeps the sums and products in 64 bits, its undecided intervals taken either way: what is counted, settled and
-- undecided together, is at most the period.
-- Assumes nothing.
use mathlib.Core.Path.{refl}
use mathlib.Core.Bool.{true, false}
use Prim.Native.Nat.{ℕ, zero, suc, ◌-◌, ◌*◌, ◌≤◌}
use native.Mathlib.Omega.{arith}
use native.Mathlib.Nat.{mul-le-mul}
use Rattle.numbers.specs.Limits.{intervals, frames, largest_delay}
use Rattle.settings.specs.declared.Settings.{Settings}
use Rattle.settings.proofs.SettingsRecord.{SettingsValid}
use Rattle.tallies.specs.declared.Period.{Period}
use Rattle.tallies.specs.declared.Totals.{Totals}
use Rattle.tallies.specs.Bounds.{Bounded, PeriodBounded}
use Rattle.verdicts.specs.Verdicts.{taken_as, Fits, Judgeable}

-- no more runs than high intervals
pub runs_few : (p : ℕ) (t : Totals) → Bounded p t → t.runs ≤ t.high
runs_few zero t b = omega (arith, b.unasked refl)
runs_few (suc p) t b = omega (arith, b.runs)

-- each frame counts with the largest delay at most
pub sum_few : (p : ℕ) (t : Totals) → Bounded p t → t.sum ≤ largest_delay * t.sent
sum_few p t b =
    let fewer : t.sent - t.lost ≤ t.sent = omega arith in
    omega (arith, b.to, mul-le-mul b.within fewer)

module _ (p : ℕ) (r : Period) (b : PeriodBounded p r) where
  fits_available : Fits (taken_as false r)
  unfolding taken_as intervals frames largest_delay
  fits_available =
      let t = b.loss.available in
      let u = b.loss.undecided in
      record {
        counted = omega (arith, b.long, b.loss.counted);
        composite_counted = omega (arith, b.long, b.counted);
        high = omega (arith, b.long, b.loss.counted, t.high, u.high);
        runs = omega (arith, b.long, b.loss.counted, t.high, u.high, runs_few p _ t, runs_few p _ u);
        sent = omega (arith, b.long, b.loss.counted, t.few, u.few);
        lost = omega (arith, t.lost_of_sent, u.lost_of_sent);
        sum = omega (arith, b.long, b.loss.counted, t.few, u.few, sum_few p _ t, sum_few p _ u);
      }

  fits_unavailable : Fits (taken_as true r)
  unfolding taken_as intervals frames largest_delay
  fits_unavailable =
      let t = b.loss.available in
      record {
        counted = omega (arith, b.long, b.loss.counted);
        composite_counted = omega (arith, b.long, b.counted);
        high = omega (arith, b.long, b.loss.counted, t.high);
        runs = omega (arith, b.long, b.loss.counted, t.high, runs_few p _ t);
        sent = omega (arith, b.long, b.loss.counted, t.few);
        lost = t.lost_of_sent;
        sum = omega (arith, b.long, b.loss.counted, t.few, sum_few p _ t);
      }

pub judgeable : (v : Settings) (p : ℕ) (r : Period) → SettingsValid v → PeriodBounded p r → Judgeable v r
judgeable v p r s b =
    record {
      objectives = record { loss = s.loss_fact; mean = s.mean_fact };
      available = fits_available p r b;
      unavailable = fits_unavailable p r b;
    }
