-- A delay for each of a number of frames fits 64 bits, both no more than there can be.
-- Assumes nothing.
use Prim.Native.Nat.{ℕ, ◌*◌, ◌^◌, ◌≤◌, ◌<◌}
use native.Mathlib.Nat.{mul-le-mul}
use native.Mathlib.Omega.{arith}
use Rattle.numbers.specs.Limits.{intervals, frames, largest_delay}
use Rattle.numbers.proofs.Bounds.{circuit_sum_fits}

pub delays_fit : (a b : ℕ) → a ≤ largest_delay → b ≤ intervals * frames → a * b < 2 ^ 64
delays_fit a b p q = omega (arith, mul-le-mul p q, circuit_sum_fits)
