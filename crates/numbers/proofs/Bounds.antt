-- What proofs use of the limits: each fits its field, and a sum of delays fits 64 bits.
-- Each is one computation on the numbers.
-- Assumes nothing.
use Prim.Native.Nat.{◌*◌, ◌^◌, ◌<◌}
use native.Mathlib.Omega.{arith}
use Rattle.numbers.specs.Limits.{intervals, frames, largest_delay, million}

pub intervals_fit : intervals < 2 ^ 32
unfolding intervals
intervals_fit = omega arith

pub frames_fit : frames < 2 ^ 32
unfolding frames
frames_fit = omega arith

pub largest_delay_fits : largest_delay < 2 ^ 32
unfolding largest_delay
largest_delay_fits = omega arith

pub million_fits : million < 2 ^ 32
unfolding million
million_fits = omega arith

-- a sum of delays of one interval
pub interval_sum_fits : largest_delay * frames < 2 ^ 64
unfolding largest_delay frames
interval_sum_fits = omega arith

-- a delay for each frame of a whole circuit: a sum of delays, and what a mean is held against
pub circuit_sum_fits : largest_delay * (intervals * frames) < 2 ^ 64
unfolding intervals frames largest_delay
circuit_sum_fits = omega arith
