-- The rank that Pr asks for among N delays: Pr × N over 1,000,000, rounded up. It is from 1 to N.
use Prim.Native.Nat.{ℕ, ◌+◌, ◌*◌, ◌/◌, ◌^◌, ◌<◌, ◌≤◌}
use native.Mathlib.Nat.{mul-le-mul_right}
use native.Mathlib.Omega.{arith}
use Rattle.numbers.specs.Limits.{delays, million}
use Rattle.delays.specs.Outcome.{Rank}

product_most : (pr n : ℕ) → pr ≤ million → pr * n ≤ million * n
product_most pr n h = mul-le-mul_right n h

pub rank_meets : (pr n : ℕ) → 1 ≤ pr → pr ≤ million → 0 < n → Rank pr n ((pr * n + 999999) / 1000000)
unfolding million
rank_meets pr n least most h =
    let p : 1 * n ≤ pr * n = mul-le-mul_right n least in
    let q : pr * n ≤ million * n = product_most pr n most in
    record { positive = omega arith; within = omega arith; enough = omega arith; first = omega arith }

pub product_fits : (pr n : ℕ) → pr ≤ million → n ≤ delays → pr * n + 999999 < 2 ^ 63
unfolding million delays
product_fits pr n most h = omega (arith, product_most pr n most)
