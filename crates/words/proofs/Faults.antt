-- A fault's number is one digit, so a refusal fits its word.
use Prim.Native.Nat.{◌≤◌}
use native.Mathlib.Omega.{arith}
use Rattle.numbers.specs.Refusals.{number_of}
use Rattle.numbers.specs.declared.refusal.Fault.{Fault}

pub number_most : (f : Fault) → number_of f ≤ 9
number_most Fault.Settings = omega arith
number_most Fault.Length = omega arith
number_most Fault.Room = omega arith
number_most Fault.Full = omega arith
number_most Fault.Field = omega arith
number_most Fault.Outside = omega arith
number_most Fault.Order = omega arith
number_most Fault.Mismatch = omega arith
number_most Fault.Pairs = omega arith
