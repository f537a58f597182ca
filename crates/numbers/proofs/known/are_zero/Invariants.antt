-- `numbers::known::are_zero`: so far it is the answer for the bytes passed.
use Rattle.std.proofs.Common.{◌≡◌}
use Rattle.numbers.specs.Bytes.{are_zero}
use Rattle.numbers.proofs.known.are_zero.Given as goal

abbrev pub invariant-loop-b : goal.invariant-loop-b
invariant-loop-b l = l.all ≡ are_zero l.b-index l.s l.i
