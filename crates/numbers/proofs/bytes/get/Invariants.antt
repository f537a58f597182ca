-- `numbers::bytes::get`: what is filled so far are the bytes from `i` on.
use Rattle.std.proofs.Common.{◌≡◌, take, length}
use Rattle.numbers.specs.Bytes.{part}
use Rattle.numbers.proofs.bytes.get.Given as goal

abbrev pub invariant-loop-k : goal.invariant-loop-k
invariant-loop-k g l = (length l.x-items ≡ l.k-end) × (take l.k l.x-items ≡ part l.k l.s l.i)
