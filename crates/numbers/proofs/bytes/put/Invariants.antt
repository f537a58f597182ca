-- `numbers::bytes::put`: the bytes passed are put.
use Rattle.std.proofs.Common.{◌≡◌, take}
use Rattle.std.proofs.lemmas.List.Edits.{sets}
use Rattle.numbers.proofs.bytes.put.Given as goal

abbrev pub invariant-loop-k : goal.invariant-loop-k
invariant-loop-k g l = l.out ≡ sets l.initial.out l.i (take l.k l.x-items)
