-- `labels::stretch::write_labels`: before record `k` both lanes hold what the first `k` marks settle, and at the end the label bytes.
use Rattle.labels.proofs.Writing.{Lanes}
use Rattle.labels.proofs.stretch.write_labels.Given as goal

abbrev pub invariant-loop-k : goal.invariant-loop-k
invariant-loop-k l = Lanes l.l l.r l.k l.t l.part
