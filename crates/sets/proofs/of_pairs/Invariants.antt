-- `sets::of_pairs` meets its contract. The loop's invariant: the whole outcome is what the pairs from k on give after those passed.
use Rattle.sets.proofs.Going.{Going}
use Rattle.sets.proofs.of_pairs.Given as goal

abbrev pub invariant-loop-k : goal.invariant-loop-k
invariant-loop-k l = Going l.v l.s l.n l.k l.all
