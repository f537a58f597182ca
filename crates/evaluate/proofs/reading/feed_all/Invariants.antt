-- `evaluate::reading::feed_all` meets its contract: the state stays ready for its tail.
use Rattle.feeding.specs.Feeding.{Ready}
use Rattle.evaluate.proofs.reading.feed_all.Given as goal

abbrev pub invariant-loop : goal.invariant-loop
invariant-loop g l = Ready l.state l.tail
