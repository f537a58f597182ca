-- What stands at each turn of `gathering::go_on`: both tracks as gathered so far, and the segment behind them.
use Rattle.gathering.proofs.Segments.{Going, of_first}
use Rattle.gathering.proofs.go_on.Given as goal

abbrev pub invariant-loop-k : goal.invariant-loop-k
invariant-loop-k l =
    Going l.l l.s l.n l.first (of_first l.l l.s l.n l.first l.initial.segment l.initial.high) l.loss l.composite l.segment l.high l.next l.k
