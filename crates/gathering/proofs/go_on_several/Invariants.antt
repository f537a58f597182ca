-- What stands at each turn of `gathering::go_on_several`: both tracks, whose first runs stay, and the segment behind them.
use Rattle.tracks.specs.declared.Track.TheVariants.{Many}
use Rattle.gathering.proofs.Segments.{Going, of_rest}
use Rattle.gathering.proofs.go_on_several.Given as goal

abbrev pub invariant-loop-k : goal.invariant-loop-k
invariant-loop-k l =
    Going l.l l.s l.n l.first (of_rest l.l l.s l.n l.first (Many l.loss_first l.initial.loss l.initial.loss_last) (Many l.composite_first l.initial.composite l.initial.composite_last) l.initial.segment l.initial.high l.initial.due l.initial.k)
    (Many l.loss_first l.loss l.loss_last) (Many l.composite_first l.composite l.composite_last) l.segment l.high l.due l.k
