-- What `tracks::finish` requires gives what it asks of each function that it calls.
use Rattle.tracks.proofs.Fitting.{finish_shuts, finish_times}
use Rattle.tracks.proofs.finish.Goals as goal

pub shut-requires : goal.shut-requires
shut-requires c = finish_shuts _ _ _ c.requires

pub times-all-requires : goal.times-all-requires
times-all-requires c = rw c.shut.ensures (finish_times _ _ _ _ c.requires)

pub figures_of-requires : goal.figures_of-requires
figures_of-requires c = finish_shuts _ _ _ c.requires
