-- What `tracks::graft` requires gives what it asks of each function that it calls.
use Rattle.tracks.proofs.Fitting.{graft_shuts, graft_times, graft_times_2}
use Rattle.tracks.proofs.graft.Goals as goal

pub shut-requires : goal.shut-requires
shut-requires c = graft_shuts _ _ _ _ _ _ _ c.requires c.in-Many.is

pub times-requires : goal.times-requires
times-requires c = rw c.shut.ensures (graft_times _ _ _ _ _ _ _ c.requires c.in-Many.is)

pub times-requires-in-Many : goal.times-requires-in-Many
times-requires-in-Many c = rw (c.times.ensures, c.shut.ensures) (graft_times_2 _ _ _ _ _ _ _ c.requires c.in-Many.is)
