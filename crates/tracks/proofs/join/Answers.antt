-- What `tracks::join` requires gives what it asks of each function that it calls.
use Rattle.tracks.proofs.Fitting.{join_one, join_first, join_rest}
use Rattle.tracks.proofs.join.Goals as goal

pub push-requires : goal.push-requires
push-requires c = join_one _ _ _ _ _ c.requires c.in-One.is

pub push-requires-in-Many : goal.push-requires-in-Many
push-requires-in-Many c = join_first _ _ _ _ _ _ _ c.requires c.in-Many.is

pub graft-requires : goal.graft-requires
graft-requires c = rw c.push-in-Many.ensures (join_rest _ _ _ _ _ _ _ c.requires c.in-Many.is)
