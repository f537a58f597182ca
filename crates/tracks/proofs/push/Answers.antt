-- What `tracks::push` requires gives what it asks of each function that it calls.
use Rattle.tracks.proofs.Fitting.{push_one, push_glues, push_shuts}
use Rattle.tracks.proofs.push.Goals as goal

pub glue-requires : goal.glue-requires
glue-requires c = push_one _ _ _ _ _ c.requires c.in-One.is

pub middle_with-requires : goal.middle_with-requires
middle_with-requires c = push_shuts _ _ _ _ _ _ _ c.requires c.in-Many.is

pub last_with-requires : goal.last_with-requires
last_with-requires c = push_glues _ _ _ _ _ _ _ c.requires c.in-Many.is
