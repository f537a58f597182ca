-- What `tracks::sorted` requires gives what it asks of each function that it calls.
use Rattle.tracks.proofs.Fitting.{whole_one, whole_shuts, whole_times, whole_times_2, whole_many}
use Rattle.tracks.proofs.sorted.Goals as goal

pub finish-requires : goal.finish-requires
finish-requires c = rw c.start.ensures (whole_one _ _ _ _ c.requires c.in-One.is)

pub shut-requires : goal.shut-requires
shut-requires c = whole_shuts _ _ _ _ _ _ c.requires c.in-Many.is

pub times-requires : goal.times-requires
times-requires c = rw (c.shut.ensures, c.start-in-Many.ensures) (whole_times _ _ _ _ _ _ c.requires c.in-Many.is)

pub times-requires-in-Many : goal.times-requires-in-Many
times-requires-in-Many c = rw (c.times.ensures, c.shut.ensures, c.start-in-Many.ensures) (whole_times_2 _ _ _ _ _ _ c.requires c.in-Many.is)

pub finish-requires-in-Many : goal.finish-requires-in-Many
finish-requires-in-Many c = rw (c.times-in-Many.ensures, c.times.ensures, c.shut.ensures, c.start-in-Many.ensures) (whole_many _ _ _ _ _ _ c.requires c.in-Many.is)
