-- `files::alone` meets its contract: an empty summary stands on either side.
use Rattle.files.proofs.Between.{three_known}
use Rattle.files.proofs.alone.Goals as goal

pub period-requires : goal.period-requires
period-requires c = rw (c.nothing_at-before.ensures, c.nothing_at-behind.ensures) (three_known c.args.v c.requires)
