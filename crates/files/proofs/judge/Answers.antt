-- `files::judge` meets its contract: the report keeps the verdicts' products in 64 bits.
use Rattle.files.proofs.Between.{alone_judgeable}
use Rattle.files.proofs.judge.Goals as goal

pub verdicts_of-requires : goal.verdicts_of-requires
verdicts_of-requires c = rw c.alone-period.ensures (alone_judgeable c.args.s c.args.v c.requires)
