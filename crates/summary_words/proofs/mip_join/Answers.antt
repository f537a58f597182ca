-- `mip_join` meets its contract: the place of a refusal of `join` fits.
use Rattle.summary_words.proofs.Summarised.{join_fits}
use Rattle.summary_words.proofs.mip_join.Goals as goal

pub word-requires : goal.word-requires
word-requires c = join_fits _ _ _ _ _ _ c.join.ensures c.in-Err.is
