-- `mip_summary` meets its contract: the place of a refusal of `summary` fits.
use Rattle.summary_words.proofs.Summarised.{summary_fits}
use Rattle.summary_words.proofs.mip_summary.Goals as goal

pub word-requires : goal.word-requires
word-requires c = summary_fits _ _ _ _ _ _ _ c.summary.ensures c.in-Err.is
