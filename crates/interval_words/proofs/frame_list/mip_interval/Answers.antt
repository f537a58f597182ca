-- `mip_interval` meets its contract: the place of a refusal of `interval` fits.
use Rattle.interval_words.proofs.Measured.{place_fits}
use Rattle.interval_words.proofs.frame_list.mip_interval.Goals as goal

pub word-requires : goal.word-requires
word-requires c = place_fits _ _ _ _ _ _ _ _ c.interval.ensures c.in-Err.is
