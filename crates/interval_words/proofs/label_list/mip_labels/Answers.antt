-- `mip_labels` meets its contract: the place of a refusal of `labels` fits.
use Rattle.interval_words.proofs.Labelled.{place_fits}
use Rattle.interval_words.proofs.label_list.mip_labels.Goals as goal

pub word-requires : goal.word-requires
word-requires c = place_fits _ _ _ _ _ _ c.labels.ensures c.in-Err.is
