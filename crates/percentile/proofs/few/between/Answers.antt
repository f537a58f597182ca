-- `between` searches what `gather` has collected, which is what lies between the pivots.
use Rattle.std.proofs.Common.{arith}
use Rattle.percentile.proofs.Between.{collected_length, collected_asked}
use Rattle.percentile.proofs.few.between.Goals as goal

pub slice_bounds-search-end : goal.slice_bounds-search-end
slice_bounds-search-end c = collected_length _ _ _ _ c.gather-n.ensures

pub search-requires : goal.search-requires
search-requires c =
    let given = c.requires in
    collected_asked _ _ _ _ _ c.gather-n.ensures given.0 given.1 (omega (arith, given.2))

pub returns : goal.returns
returns c = rw c.gather-n.ensures.content at c.search.ensures
