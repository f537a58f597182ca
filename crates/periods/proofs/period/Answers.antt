-- `periods::period` meets its contract: three known stretches fit together.
use Rattle.periods.proofs.Fits.{known_three, loss_fits, composite_fits, count_fits, count_small}
use Rattle.periods.proofs.period.Goals as goal

pub overflow_sub-length : goal.overflow_sub-length
overflow_sub-length c =
    let a = c.args in
    (known_three a.left a.middle a.right c.requires).middle.ordered

pub between_of-loss-requires : goal.between_of-loss-requires
between_of-loss-requires c =
    let a = c.args in
    loss_fits a.left a.middle a.right (known_three a.left a.middle a.right c.requires)

pub between_of-composite-requires : goal.between_of-composite-requires
between_of-composite-requires c =
    let a = c.args in
    composite_fits a.left a.middle a.right (known_three a.left a.middle a.right c.requires)

pub count_in-requires : goal.count_in-requires
count_in-requires c =
    let a = c.args in
    count_small a.left a.middle a.right (known_three a.left a.middle a.right c.requires)

pub overflow_sub-result : goal.overflow_sub-result
overflow_sub-result c =
    let a = c.args in
    rw c.count_in.ensures (count_fits a.left a.middle a.right (known_three a.left a.middle a.right c.requires))
