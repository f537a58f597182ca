-- `periods::between_of` meets its contract: what is in maintenance fits where it did before.
use Rattle.periods.proofs.Fits.{left_fits}
use Rattle.periods.proofs.between_of.Goals as goal

pub join-known-requires : goal.join-known-requires
join-known-requires c =
    let a = c.args in
    rw c.quiet.ensures (left_fits a.by.n a.by.p a.a a.b a.c c.requires)
