-- `choose` meets its contract: it asks the sample only for ranks that it has, and for a lower one first.
use Rattle.std.proofs.Common.{◌*◌, ◌/◌, length, sym, subst, inl, inr, arith}
use Rattle.percentile.proofs.Sample.{chosen_ranked, chosen_end}
use Rattle.percentile.specs.Ranks.{Ranked}
use Rattle.percentile.proofs.few.choose.Goals as goal
use Rattle.percentile.proofs.few.choose.Goals.{then-at-gt-MARGIN, else-at-gt-MARGIN}

pub returns-then-at : goal.returns-then-at
returns-then-at c =
    chosen_ranked _ _ c.sample.ensures (c.args.k * 16384 / length c.args.list.now) _ _ _
    (elim c.if-at-gt-MARGIN.branch [
      | then-at-gt-MARGIN w ↦ inr (_, omega arith, subst (λ z. Ranked _ _ z) (sym w.lo-is) w.search-lo.ensures)
      | else-at-gt-MARGIN w ↦ inl w.lo-is
    ])
    (omega arith)
    c.search-hi.ensures

pub returns-else-at : goal.returns-else-at
returns-else-at c =
    chosen_end _ _ c.sample.ensures (c.args.k * 16384 / length c.args.list.now) _
    (elim c.if-at-gt-MARGIN.branch [
      | then-at-gt-MARGIN w ↦ inr (_, omega arith, subst (λ z. Ranked _ _ z) (sym w.lo-is) w.search-lo.ensures)
      | else-at-gt-MARGIN w ↦ inl w.lo-is
    ])
    (elim c.if-at-gt-MARGIN.branch [
      | then-at-gt-MARGIN w ↦ omega arith
      | else-at-gt-MARGIN w ↦ omega arith
    ])
