-- `labels::stretch::fill`: what is left to set from `j` on gives the same as setting all.
use borrow.Author.Rules.{rules}
use mathlib.Core.Path.{◌∙◌}
use lib.ListN.{length-set}
use Rattle.labels.proofs.Strides.{strided_next}
use Rattle.labels.proofs.stretch.fill.Goals as goal

pub loop-j-preserved : goal.loop-j-preserved
loop-j-preserved c =
    let a = c.args in
    record {
      long = rw length-set c.loop-j.invariant.long;
      left = c.loop-j.invariant.left ∙ strided_next c.loop-j.part a.from a.count a.x c.loop-j.j (search rules);
    }
