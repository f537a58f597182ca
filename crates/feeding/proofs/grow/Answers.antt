-- `feeding::grow` meets its contract: a valid summary and that of sound records behind it adjoin.
use mathlib.Core.Path.{ap, sym, ◌∙◌}
use Rattle.summaries.proofs.Validity.{summary_valid}
use Rattle.feeding.specs.declared.Held.{Held}
use Rattle.feeding.proofs.Waiting.{grown_good}
use Rattle.feeding.proofs.grow.Goals as goal

pub gather-requires : goal.gather-requires
gather-requires c = let k = c.requires in let w = summary_valid k.bytes c.args.v k.read in (w.settings, w.within)

pub both-requires : goal.both-requires
both-requires c = let a = c.args in
    (grown_good a.v a.s.now c.in-Ok.x c.requires (sym c.gather.ensures ∙ c.in-Ok.is)).0

pub returns-in-Ok : goal.returns-in-Ok
returns-in-Ok c = let a = c.args in
    ap Held.Sound c.both.ensures
    ∙ sym (grown_good a.v a.s.now c.in-Ok.x c.requires (sym c.gather.ensures ∙ c.in-Ok.is)).1
