-- `reports::judge` meets its contract: three that are read, of equal label settings, each right behind the one before, are known.
use mathlib.Core.Path.{sym, ◌∙◌}
use Rattle.reports.proofs.Judging.{known_by}
use Rattle.reports.proofs.judge.Goals as goal

pub period-requires : goal.period-requires
period-requires c =
    known_by c.args.a c.args.b c.args.c c.requires.1 (sym c.alike.ensures ∙ c.if-not-alike.false) (sym c.alike-2.ensures ∙ c.if-not-alike-2.false) (sym c.adjoining.ensures ∙ c.if-not-adjoining.false) (sym c.adjoining-2.ensures ∙ c.if-not-adjoining-2.false)
