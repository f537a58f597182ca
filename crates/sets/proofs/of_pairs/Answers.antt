-- `sets::of_pairs` meets its contract: a pair that is refused, and the end, by the laws of `Going`; and a report that is answered keeps to its bounds.
use mathlib.Core.Path.{sym, ◌∙◌}
use native.Mathlib.Omega.{arith}
use Rattle.numbers.proofs.Refused.{passed_on}
use Rattle.settings.proofs.SettingsRecord.{settings_valid}
use Rattle.verdicts.proofs.Fitting.{judgeable}
use Rattle.periods.specs.Stretches.{label_of}
use Rattle.reports.proofs.Judging.{answer_found, found_bounded}
use Rattle.sets.proofs.Going.{going_refused, going_done}
use Rattle.sets.proofs.of_pairs.Goals as goal

pub returns-in_err-p : goal.returns-in_err-p
returns-in_err-p c =
    let a = c.args in
    let o = c.loop-k in
    passed_on c.from_residual.result _ c.from_residual.ensures
    ∙ sym (going_refused a.v a.s.now a.n o.k o.all o.invariant c.in_err-p.field-0.0 (omega arith) (sym c.three_at.ensures ∙ c.in_err-p.was))

pub verdicts_of-one-requires : goal.verdicts_of-one-requires
verdicts_of-one-requires c =
    let p = c.in_ok-p.p in
    let f = answer_found _ _ _ p (sym c.three_at.ensures ∙ c.in_ok-p.was) in
    judgeable c.args.v (label_of f.b).p p (settings_valid c.requires.bytes c.args.v c.requires.read) (found_bounded p f)

pub returns : goal.returns
returns c =
    let a = c.args in
    let o = c.loop-k in
    sym (going_done a.v a.s.now a.n o.k o.all o.invariant (omega arith))
