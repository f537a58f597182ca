-- `evaluator::step`: a valid evaluator is fed its next interval. The number fed is below 3,000,000, since it is the number of a valid record.
use mathlib.Core.Path.{sym, ◌∙◌}
use Rattle.numbers.proofs.Refused.{found}
use Rattle.evaluator.proofs.Words.{feedable}
use Rattle.evaluator.proofs.step.Goals as goal

pub feed-requires : goal.feed-requires
feed-requires c =
    let held = found c.held_in.result _ c.ok_or.result _ c.ok_or.ensures.value c.in_ok-h.was in
    let read = c.in-Some.is in
    feedable c.args.e c.in_ok-h.h _ c.in-Some.v (sym c.held_in.ensures ∙ held) (sym c.read.ensures ∙ read) c.if-v-e.false
