-- Two results that the contract of an operation allows coincide: each contract is an equation with a definition.
use mathlib.Core.Path.{◌≡◌, sym, ap, ◌∙◌}
use mathlib.Core.List.{List}
use Prim.Native.Nat.{ℕ}
use Rattle.std.specs.Prelude.{Result}
use Rattle.evaluator.specs.Evaluators.{start_of, step_of, moved_to, moved_of}
use Rattle.evaluator.specs.declared.Evaluator.{Evaluator}
use Rattle.evaluator.specs.Evaluators.{Moved}
use Rattle.numbers.specs.declared.refusal.Refusal.{Refusal}
use Rattle.rule.specs.declared.Both.{Both}
use Rattle.evaluator.specs.declared.Settled.{Settled}

pub start_coincide : (s : List ℕ) {a b : (Result Evaluator Refusal)} → a ≡ start_of s → b ≡ start_of s → a ≡ b
start_coincide s p q = p ∙ sym q

pub step_coincide : (e : Evaluator) (r : List ℕ) {a b : (Result (Evaluator × Both Settled) Refusal)} → a ≡ step_of e r → b ≡ step_of e r → a ≡ b
step_coincide e r p q = p ∙ sym q

-- the evaluator that is left, and the answer
pub step_in_coincide : (e : Evaluator) (r : List ℕ) {x y : Evaluator} {a b : (Result (Both Settled) Refusal)} → moved_to x a ≡ moved_of e r → moved_to y b ≡ moved_of e r → (x ≡ y) × (a ≡ b)
step_in_coincide e r p q = (ap (λ (m : Moved). m.evaluator) (p ∙ sym q), ap (λ (m : Moved). m.told) (p ∙ sym q))
