-- Two results that the contract of `labels` allows coincide: the answer, and what the buffer holds in the end.
use mathlib.Core.Path.{◌≡◌, sym, ap, ◌∙◌}
use mathlib.Core.List.{List}
use Prim.Native.Nat.{ℕ}
use Rattle.std.specs.Prelude.{Result}
use Rattle.labels.specs.Stretch.{Outcome, outcome, labels_of}
use Rattle.numbers.specs.declared.refusal.Refusal.{Refusal}

pub labels_coincide :
    (s r out : List ℕ) (at : ℕ) {a b : (Result (Unit {0}) Refusal)} {x y : List ℕ} → outcome a x ≡ labels_of s r out at → outcome b y ≡ labels_of s r out at → (a ≡ b) × (x ≡ y)
labels_coincide s r out at p q = (ap (λ (o : Outcome). o.answer) (p ∙ sym q), ap (λ (o : Outcome). o.buffer) (p ∙ sym q))
