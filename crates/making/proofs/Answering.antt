-- What the operation `summary` answers and leaves is settled by what it is given.
-- Assumes nothing.
use mathlib.Core.Path.{◌≡◌, sym, ◌∙◌}
use mathlib.Core.List.{List}
use Prim.Native.Nat.{ℕ}
use Rattle.std.specs.Prelude.{Result}
use Rattle.numbers.specs.declared.refusal.Refusal.{Refusal}
use Rattle.numbers.proofs.Window.{room_within}
use Rattle.labels.proofs.Placing.{read_label}
use Rattle.summaries.proofs.Placing.{part_filled, size_summary}
use Rattle.making.specs.Making.{Outcome}

-- two results that the contract allows are one
pub outcomes_coincide :
    {settings : List ℕ} {first : ℕ} {s out : List ℕ} {at : ℕ} {a b : (Result (Unit {0}) Refusal)} {x y : List ℕ} →
    Outcome settings first s out at a x → Outcome settings first s out at b y → (a ≡ b) × (x ≡ y)
outcomes_coincide p q = (p.answered ∙ sym q.answered, p.left ∙ sym q.left)

-- what the steps of `summary` rest on: settings that are valid, room that is there, and a part that is filled whole
pub ruleset steps = (read_label, room_within, part_filled, size_summary)
