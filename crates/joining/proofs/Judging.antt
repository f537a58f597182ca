-- Two adjoining summaries fit together; and what `join` answers and leaves is settled by what it is given.
-- Assumes nothing.
use mathlib.Core.Path.{◌≡◌, sym, ◌∙◌, subst}
use mathlib.Core.List.{List}
use Prim.Native.Nat.{ℕ, ◌-◌}
use native.Mathlib.Omega.{arith}
use Rattle.std.specs.Prelude.{Result}
use Rattle.settings.specs.declared.LabelSettings.{LabelSettings}
use Rattle.tracks.specs.Valid.{JoinFits, TrackValid}
use Rattle.tracks.specs.declared.Track.{Track}
use Rattle.summaries.specs.declared.Summary.{Summary}
use Rattle.numbers.proofs.Window.{room_within}
use Rattle.settings.proofs.SettingsRecord.{same_label_equal, told_same, told_other}
use Rattle.summaries.proofs.Placing.{part_filled, size_summary}
use Rattle.summaries.proofs.Validity.{SummaryValid, summary_valid}
use Rattle.joining.specs.Joining.{Adjoining, Outcome}
use Rattle.numbers.specs.declared.refusal.Refusal.{Refusal}

-- the tracks of two adjoining summaries fit together

fits_by :
    (a b : Summary) → SummaryValid a → SummaryValid b → a.after ≡ b.first → (l : LabelSettings) (x y : Track) →
    TrackValid l.n l.p (a.after - a.first) x → TrackValid l.n l.p (b.after - b.first) y → JoinFits l.n l.p x y
fits_by a b va vb e l x y left right =
    record {
      i = a.after - a.first;
      j = b.after - b.first;
      left = left;
      right = right;
      room = omega (arith, va.ordered, vb.ordered, vb.within);
    }

pub loss_fits : (a b : Summary) → Adjoining a b → JoinFits a.label.n a.label.p a.loss b.loss
loss_fits a b h =
    let va = summary_valid h.left_bytes a h.left in
    let vb = summary_valid h.right_bytes b h.right in
    fits_by a b va vb h.numbers a.label a.loss b.loss va.loss
    (subst (λ l. TrackValid l.n l.p (b.after - b.first) b.loss) (sym h.settings) vb.loss)

pub composite_fits : (a b : Summary) → Adjoining a b → JoinFits a.label.n a.label.p a.composite b.composite
composite_fits a b h =
    let va = summary_valid h.left_bytes a h.left in
    let vb = summary_valid h.right_bytes b h.right in
    fits_by a b va vb h.numbers a.label a.composite b.composite va.composite
    (subst (λ l. TrackValid l.n l.p (b.after - b.first) b.composite) (sym h.settings) vb.composite)

-- two results that the contract allows are one
pub outcomes_coincide :
    {left right out : List ℕ} {at : ℕ} {a b : (Result (Unit {0}) Refusal)} {x y : List ℕ} → Outcome left right out at a x → Outcome left right out at b y → (a ≡ b) × (x ≡ y)
outcomes_coincide p q = (p.answered ∙ sym q.answered, p.left_in ∙ sym q.left_in)

-- what the steps of `join` rest on: room that is there, two settings compared, and a part that is filled whole
pub ruleset steps = (room_within, told_same, told_other, same_label_equal, part_filled, size_summary)
