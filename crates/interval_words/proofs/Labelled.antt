-- `mip_labels`: the place of a refusal fits its word.
use Prim.Native.Nat.{ℕ, ◌<◌, ◌^◌}
use mathlib.Core.List.{List}
use mathlib.Core.Path.{◌≡◌, ap, sym, ◌∙◌}
use native.Mathlib.Omega.{arith}
use Rattle.std.specs.Prelude.{Result, Err}
use Rattle.labels.proofs.Places.{labels_place}
use Rattle.labels.specs.Stretch.{Outcome, outcome, labels_of}
use Rattle.numbers.specs.Limits.{intervals}
use Rattle.numbers.specs.declared.refusal.Refusal.{Refusal}
use Rattle.interval_words.specs.LabelList.{LabelsLeft}

module _ (s r out : List ℕ) (at : ℕ) where
  pub place_fits : {after : List ℕ} (a : Result (Unit {0}) Refusal) (x : Refusal) → outcome a after ≡ labels_of s r out at → a ≡ Err x → x.place < 2 ^ 32
  unfolding intervals
  place_fits a x o e = omega (arith, labels_place s r out at x (sym (ap (λ (p : Outcome). p.answer) o) ∙ e))

-- two results, with the buffers that they leave, that the contract of `mip_labels` allows coincide
pub labels_coincide : (s r out : List ℕ) (at m n : ℕ) (a b : List ℕ) → LabelsLeft s r out at m a → LabelsLeft s r out at n b → (m ≡ n) × (a ≡ b)
labels_coincide s r out at m n a b p q = (p.word ∙ sym q.word, p.left ∙ sym q.left)
