-- `mip_start` and `mip_step`: what they answer and leave is settled by what they are given.
use Prim.Native.Nat.{ℕ}
use mathlib.Core.List.{List}
use mathlib.Core.Path.{◌≡◌, sym, ◌∙◌}
use Rattle.evaluator_words.specs.Running.{StartLeft, StepLeft}

-- two results, with the words that they leave, that the contracts allow coincide
pub starts_coincide : (s words a b : List ℕ) (m n : ℕ) → StartLeft s words m a → StartLeft s words n b → (m ≡ n) × (a ≡ b)
starts_coincide s words a b m n p q = (p.word ∙ sym q.word, p.words ∙ sym q.words)

pub steps_coincide :
    (words r settled a b x y : List ℕ) (m n : ℕ) → StepLeft words r settled m a x → StepLeft words r settled n b y → (m ≡ n) × (a ≡ b) × (x ≡ y)
steps_coincide words r settled a b x y m n p q = (p.word ∙ sym q.word, p.evaluator ∙ sym q.evaluator, p.answer ∙ sym q.answer)
