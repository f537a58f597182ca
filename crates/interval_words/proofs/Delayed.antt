-- `mip_delays`: a truth as a word, and that the contract settles the outcome.
use Prim.Native.Nat.{ℕ}
use mathlib.Core.List.{List}
use mathlib.Core.Bool.{Bool, true, false}
use mir.Val.{bool_byte}
use mathlib.Core.Path.{◌≡◌, refl, sym, ◌∙◌}
use Rattle.std.specs.Prelude.{Result}
use Rattle.numbers.specs.declared.refusal.Refusal.{Refusal}
use Rattle.delays.specs.declared.Figures.{Figures}
use Rattle.interval_words.specs.DelayList.{verdict, Answers}

-- 1 for met, 0 for not met, as the words have it
pub told : (met : Bool) → bool_byte met ≡ verdict met
told true = refl
told false = refl

-- two results, with the words that they leave, that the contract of `mip_delays` allows coincide
pub answers_coincide : (o : Result Figures Refusal) (words a b : List ℕ) (m n : ℕ) → Answers o words m a → Answers o words n b → (m ≡ n) × (a ≡ b)
answers_coincide o words a b m n p q = (p.word ∙ sym q.word, p.words ∙ sym q.words)
