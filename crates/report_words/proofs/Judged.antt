-- `mip_report` and `mip_verdicts`: what they answer and leave is settled by what they are given.
use Prim.Native.Nat.{ℕ}
use mathlib.Core.List.{List}
use mathlib.Core.Path.{◌≡◌, sym, ◌∙◌}
use Rattle.report_words.specs.ReportList.{ReportLeft, VerdictsLeft}

-- two results, with the words that they leave, that the contracts allow coincide
pub reports_coincide : (s words a b : List ℕ) (m n : ℕ) → ReportLeft s words m a → ReportLeft s words n b → (m ≡ n) × (a ≡ b)
reports_coincide s words a b m n p q = (p.word ∙ sym q.word, p.words ∙ sym q.words)

pub verdicts_coincide :
    (settings : List ℕ) (k : ℕ) (s words a b : List ℕ) (m n : ℕ) → VerdictsLeft settings k s words m a → VerdictsLeft settings k s words n b → (m ≡ n) × (a ≡ b)
verdicts_coincide settings k s words a b m n p q = (p.word ∙ sym q.word, p.words ∙ sym q.words)
