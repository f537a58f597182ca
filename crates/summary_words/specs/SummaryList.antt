-- What `mip_summary` and `mip_join` answer and what they leave in the caller's buffer.
use Rattle.std.specs.Prelude.{ℕ, List, ◌≡◌, length, Result, Ok, Err}
use Rattle.making.specs.Making
use Rattle.joining.specs.Joining
use Rattle.words.specs.Word.{word_of}
use Rattle.numbers.specs.declared.refusal.Refusal.{Refusal}

abbrev pub made_word : Result (Unit {0}) Refusal → ℕ
made_word (Ok tt) = 0
made_word (Err r) = word_of r

abbrev pub joined_word : Result (Unit {0}) Refusal → ℕ
joined_word (Ok tt) = 0
joined_word (Err r) = word_of r

-- the outcome of `summary` as the function's result and the buffer that it leaves
pub record SummaryLeft (settings : List ℕ) (first : ℕ) (s out : List ℕ) (at result : ℕ) (after : List ℕ) : Type 0 where
  pub word : result ≡ made_word (Making.answer_of (Making.made settings first s (length out) at))
  pub left : after ≡ Making.left_of (Making.made settings first s (length out) at) out at

-- the same of `join`
pub record JoinLeft (a b out : List ℕ) (at result : ℕ) (after : List ℕ) : Type 0 where
  pub word : result ≡ joined_word (Joining.answer_of (Joining.judged a b (length out) at))
  pub left : after ≡ Joining.left_of (Joining.judged a b (length out) at) out at
