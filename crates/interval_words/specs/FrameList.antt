-- What `mip_interval` answers and what it leaves in the caller's buffer.
use Rattle.std.specs.Prelude.{ℕ, List, ◌≡◌, length, Result, Ok, Err}
use Rattle.measure.specs.Outcome.{judged, answer_of, left_of}
use Rattle.words.specs.Word.{word_of}
use Rattle.numbers.specs.declared.refusal.Refusal.{Refusal}

abbrev pub word_for : Result (Unit {0}) Refusal → ℕ
word_for (Ok tt) = 0
word_for (Err r) = word_of r

-- the outcome of `interval` as the function's result and the buffer that it leaves
pub record IntervalLeft (settings s : List ℕ) (number maintenance : ℕ) (out : List ℕ) (at result : ℕ) (after : List ℕ) : Type 0 where
  pub word : result ≡ word_for (answer_of (judged settings s number maintenance (length out) at))
  pub left : after ≡ left_of (judged settings s number maintenance (length out) at) out at
