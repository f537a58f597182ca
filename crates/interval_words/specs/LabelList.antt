-- What `mip_labels` answers and what it leaves in the caller's buffer.
use Rattle.std.specs.Prelude.{ℕ, List, ◌≡◌, Result, Ok, Err}
use Rattle.labels.specs.Stretch.{labels_of}
use Rattle.words.specs.Word.{word_of}
use Rattle.numbers.specs.declared.refusal.Refusal.{Refusal}

abbrev pub word_for : Result (Unit {0}) Refusal → ℕ
word_for (Ok tt) = 0
word_for (Err r) = word_of r

-- the outcome of `labels` as the function's result and the buffer that it leaves
pub record LabelsLeft (settings s out : List ℕ) (at result : ℕ) (after : List ℕ) : Type 0 where
  pub word : result ≡ word_for (labels_of settings s out at).answer
  pub left : after ≡ (labels_of settings s out at).buffer
