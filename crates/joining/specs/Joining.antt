-- What the operation `join` answers and leaves in the caller's buffer, for every input, in document 01's order of refusals.
use Rattle.std.specs.Prelude.{ℕ, ◌≡◌, Bool, true, false, List, length, eqb, Option, Some, None, Result, Ok, Err}
use Rattle.numbers.specs.Bytes.{placed}
use Rattle.numbers.specs.Refusals.{refusal}
use Rattle.numbers.specs.Room.{has_room}
use Rattle.numbers.specs.declared.refusal.Fault.{Fault}
use Rattle.numbers.specs.declared.refusal.Refusal.{Refusal}
use Rattle.settings.specs.Settings.{same_label}
use Rattle.tracks.specs.Tracks.{join}
use Rattle.summaries.specs.Stored.{summary_of, summary_bytes}
use Rattle.summaries.specs.declared.Summary.{Summary}

-- the summary of both stretches
unfoldable pub joined_of : Summary → Summary → Summary
joined_of a b =
    record {
      first = a.first;
      after = b.after;
      label = a.label;
      loss = join a.label.n a.label.p a.loss b.loss;
      composite = join a.label.n a.label.p a.composite b.composite;
    }

-- two valid summaries of equal settings, the second right behind the first
pub record Adjoining (a b : Summary) : Type 0 where
  pub left_bytes : List ℕ
  pub right_bytes : List ℕ
  pub left : summary_of left_bytes ≡ Some a
  pub right : summary_of right_bytes ≡ Some b
  pub settings : a.label ≡ b.label
  pub numbers : a.after ≡ b.first

-- the joined summary, or the refusal
pub data Judged : Type 0 where
  good : Summary → Judged
  bad : Refusal → Judged

abbrev pub unless : Bool → Fault → ℕ → Judged → Judged
unless true f k j = j
unless false f k j = bad (refusal f k)

-- equal settings, then adjoining numbers, both at the later one
abbrev pub judged_values : Summary → Summary → Judged
judged_values a b = unless (same_label a.label b.label) Fault.Mismatch 1 (unless (eqb a.after b.first) Fault.Order 1 (good (joined_of a b)))

abbrev pub judged_reads : Option Summary → Option Summary → Judged
judged_reads None right = bad (refusal Fault.Field 0)
judged_reads (Some a) None = bad (refusal Fault.Field 1)
judged_reads (Some a) (Some b) = judged_values a b

unfoldable pub judged : List ℕ → List ℕ → ℕ → ℕ → Judged
judged left right len at =
    unless (eqb (length left) 1024) Fault.Length 0
    (unless (eqb (length right) 1024) Fault.Length 0
    (unless (has_room len at 1024) Fault.Room 0 (judged_reads (summary_of left) (summary_of right))))

-- what is answered, and what the buffer holds
abbrev pub answer_of : Judged → Result (Unit {0}) Refusal
answer_of (good v) = Ok tt
answer_of (bad r) = Err r

abbrev pub left_of : Judged → List ℕ → ℕ → List ℕ
left_of (good v) out at = placed out at (summary_bytes v)
left_of (bad r) out at = out

pub record Outcome (left right out : List ℕ) (at : ℕ) (answer : Result (Unit {0}) Refusal) (after : List ℕ) : Type 0 where
  pub answered : answer ≡ answer_of (judged left right (length out) at)
  pub left_in : after ≡ left_of (judged left right (length out) at) out at
