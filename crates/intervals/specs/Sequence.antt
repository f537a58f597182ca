-- A slice of many interval records.
use Rattle.std.specs.Prelude.{ℕ, suc, ◌/◌, Bool, true, false, List, [], ◌∷◌, length, eqb, Option, Some, None, Result, Ok, Err}
use Rattle.numbers.specs.Many.{read_each}
use Rattle.numbers.specs.Refusals.{refusal}
use Rattle.numbers.specs.declared.refusal.Fault.{Fault}
use Rattle.intervals.specs.Interval.{interval_of}
use Rattle.intervals.specs.declared.Interval.{Interval}
use Rattle.numbers.specs.declared.refusal.Refusal.{Refusal}

-- what each of `n` records says, from the k-th on
abbrev pub reads_from : ℕ → List ℕ → ℕ → List (Option Interval)
reads_from = read_each interval_of 48

-- what each whole record of `s` says
unfoldable pub intervals_in : List ℕ → List (Option Interval)
intervals_in s = reads_from (length s / 48) s 0

abbrev pub ordered_if : Bool → ℕ → Result (Unit {0}) Refusal → Result (Unit {0}) Refusal
ordered_if true place rest = rest
ordered_if false place rest = Err (refusal Fault.Order place)

-- the first record, counted from `place`, that breaks its own rules or whose number is not `next`
unfoldable pub checked : ℕ → ℕ → List (Option Interval) → Result (Unit {0}) Refusal
checked next place [] = Ok tt
checked next place (None ∷ rest) = Err (refusal Fault.Field place)
checked next place (Some v ∷ rest) = ordered_if (eqb v.number next) place (checked (suc next) (suc place) rest)
