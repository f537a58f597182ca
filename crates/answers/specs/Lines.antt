-- Document 01's refusals as an operation goes over them: a line says whether it holds, its number and its place. The first line that holds is answered.
use Rattle.std.specs.Prelude.{ℕ, Bool, cond, List, [], ◌∷◌}
use Rattle.numbers.specs.Refusals.{number_of}
use Rattle.numbers.specs.declared.refusal.Refusal.{Refusal}

pub record Line : Type 0 where
  pub holds : Bool
  pub number : ℕ
  pub place : ℕ

abbrev pub line : Bool → ℕ → ℕ → Line
line holds number place = record { holds = holds; number = number; place = place }

-- what an operation tells: a number, 0 where it answers, and a place
pub record Told : Type 0 where
  pub number : ℕ
  pub place : ℕ

abbrev pub told : ℕ → ℕ → Told
told number place = record { number = number; place = place }

abbrev pub answered : Told
answered = told 0 0

-- a refusal, by its number
abbrev pub told_of : Refusal → Told
told_of r = told (number_of r.fault) r.place

-- the first line that holds
unfoldable pub first_line : List Line → Told
first_line [] = answered
first_line (x ∷ xs) = cond x.holds (told x.number x.place) (first_line xs)
