-- A record is valid when it meets each of a list of rules.
use Rattle.std.specs.Prelude.{ℕ, Bool, true, ◌&&◌, List, [], ◌∷◌, leb}

-- what is known so far, and all the rules that follow
abbrev pub met_by : Bool → List Bool → Bool
met_by known [] = known
met_by known (rule ∷ rules) = met_by (known && rule) rules

-- all of the rules are met
abbrev pub all_met : List Bool → Bool
all_met rules = met_by true rules

-- a number from `low` to `high`
abbrev pub within : ℕ → ℕ → ℕ → Bool
within low high x = leb low x && leb x high
