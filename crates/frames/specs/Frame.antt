-- The frame record of document 01, 16 bytes.
use Rattle.std.specs.Prelude.{ℕ, Bool, true, false, ◌||◌, not, List, [], ◌∷◌, length, get_or, leb, eqb, Option, Some, None}
use Rattle.numbers.specs.Bytes.{number_at, are_zero}
use Rattle.numbers.specs.Limits.{largest_delay}
use Rattle.numbers.specs.Rules.{all_met}
use Rattle.frames.specs.declared.Frame.{Frame}

-- where each value stands
unfoldable pub frame_in : List ℕ → Frame
frame_in s = record { time = number_at 8 s 0; delay = number_at 4 s 8; lost = eqb (get_or s 12 0) 1 }

-- the rules, a line each: the largest delay, the state, the spare bytes, and a lost frame has delay 0
unfoldable pub frame_rules : List ℕ → List Bool
frame_rules s =
    eqb (length s) 16
    ∷ leb (frame_in s).delay largest_delay
    ∷ leb (get_or s 12 0) 1
    ∷ are_zero 3 s 13
    ∷ (not (frame_in s).lost || eqb (frame_in s).delay 0)
    ∷ []

abbrev pub valid_if : Bool → Frame → Option Frame
valid_if true v = Some v
valid_if false v = None

-- what the bytes say, if they meet every rule
unfoldable pub frame_of : List ℕ → Option Frame
frame_of s = valid_if (all_met (frame_rules s)) (frame_in s)
