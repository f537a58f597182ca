-- The numbered refusals of document 01.
use Rattle.std.specs.Prelude.{ℕ, List, ◌++◌, codes}
use Rattle.std.specs.Fmt.{decimal}
use Rattle.numbers.specs.declared.refusal.Fault.{Fault}
use Rattle.numbers.specs.declared.refusal.Refusal.{Refusal}

-- a fault's number
abbrev pub number_of : Fault → ℕ
number_of Fault.Settings = 1
number_of Fault.Length = 2
number_of Fault.Room = 3
number_of Fault.Full = 4
number_of Fault.Field = 5
number_of Fault.Outside = 6
number_of Fault.Order = 7
number_of Fault.Mismatch = 8
number_of Fault.Pairs = 9

-- a fault at a place
abbrev pub refusal : Fault → ℕ → Refusal
refusal f k = record { fault = f; place = k }

-- a refusal as a text: the fault's number and the place
abbrev pub refusal_text : Refusal → List ℕ
refusal_text r = decimal (number_of r.fault) ++ (codes " " ++ decimal r.place)
