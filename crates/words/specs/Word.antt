-- A refusal as one word.
use Rattle.std.specs.Prelude.{ℕ, ◌+◌, ◌*◌, ◌^◌}
use Rattle.numbers.specs.Refusals.{number_of}
use Rattle.numbers.specs.declared.refusal.Refusal.{Refusal}

-- number × 2^32 + place
abbrev pub word_of : Refusal → ℕ
word_of r = number_of r.fault * 2 ^ 32 + r.place
