-- The window of an output.
use Rattle.std.specs.Prelude.{ℕ, ◌+◌, Bool, leb}

-- `size` bytes from `at` on lie inside a buffer of `len` bytes; a sum of whole numbers, which does not wrap
unfoldable pub has_room : ℕ → ℕ → ℕ → Bool
has_room len at size = leb (at + size) len
