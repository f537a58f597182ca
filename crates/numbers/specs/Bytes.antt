-- Little-endian numbers: the lowest byte first.
use Rattle.std.specs.Prelude.{ℕ, zero, suc, ◌+◌, ◌*◌, ◌/◌, ◌%◌, ◌<◌, List, [], ◌∷◌, Bool, true, ◌&&◌, ◌++◌, length, get_or, take, drop, eqb}

-- the number that bytes are
unfoldable pub number : List ℕ → ℕ
number [] = 0
number (b ∷ bs) = b + 256 * number bs

-- the `w` lowest bytes of a number
unfoldable pub bytes_of : ℕ → ℕ → List ℕ
bytes_of zero x = []
bytes_of (suc w) x = x % 256 ∷ bytes_of w (x / 256)

-- the `w` bytes of `s` from `i` on; a byte past the end counts as 0
unfoldable pub part : ℕ → List ℕ → ℕ → List ℕ
part zero s i = []
part (suc w) s i = get_or s i 0 ∷ part w s (suc i)

-- the number in the `w` bytes of `s` from `i` on
unfoldable pub number_at : ℕ → List ℕ → ℕ → ℕ
number_at w s i = number (part w s i)

-- each of them is a byte
unfoldable pub Bytes : List ℕ → Type 0
Bytes s = (i : ℕ) → get_or s i 0 < 256

-- the `w` bytes of `s` from `i` on are 0
unfoldable pub are_zero : ℕ → List ℕ → ℕ → Bool
are_zero zero s i = true
are_zero (suc w) s i = eqb (get_or s i 0) 0 && are_zero w s (suc i)

-- `s` with `bs` from `i` on; the bytes before and behind them stay
unfoldable pub placed : List ℕ → ℕ → List ℕ → List ℕ
placed s i bs = take i s ++ (bs ++ drop (i + length bs) s)
