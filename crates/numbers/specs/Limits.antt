-- The limits of document 01 as document 02 changed them, once, by name. `src/limits.rt` has the same names.
use Rattle.std.specs.Prelude.{ℕ}

-- intervals of a circuit: a number is below it
unfoldable pub intervals : ℕ
intervals = 3000000

-- frames in one interval, at most
unfoldable pub frames : ℕ
frames = 1024

-- the largest delay, in ns
unfoldable pub largest_delay : ℕ
largest_delay = 4000000000

-- delays in a lent list, at most
unfoldable pub delays : ℕ
delays = 1000000

-- ordered pairs in a set, at most
unfoldable pub pairs : ℕ
pairs = 64

-- parts of a whole: ratios are in parts per million
unfoldable pub million : ℕ
million = 1000000
