-- Words over others.
use Rattle.std.specs.Prelude.{ℕ, List, ◌++◌, length, drop}

-- words over the first of others, which stay behind them
abbrev pub over : List ℕ → List ℕ → List ℕ
over ws words = ws ++ drop (length ws) words
