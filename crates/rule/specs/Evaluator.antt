-- A running evaluator's view of one track: what it keeps, what each mark settles, and what it may be found holding.
use Rattle.std.specs.Prelude.{◌≡◌, Bool, false, cond, ◌&&◌, ◌||◌, List, [], ◌∷◌, ◌++◌, map, ℕ, ◌+◌, leb, ltb, length, replicate}
use Rattle.std.specs.Bool.{beq}
use Rattle.rule.specs.declared.Track.{Track}
use Rattle.rule.specs.declared.Turned.{Turned}
use Rattle.rule.specs.Labels.{Label, settled, undecided}

-- with nothing fed: available, and nothing pending
abbrev pub fresh : Track
fresh = record { label = false; pending = 0 }

-- a mark settles labels where it agrees with the last label, or is the n-th in a row against it
unfoldable pub settles : ℕ → Track → Bool → Bool
settles n t m = beq m t.label || leb n (t.pending + 1)

-- the number of labels that a mark settles: its own interval's and all that were pending, or none
unfoldable pub gain : ℕ → Track → Bool → ℕ
gain n t m = cond (settles n t m) (t.pending + 1) 0

-- the track after a mark. All that it settles are labelled as the mark itself says
unfoldable pub turn : ℕ → Track → Bool → Track
turn n t m = cond (settles n t m) (record { label = m; pending = 0 }) (record { label = t.label; pending = t.pending + 1 })

-- both: what a step leaves and settles
abbrev pub stepped : ℕ → Track → Bool → Turned
stepped n t m = record { track = turn n t m; count = gain n t m }

-- the track after a list of marks
unfoldable pub run : ℕ → Track → List Bool → Track
run n t [] = t
run n t (m ∷ ms) = run n (turn n t m) ms

-- the labels that a list of marks settles, from the first pending interval on
unfoldable pub told : ℕ → Track → List Bool → List Bool
told n t [] = []
told n t (m ∷ ms) = replicate (gain n t m) m ++ told n (turn n t m) ms

-- the labels of a whole known sequence from interval 0: those settled, and the pending ones undecided. Each is what `Meaning` says
-- (`labels_settle` of proofs/Labelling), so that it computes 01's definition
unfoldable pub labelling : ℕ → List Bool → List Label
labelling n ms = map settled (told n fresh ms) ++ replicate (run n fresh ms).pending undecided

-- possible after a number of marks: some list of that many marks leaves it
unfoldable pub Possible : ℕ → ℕ → Track → Type 0
Possible n fed t = (ms : List Bool) × (length ms ≡ fed) × (run n fresh ms ≡ t)

-- the same as a test (proofs/Reaching shows it both ways): the pending marks are fewer than n, and there was room for them, and for the n high marks that an unavailable label takes
unfoldable pub reachable : ℕ → ℕ → Track → Bool
reachable n fed t = ltb t.pending n && leb (cond t.label (n + t.pending) t.pending) fed
