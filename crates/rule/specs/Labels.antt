-- The label of an interval, as 01 has it, on one track. A mark says high, a label says unavailable: both are Bool, `true` for
-- high and for unavailable, so that a mark speaks against a label where the two differ, in both directions alike.
use Rattle.std.specs.Prelude.{◌≡◌, ◌≢◌, Bool, true, false, not, ◌&&◌, List, [], ◌∷◌, ℕ, zero, suc}
use Rattle.std.specs.Bool.{beq}

-- an endless track: the mark of each interval
abbrev pub Marks : Type 0
Marks = ℕ → Bool

-- the intervals k to k+n-1 all have the mark b
unfoldable pub window : ℕ → Bool → Marks → ℕ → Bool
window zero b f k = true
window (suc n) b f k = beq (f k) b && window n b f (suc k)

-- the label of k after the label before it. After an available one: unavailable if k to k+n-1 are all high, else available.
-- After an unavailable one: available if they are all not high, else unavailable
unfoldable pub after : ℕ → Marks → Bool → ℕ → Bool
after n f false k = window n true f k
after n f true k = not (window n false f k)

-- the label before interval k; before interval 0 it counts as available
unfoldable pub before : ℕ → Marks → ℕ → Bool
before n f zero = false
before n f (suc k) = after n f (before n f k) k

-- the label of interval k
unfoldable pub lab : ℕ → Marks → ℕ → Bool
lab n f k = before n f (suc k)

-- the endless track f continues the known marks, of which the first is that of interval j
unfoldable pub Begins : Marks → ℕ → List Bool → Type 0
Begins f j [] = Unit {0}
Begins f j (m ∷ ms) = (f j ≡ m) × Begins f (suc j) ms

-- what the known marks tell of an interval: its label, or nothing yet
pub data Label : Type 0 where
  settled : Bool → Label
  undecided : Label

-- settled as b: every continuation gives b. Undecided: two continuations give two labels
unfoldable pub Meaning : ℕ → List Bool → ℕ → Label → Type 0
Meaning n ms k (settled b) = (f : Marks) → Begins f 0 ms → lab n f k ≡ b
Meaning n ms k undecided = (f : Marks) × (g : Marks) × Begins f 0 ms × Begins g 0 ms × (lab n f k ≢ lab n g k)
