-- Interval records fed piece by piece: what stands after each piece, and what is said at the end.
use Rattle.std.specs.Prelude.{ℕ, ◌*◌, ◌/◌, ◌<◌, ◌≡◌, cond, List, [], ◌∷◌, ◌++◌, length, take, drop, eqb, Option, Some, None, Result, Ok, Err}
use Rattle.numbers.specs.Refusals.{refusal}
use Rattle.numbers.specs.declared.refusal.Fault.{Fault}
use Rattle.settings.specs.Settings.{settings_of}
use Rattle.intervals.specs.Sequence.{intervals_in, checked}
use Rattle.labels.specs.Stretch.{intervals_of}
use Rattle.summaries.specs.Stored.{summary_of}
use Rattle.summaries.specs.declared.Summary.{Summary}
use Rattle.summaries.specs.Made.{made_of}
use Rattle.joining.specs.Joining.{joined_of}
use Rattle.feeding.specs.declared.Held.{Held}
use Rattle.feeding.specs.declared.State.{State}
use Rattle.settings.specs.declared.Settings.{Settings}
use Rattle.numbers.specs.declared.refusal.Refusal.{Refusal}

-- what the whole records so far say, and the bytes of a record that has begun
pub record Standing : Type 0 where
  pub held : Held
  pub tail : List ℕ

abbrev pub standing : State → List ℕ → Standing
standing x tail = record { held = x.held; tail = take x.left tail }

abbrev pub held_if : Result (Unit {0}) Refusal → Summary → Held
held_if (Ok tt) v = Held.Sound v
held_if (Err r) v = Held.Faulty r

-- the summary of the whole records of s, behind another
abbrev pub behind : Summary → List ℕ → Summary
behind v s = made_of v.label v.after (intervals_of (intervals_in s))

-- a summary from 0 and the whole records of s behind it, each at the place that is its number
unfoldable pub grown : Summary → List ℕ → Held
grown v s = held_if (checked v.after v.after (intervals_in s)) (joined_of v (behind v s))

abbrev pub grown_by : Held → List ℕ → Held
grown_by Held.Unset s = Held.Unset
grown_by (Held.Sound v) s = grown v s
grown_by (Held.Faulty r) s = Held.Faulty r

-- what stands behind the last whole record of s
unfoldable pub rest_of : List ℕ → List ℕ
rest_of s = drop (length s / 48 * 48) s

-- bytes where no record has begun
unfoldable pub filled : Held → List ℕ → Standing
filled h s = record { held = grown_by h s; tail = rest_of s }

-- at the start, after a piece more, after all the pieces

abbrev pub begun_by : Option Settings → Held
begun_by None = Held.Unset
begun_by (Some v) = Held.Sound (made_of v.label 0 [])

unfoldable pub begun : List ℕ → State
begun settings = record { held = begun_by (settings_of settings); left = 0 }

unfoldable pub fed : Standing → List ℕ → Standing
fed x piece = filled x.held (x.tail ++ piece)

unfoldable pub fed_all : Standing → List (List ℕ) → Standing
fed_all x [] = x
fed_all x (piece ∷ pieces) = fed_all (fed x piece) pieces

-- at the end: the settings, then the length, then the first record at fault
abbrev pub if_whole : ℕ → Result Summary Refusal → Result Summary Refusal
if_whole left g = cond (eqb left 0) g (Err (refusal Fault.Length 0))

abbrev pub finished_by : Held → ℕ → Result Summary Refusal
finished_by Held.Unset left = Err (refusal Fault.Settings 0)
finished_by (Held.Sound v) left = if_whole left (Ok v)
finished_by (Held.Faulty r) left = if_whole left (Err r)

abbrev pub finished : Standing → Result Summary Refusal
finished x = finished_by x.held (length x.tail)

-- a summary that 1,024 bytes say
pub record Known (v : Summary) : Type 0 where
  pub bytes : List ℕ
  pub read : summary_of bytes ≡ Some v

unfoldable pub Growing : Held → Type 0
Growing Held.Unset = Unit {0}
Growing (Held.Sound v) = Known v
Growing (Held.Faulty r) = Unit {0}

-- a state with the tail that belongs to it, ready for the next piece
pub record Ready (x : State) (tail : List ℕ) : Type 0 where
  pub room : length tail ≡ 48
  pub few : x.left < 48
  pub valid : Growing x.held

-- all the pieces, one behind the other
unfoldable pub joined : List (List ℕ) → List ℕ
joined [] = []
joined (piece ∷ pieces) = piece ++ joined pieces

-- the states, each with its tail, that lie one behind the other when so many pieces are fed
pub data Steps : State → List ℕ → List (List ℕ) → State → List ℕ → Type 0 where
  done : {x : State} {tail : List ℕ} → Steps x tail [] x tail
  next :
      {x y z : State} {tail left last piece : List ℕ} {pieces : List (List ℕ)} →
      standing y left ≡ fed (standing x tail) piece → Steps y left pieces z last → Steps x tail (piece ∷ pieces) z last
