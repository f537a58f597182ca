-- A circuit's interval records, cut anywhere, summarised stretch by stretch without knowing what came before, and joined in any grouping: what a caller of `summary` and `join` does, each
-- call with a buffer and an offset of its own, and with nothing known of it but its contract.
use Rattle.std.specs.Prelude.{ℕ, ◌+◌, ◌*◌, ◌/◌, ◌≡◌, true, List, ◌++◌, length, take, drop, Some, Result, Ok}
use Rattle.numbers.specs.Room.{has_room}
use Rattle.settings.specs.Settings.{settings_of}
use Rattle.settings.specs.declared.LabelSettings.{LabelSettings}
use Rattle.settings.specs.declared.Settings.{Settings}
use Rattle.making.specs.Making as making
use Rattle.joining.specs.Joining as joining
use Rattle.numbers.specs.declared.refusal.Refusal.{Refusal}

-- the bytes of some records, or of none, and the settings under which they are summarised; or two such that are to be joined, the second behind the first
pub data Cut : Type 0 where
  stretch : List ℕ → List ℕ → Cut
  group : Cut → Cut → Cut

-- the records of all its stretches, one behind the other
unfoldable pub uncut : Cut → List ℕ
uncut (stretch settings s) = s
uncut (group a b) = uncut a ++ uncut b

-- it is cut between records, and not within one
unfoldable pub BetweenRecords : Cut → Type 0
BetweenRecords (stretch settings s) = (n : ℕ) × (length s ≡ n * 48)
BetweenRecords (group a b) = BetweenRecords a × BetweenRecords b

-- each stretch is summarised under valid settings that have the label settings l; their objectives may differ
unfoldable pub Under : LabelSettings → Cut → Type 0
Under l (stretch settings s) = (v : Settings) × (settings_of settings ≡ Some v) × (v.label ≡ l)
Under l (group a b) = Under l a × Under l b

-- the number after the last, of the records s from the number `first` on
abbrev pub behind : ℕ → List ℕ → ℕ
behind first s = first + length s / 48

-- the 1,024 bytes at an offset of a buffer
abbrev pub record_in : List ℕ → ℕ → List ℕ
record_in buffer at = take 1024 (drop at buffer)

-- a call of `summary` with room in the buffer lent, and the bytes that stand at its offset then
pub record SummaryCalled (settings : List ℕ) (first : ℕ) (s bytes : List ℕ) : Type 0 where
  pub out : List ℕ
  pub at : ℕ
  pub room : has_room (length out) at 1024 ≡ true
  pub answer : Result (Unit {0}) Refusal
  pub after : List ℕ
  pub contract : making.Outcome settings first s out at answer after
  pub there : bytes ≡ record_in after at

-- a call of `join`, likewise
pub record JoinCalled (left right bytes : List ℕ) : Type 0 where
  pub out : List ℕ
  pub at : ℕ
  pub room : has_room (length out) at 1024 ≡ true
  pub answer : Result (Unit {0}) Refusal
  pub after : List ℕ
  pub contract : joining.Outcome left right out at answer after
  pub there : bytes ≡ record_in after at

-- each stretch summarised from its own records alone, and what comes of them joined as they are grouped, gives these bytes
unfoldable pub Gives : ℕ → Cut → List ℕ → Type 0
Gives first (stretch settings s) bytes = SummaryCalled settings first s bytes
Gives first (group a b) bytes =
    (left : List ℕ) × (right : List ℕ) × Gives first a left × Gives (behind first (uncut a)) b right × JoinCalled left right bytes

-- and none of the calls is refused
unfoldable pub NoneRefused : (first : ℕ) (c : Cut) (bytes : List ℕ) → Gives first c bytes → Type 0
unfolding Gives
NoneRefused first (stretch settings s) bytes g = g.answer ≡ Ok tt
NoneRefused first (group a b) bytes g = NoneRefused first a g.0 g.2 × NoneRefused (behind first (uncut a)) b g.1 g.3 × (g.4.answer ≡ Ok tt)
