-- The interval record of document 01, 48 bytes.
use Rattle.std.specs.Prelude.{ℕ, ◌-◌, ◌*◌, Bool, true, false, ◌&&◌, ◌||◌, cond, List, [], ◌∷◌, ◌++◌, length, get_or, leb, ltb, eqb, Option, Some, None}
use Rattle.numbers.specs.Bytes.{number_at, are_zero, bytes_of}
use Rattle.numbers.specs.Limits.{intervals, frames, largest_delay}
use Rattle.numbers.specs.Rules.{all_met}
use Rattle.intervals.specs.declared.Interval.{Interval}

-- where each value stands
unfoldable pub interval_in : List ℕ → Interval
interval_in s =
    record {
      number = number_at 4 s 0;
      sent = number_at 4 s 4;
      lost = number_at 4 s 8;
      late = number_at 4 s 12;
      pairs = number_at 4 s 16;
      jumpy = number_at 4 s 20;
      sum = number_at 8 s 24;
      least = number_at 4 s 32;
      most = number_at 4 s 36;
      maintenance = eqb (get_or s 40 0) 1;
    }

-- frames delivered
abbrev pub delivered_in : Interval → ℕ
delivered_in v = v.sent - v.lost

-- the rules on counts, a line each; the last: pairs at most delivered - 1, or pairs 0 when delivered is 0
unfoldable pub count_rules : Interval → List Bool
count_rules v =
    ltb v.number intervals
    ∷ leb v.sent frames
    ∷ leb v.lost v.sent
    ∷ leb v.late (delivered_in v)
    ∷ leb v.jumpy v.pairs
    ∷ (ltb v.pairs (delivered_in v) || (eqb (delivered_in v) 0 && eqb v.pairs 0))
    ∷ []

-- with nothing delivered the sum, least and most are 0
unfoldable pub no_delay_rules : Interval → List Bool
no_delay_rules v = eqb v.sum 0 ∷ eqb v.least 0 ∷ eqb v.most 0 ∷ []

-- otherwise least ≤ most ≤ the largest, and least × delivered ≤ sum ≤ most × delivered
unfoldable pub delay_rules : Interval → List Bool
delay_rules v =
    leb v.least v.most
    ∷ leb v.most largest_delay
    ∷ leb (v.least * delivered_in v) v.sum
    ∷ leb v.sum (v.most * delivered_in v)
    ∷ []

unfoldable pub counts_meet : Interval → Bool
counts_meet v = all_met (count_rules v)

unfoldable pub delays_meet : Interval → Bool
delays_meet v = cond (eqb (delivered_in v) 0) (all_met (no_delay_rules v)) (all_met (delay_rules v))

-- maintenance is 0 or 1, and the seven bytes from 41 are spare
unfoldable pub interval_rules : List ℕ → List Bool
interval_rules s =
    eqb (length s) 48
    ∷ counts_meet (interval_in s)
    ∷ delays_meet (interval_in s)
    ∷ leb (get_or s 40 0) 1
    ∷ are_zero 7 s 41
    ∷ []

abbrev pub valid_if : Bool → Interval → Option Interval
valid_if true v = Some v
valid_if false v = None

-- what the bytes say, if they meet every rule
unfoldable pub interval_of : List ℕ → Option Interval
interval_of s = valid_if (all_met (interval_rules s)) (interval_in s)

-- the bytes of the values: the counts, then the delays, the maintenance flag and the spare bytes

unfoldable pub count_bytes : Interval → List ℕ
count_bytes v =
    bytes_of 4 v.number
    ++ (bytes_of 4 v.sent
    ++ (bytes_of 4 v.lost
    ++ (bytes_of 4 v.late
    ++ (bytes_of 4 v.pairs
    ++ bytes_of 4 v.jumpy))))

unfoldable pub delay_bytes : Interval → List ℕ
delay_bytes v =
    bytes_of 8 v.sum
    ++ (bytes_of 4 v.least
    ++ (bytes_of 4 v.most
    ++ (cond v.maintenance 1 0 ∷ bytes_of 7 0)))

unfoldable pub interval_bytes : Interval → List ℕ
interval_bytes v = count_bytes v ++ delay_bytes v
