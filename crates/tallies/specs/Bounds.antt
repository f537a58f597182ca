-- What every tally of a track that meets the rules keeps to, made or not: an interval's rules over all that is counted, and no more counted
-- than there is.
use Rattle.std.specs.Prelude.{◌≡◌, ℕ, ◌+◌, ◌-◌, ◌*◌, ◌≤◌}
use Rattle.numbers.specs.Limits.{frames, largest_delay, intervals}
use Rattle.tallies.specs.declared.Totals.{Totals}
use Rattle.tallies.specs.declared.ByLabel.{ByLabel}
use Rattle.tallies.specs.declared.Period.{Period}

pub record Bounded (p : ℕ) (t : Totals) : Type 0 where
  pub high : t.high ≤ t.count
  pub runs : p * t.runs ≤ t.high
  pub unasked : p ≡ 0 → t.runs ≡ 0
  pub few : t.sent ≤ frames * t.count
  pub lost_of_sent : t.lost ≤ t.sent
  pub silent : t.sent ≡ t.lost → t.most ≡ 0
  pub ordered : t.least ≤ t.most
  pub within : t.most ≤ largest_delay
  pub from : t.least * (t.sent - t.lost) ≤ t.sum
  pub to : t.sum ≤ t.most * (t.sent - t.lost)

-- of a track of `len` intervals
pub record TallyBounded (p len : ℕ) (t : ByLabel Totals) : Type 0 where
  pub available : Bounded p t.available
  pub undecided : Bounded p t.undecided
  pub counted : t.available.count + t.unavailable + t.undecided.count ≤ len

-- of a report
pub record PeriodBounded (p : ℕ) (r : Period) : Type 0 where
  pub long : r.length ≤ intervals
  pub loss : TallyBounded p r.length r.loss
  pub counted : r.composite.available + r.composite.unavailable + r.composite.undecided ≤ r.length

-- a report accounts for each interval of its period: it is in maintenance, or has one of three labels on each track
pub record Accounted (r : Period) : Type 0 where
  pub loss : r.maintenance + (r.loss.available.count + r.loss.unavailable + r.loss.undecided.count) ≡ r.length
  pub composite : r.maintenance + (r.composite.available + r.composite.unavailable + r.composite.undecided) ≡ r.length
