-- The rules that an interval record meets, as far as a track sees it.
use Rattle.std.specs.Prelude.{◌≡◌, List, [], ◌∷◌, ◌-◌, ◌*◌, ◌≤◌}
use Rattle.numbers.specs.Limits.{frames, largest_delay}
use Rattle.tallies.specs.declared.Marked.{Marked}

pub record Sound (x : Marked) : Type 0 where
  pub few : x.sent ≤ frames
  pub lost_of_sent : x.lost ≤ x.sent
  pub silent : x.sent ≡ x.lost → x.most ≡ 0
  pub ordered : x.least ≤ x.most
  pub within : x.most ≤ largest_delay
  pub from : x.least * (x.sent - x.lost) ≤ x.sum
  pub to : x.sum ≤ x.most * (x.sent - x.lost)

-- all of them meet the rules
unfoldable pub AllSound : List Marked → Type 0
AllSound [] = Unit {0}
AllSound (x ∷ xs) = Sound x × AllSound xs
