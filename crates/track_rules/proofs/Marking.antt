-- An interval record that meets 01's rules is sound on each track: the facts of a valid interval are those that a track needs.
-- Assumes nothing.
use mathlib.Core.Path.{◌≡◌}
use mathlib.Core.Bool.{Bool}
use mathlib.Core.List.{List, [], ◌∷◌, map}
use Prim.Native.Nat.{◌-◌}
use native.Mathlib.Omega.{arith}
use Rattle.intervals.specs.declared.Interval.{Interval}
use Rattle.intervals.proofs.IntervalRecord.{IntervalValid}
use Rattle.runs.specs.Sound.{Sound, AllSound}
use Rattle.tallies.specs.Seen.{marked_as}
use Rattle.tallies.proofs.Valid.{AllValid}

pub marked_sound : (b : Bool) (v : Interval) → IntervalValid v → Sound (marked_as b v)
unfolding marked_as
marked_sound b v f =
    record {
      few = f.sent_fact;
      lost_of_sent = f.lost_fact;
      silent = λ e. let none : v.sent - v.lost ≡ 0 = omega arith in (f.none_facts none).2;
      ordered = f.least_fact;
      within = f.most_fact;
      from = f.low_fact;
      to = f.high_fact;
    }

pub all_sound : (f : Interval → Bool) (vs : List Interval) → AllValid vs → AllSound (map (λ v. marked_as (f v) v) vs)
unfolding AllValid AllSound
all_sound f [] h = tt
all_sound f (v ∷ vs) h = (marked_sound (f v) v h.0, all_sound f vs h.1)
