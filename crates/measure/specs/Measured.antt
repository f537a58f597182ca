-- From frames to one interval, as document 01 says: what is counted and summed over the frames of an interval.
use Rattle.std.specs.Prelude.{ℕ, ◌+◌, ◌-◌, min, max, Bool, ◌&&◌, not, cond, List, [], ◌∷◌, length, ltb}
use Rattle.settings.specs.declared.LabelSettings.{LabelSettings}
use Rattle.frames.specs.declared.Frame.{Frame}
use Rattle.intervals.specs.declared.Interval.{Interval}

-- how many frames have a property, and how many frames have one together with the next frame

unfoldable pub count_if : (Frame → Bool) → List Frame → ℕ
count_if has [] = 0
count_if has (f ∷ fs) = cond (has f) 1 0 + count_if has fs

unfoldable pub pairs_if : (Frame → Frame → Bool) → List Frame → ℕ
pairs_if have [] = 0
pairs_if have (f ∷ []) = 0
pairs_if have (f ∷ g ∷ fs) = cond (have f g) 1 0 + pairs_if have (g ∷ fs)

-- the properties: lost; late, delivered with a delay above DL; a pair, both delivered; jumpy, a pair whose delays differ by more than Jt

unfoldable pub is_lost : Frame → Bool
is_lost f = f.lost

unfoldable pub is_late : ℕ → Frame → Bool
is_late dl f = not f.lost && ltb dl f.delay

unfoldable pub is_pair : Frame → Frame → Bool
is_pair f g = not f.lost && not g.lost

-- how far two delays are apart; one of the differences is 0
unfoldable pub apart : ℕ → ℕ → ℕ
apart a b = (a - b) + (b - a)

unfoldable pub is_jumpy : ℕ → Frame → Frame → Bool
is_jumpy jt f g = is_pair f g && ltb jt (apart f.delay g.delay)

-- the delays of the delivered, their sum, least and most, 0 with none

unfoldable pub delays_of : List Frame → List ℕ
delays_of [] = []
delays_of (f ∷ fs) = cond f.lost (delays_of fs) (f.delay ∷ delays_of fs)

unfoldable pub sum_of : List ℕ → ℕ
sum_of [] = 0
sum_of (d ∷ ds) = d + sum_of ds

unfoldable pub least_of : List ℕ → ℕ
least_of [] = 0
least_of (d ∷ []) = d
least_of (d ∷ e ∷ ds) = min d (least_of (e ∷ ds))

unfoldable pub most_of : List ℕ → ℕ
most_of [] = 0
most_of (d ∷ ds) = max d (most_of ds)

-- the interval that the frames make
unfoldable pub measured : LabelSettings → ℕ → Bool → List Frame → Interval
measured l number maintenance fs =
    record {
      number = number;
      sent = length fs;
      lost = count_if is_lost fs;
      late = count_if (is_late l.dl) fs;
      pairs = pairs_if is_pair fs;
      jumpy = pairs_if (is_jumpy l.jt) fs;
      sum = sum_of (delays_of fs);
      least = least_of (delays_of fs);
      most = most_of (delays_of fs);
      maintenance = maintenance;
    }
