-- The summary record, 1,024 bytes: the stretch's numbers, the label settings, the loss track, the composite track, and spare bytes.
use Rattle.std.specs.Prelude.{ℕ, ◌-◌, Bool, true, false, List, [], ◌∷◌, ◌++◌, length, get_or, take, drop, leb, eqb, Option, Some, None}
use Rattle.numbers.specs.Bytes.{number_at, are_zero, bytes_of}
use Rattle.numbers.specs.Limits.{intervals}
use Rattle.numbers.specs.Rules.{all_met}
use Rattle.settings.specs.Settings.{label_in, label_meets, label_bytes}
use Rattle.layout.specs.Bytes.{track_bytes}
use Rattle.layout.specs.Reading.{track_in, words_meet}
use Rattle.track_rules.specs.Meets.{track_meets}
use Rattle.tracks.specs.Tracks.{count_in}
use Rattle.summaries.specs.declared.Summary.{Summary}

-- where each value stands
unfoldable pub summary_in : List ℕ → Summary
summary_in s =
    record {
      first = number_at 4 s 0;
      after = number_at 4 s 4;
      label = label_in (take 24 (drop 8 s));
      loss = track_in s 32;
      composite = track_in s 248;
    }

-- the rules, a line each: on the numbers, the label settings with their spare byte, the words of both tracks, the spare bytes
unfoldable pub header_rules : List ℕ → Summary → List Bool
header_rules s v =
    leb v.first v.after
    ∷ leb v.after intervals
    ∷ label_meets v.label
    ∷ eqb (get_or s 15 0) 0
    ∷ words_meet s 32
    ∷ words_meet s 248
    ∷ are_zero 560 s 464
    ∷ []

unfoldable pub header_meets : List ℕ → Summary → Bool
header_meets s v = all_met (header_rules s v)

-- each track is one of as many intervals as the stretch has, and both count the same
unfoldable pub track_rules : Summary → List Bool
track_rules v =
    track_meets v.label.n v.label.p (v.after - v.first) v.loss
    ∷ track_meets v.label.n v.label.p (v.after - v.first) v.composite
    ∷ eqb (count_in v.loss) (count_in v.composite)
    ∷ []

unfoldable pub tracks_meet : Summary → Bool
tracks_meet v = all_met (track_rules v)

unfoldable pub summary_rules : List ℕ → List Bool
summary_rules s = eqb (length s) 1024 ∷ header_meets s (summary_in s) ∷ tracks_meet (summary_in s) ∷ []

abbrev pub valid_if : Bool → Summary → Option Summary
valid_if true v = Some v
valid_if false v = None

-- what the bytes say, if they meet every rule
unfoldable pub summary_of : List ℕ → Option Summary
summary_of s = valid_if (all_met (summary_rules s)) (summary_in s)

-- the 1,024 bytes of the values
unfoldable pub summary_bytes : Summary → List ℕ
summary_bytes v =
    bytes_of 4 v.first
    ++ (bytes_of 4 v.after ++ (label_bytes v.label ++ (track_bytes v.loss ++ (track_bytes v.composite ++ bytes_of 560 0))))
