-- A stretch cut anywhere: the summary of all its intervals is the join of those of its two parts, on values and so in bytes.
-- Assumes nothing.
use mathlib.Core.Path.{◌≡◌, ap, sym, ◌∙◌}
use mathlib.Core.List.{List, ◌++◌, map, map-append}
use Prim.Native.Nat.{ℕ, ◌+◌}
use native.Mathlib.Nat.{add_assoc}
use lib.ListN.{length, length-append}
use Rattle.settings.specs.declared.LabelSettings.{LabelSettings}
use Rattle.intervals.specs.declared.Interval.{Interval}
use Rattle.tallies.specs.Seen.{loss_seen, composite_seen}
use Rattle.tracks.specs.Tracks.{summary}
use Rattle.tracks.proofs.Joining.{summary_append}
use Rattle.summaries.specs.Stored.{summary_bytes}
use Rattle.summaries.specs.Made.{made_of}
use Rattle.joining.specs.Joining.{joined_of}

pub join_made :
    (l : LabelSettings) (first : ℕ) (xs ys : List Interval) → made_of l first (xs ++ ys) ≡ joined_of (made_of l first xs) (made_of l (first + length xs) ys)
unfolding made_of joined_of
join_made l first xs ys =
    λ i.
    record {
      first = first;
      after = (ap (λ k. first + k) (length-append xs ys) ∙ sym (add_assoc first (length xs) (length ys))) i;
      label = l;
      loss =
          (ap (summary l.n l.p) (map-append (loss_seen l) xs ys) ∙ summary_append l.n l.p (map (loss_seen l) xs) (map (loss_seen l) ys)) i;
      composite =
          (ap (summary l.n l.p) (map-append (composite_seen l) xs ys) ∙ summary_append l.n l.p (map (composite_seen l) xs) (map (composite_seen l) ys)) i;
    }

-- so the bytes of the uncut stretch are those of its parts, joined
pub join_made_bytes :
    (l : LabelSettings) (first : ℕ) (xs ys : List Interval) →
    summary_bytes (made_of l first (xs ++ ys)) ≡ summary_bytes (joined_of (made_of l first xs) (made_of l (first + length xs) ys))
join_made_bytes l first xs ys = ap summary_bytes (join_made l first xs ys)
