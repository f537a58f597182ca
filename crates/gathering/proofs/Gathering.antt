-- What the records from the k-th on make of the tracks so far: one law for each thing that a record can be, and the end.
-- Assumes nothing.
use mathlib.Core.Path.{◌≡◌, ap, ◌∙◌}
use mathlib.Core.List.{List, ◌∷◌}
use Prim.Native.Nat.{ℕ, suc, ◌+◌, ◌-◌, ◌/◌, ◌≤◌, ◌<◌}
use native.Mathlib.Nat.{add-zero}
use native.Mathlib.Omega.{arith}
use lib.ListN.{length}
use borrow.Author.Tests.{eq-eqb, ne_eqb}
use Rattle.std.specs.Prelude.{Some, None, Ok, Err}
use Rattle.numbers.specs.Many.{record_at}
use Rattle.numbers.specs.Refusals.{refusal}
use Rattle.numbers.specs.declared.refusal.Fault.{Fault}
use Rattle.settings.specs.declared.LabelSettings.{LabelSettings}
use Rattle.intervals.specs.Interval.{interval_of}
use Rattle.intervals.specs.Sequence.{reads_from, checked}
use Rattle.intervals.specs.declared.Interval.{Interval}
use Rattle.intervals.proofs.Sequences.{reads_all, reads_next, reads_done}
use Rattle.labels.specs.Stretch.{intervals_of}
use Rattle.runs.specs.Runs.{single}
use Rattle.tallies.specs.Seen.{loss_seen, composite_seen}
use Rattle.tracks.specs.declared.Track.{Track}
use Rattle.tracks.specs.declared.Track.TheVariants.{Nothing, One}
use Rattle.tracks.specs.Tracks.{push, push_all, summary}
use Rattle.summaries.specs.Made.{made_of}
use Rattle.gathering.specs.Gathering.{good_if, gathered, made_with, onwards}

-- an interval more behind the tracks
with_next :
    (l : LabelSettings) (first next : ℕ) (a b : Track) (v : Interval) (vs : List Interval) →
    made_with l first next a b (v ∷ vs)
    ≡ made_with l first (suc next) (push l.n l.p a (single (loss_seen l v))) (push l.n l.p b (single (composite_seen l v))) vs
unfolding made_with push_all
with_next l first next a b v vs = let e : next + suc (length vs) ≡ suc next + length vs = omega arith in rw e

module _ (l : LabelSettings) (first n k next : ℕ) (s : List ℕ) (a b : Track) where
  pub on_done :
      n ≤ k → onwards l first next k a b (reads_from (n - k) s k) ≡ Ok (record { first = first; after = next; label = l; loss = a; composite = b })
  unfolding onwards checked intervals_of made_with push_all
  on_done h = rw (reads_done n k s h, add-zero)

  pub on_invalid :
      k < n → interval_of (record_at s 48 k) ≡ None → onwards l first next k a b (reads_from (n - k) s k) ≡ Err (refusal Fault.Field k)
  unfolding onwards checked
  on_invalid h e = rw (reads_next n k s h, e)

  module _ (v : Interval) (h : k < n) (e : interval_of (record_at s 48 k) ≡ Some v) where
    pub on_disordered : (v.number ≡ next → ⊥) → onwards l first next k a b (reads_from (n - k) s k) ≡ Err (refusal Fault.Order k)
    unfolding onwards checked
    on_disordered other = rw (reads_next n k s h, e, ne_eqb v.number next other)

    pub on_next :
        v.number ≡ next →
        onwards l first next k a b (reads_from (n - k) s k)
        ≡ onwards l first (next + 1) (k + 1) (push l.n l.p a (single (loss_seen l v))) (push l.n l.p b (single (composite_seen l v)))
        (reads_from (n - (k + 1)) s (k + 1))
    unfolding onwards checked intervals_of
    on_next same =
        let f : next + 1 ≡ suc next = omega arith in
        let g : k + 1 ≡ suc k = omega arith in
        rw (reads_next n k s h, e, eq-eqb v.number next same, f, g)
        (ap (good_if (checked (suc next) (suc k) (reads_from (n - suc k) s (suc k)))) (with_next l first next a b v (intervals_of (reads_from (n - suc k) s (suc k)))))

-- from the first record on
pub from_first :
    (l : LabelSettings) (first : ℕ) (s : List ℕ) → gathered l first s ≡ onwards l first first 0 Nothing Nothing (reads_from (length s / 48 - 0) s 0)
unfolding gathered onwards made_of made_with summary
from_first l first s = ap (λ xs. good_if (checked first 0 xs) (made_of l first (intervals_of xs))) (reads_all s)

-- the first record makes the first runs
pub from_second :
    (l : LabelSettings) (first : ℕ) (s : List ℕ) (v : Interval) →
    0 < length s / 48 → interval_of (record_at s 48 0) ≡ Some v → v.number ≡ first →
    gathered l first s
    ≡ onwards l first (first + 1) 1 (One (single (loss_seen l v))) (One (single (composite_seen l v))) (reads_from (length s / 48 - 1) s 1)
unfolding push
from_second l first s v h e same = from_first l first s ∙ on_next l first (length s / 48) 0 first s Nothing Nothing v h e same
