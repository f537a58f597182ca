-- A summary made of valid intervals meets every rule, so that its bytes read back.
-- Assumes nothing.
use mathlib.Core.Path.{◌≡◌, refl, ap, sym, ◌∙◌}
use mathlib.Core.Bool.{Bool, true, cond}
use mathlib.Core.List.{List, [], ◌∷◌, map}
use Prim.Native.Nat.{ℕ, suc, ◌+◌, ◌-◌, ◌≤◌}
use native.Mathlib.Omega.{arith}
use lib.ListN.{length, length-map}
use Rattle.std.specs.Prelude.{Some}
use Rattle.numbers.specs.Limits.{intervals}
use Rattle.settings.specs.Settings.{label_meets}
use Rattle.settings.specs.declared.LabelSettings.{LabelSettings}
use Rattle.intervals.specs.declared.Interval.{Interval}
use Rattle.labels.specs.Marked.{loss_mark, composite_mark}
use Rattle.tallies.specs.Seen.{marked_as, loss_seen, composite_seen}
use Rattle.tallies.proofs.Valid.{AllValid}
use Rattle.track_rules.proofs.Marking.{all_sound}
use Rattle.tallies.specs.Tally.{serving}
use Rattle.tracks.proofs.Keeping.{made_valid}
use Rattle.tracks.proofs.Serving.{count_summary}
use Rattle.summaries.specs.Stored.{summary_of, summary_bytes}
use Rattle.summaries.proofs.RoundTrip.{read_write}
use Rattle.summaries.proofs.Validity.{SummaryValid}
use Rattle.summaries.specs.Made.{made_of}

-- maintenance is the same on both tracks
serving_same : (f g : Interval → Bool) (vs : List Interval) → serving (map (λ v. marked_as (f v) v) vs) ≡ serving (map (λ v. marked_as (g v) v) vs)
unfolding serving marked_as
serving_same f g [] = refl
serving_same f g (v ∷ vs) = ap (λ k. cond v.maintenance k (suc k)) (serving_same f g vs)

-- a summary of valid intervals is valid
pub made_summary_valid :
    (l : LabelSettings) (first : ℕ) (vs : List Interval) → label_meets l ≡ true → AllValid vs → first + length vs ≤ intervals → SummaryValid (made_of l first vs)
unfolding made_of
made_summary_valid l first vs settings valid room =
    let e : first + length vs - first ≡ length vs = omega arith in
    record {
      ordered = omega arith;
      within = room;
      settings = settings;
      loss =
          rw (e, sym (length-map vs (loss_seen l))) (made_valid l.n l.p (map (loss_seen l) vs) (all_sound (loss_mark l) vs valid));
      composite =
          rw (e, sym (length-map vs (composite_seen l))) (made_valid l.n l.p (map (composite_seen l) vs) (all_sound (composite_mark l) vs valid));
      counts =
          count_summary l.n l.p (map (loss_seen l) vs) ∙ serving_same (loss_mark l) (composite_mark l) vs ∙ sym (count_summary l.n l.p (map (composite_seen l) vs));
    }

pub made_reads_back :
    (l : LabelSettings) (first : ℕ) (vs : List Interval) →
    label_meets l ≡ true → AllValid vs → first + length vs ≤ intervals → summary_of (summary_bytes (made_of l first vs)) ≡ Some (made_of l first vs)
made_reads_back l first vs settings valid room = read_write (made_of l first vs) (made_summary_valid l first vs settings valid room)
