-- Each rule of a valid summary as a fact, taken out of the list of rules by its place.
-- Assumes nothing.
use mathlib.Core.Path.{◌≡◌, refl, subst}
use mathlib.Core.Bool.{Bool, true, false}
use mathlib.Core.List.{List}
use Prim.Native.Nat.{ℕ, ◌-◌, ◌≤◌}
use native.Mathlib.Omega.{arith}
use borrow.Author.Tests.{leb-true, eqb-true}
use Rattle.std.specs.Prelude.{Some}
use Rattle.numbers.specs.Limits.{intervals}
use Rattle.numbers.specs.Rules.{all_met}
use Rattle.numbers.proofs.Rules.{rule_met}
use Rattle.settings.specs.Settings.{label_meets}
use Rattle.track_rules.proofs.Meeting.{track_met}
use Rattle.track_rules.specs.Meets.{track_meets}
use Rattle.tracks.proofs.Serving.{count_valid}
use Rattle.tracks.specs.declared.Track.{Track}
use Rattle.tracks.specs.Tracks.{count_in}
use Rattle.tracks.specs.Valid.{TrackValid}
use Rattle.summaries.specs.Stored.{summary_in, header_rules, header_meets, track_rules, tracks_meet, summary_rules, summary_of, valid_if}
use Rattle.summaries.specs.declared.Summary.{Summary}

pub record SummaryValid (v : Summary) : Type 0 where
  pub ordered : v.first ≤ v.after
  pub within : v.after ≤ intervals
  pub settings : label_meets v.label ≡ true
  pub loss : TrackValid v.label.n v.label.p (v.after - v.first) v.loss
  pub composite : TrackValid v.label.n v.label.p (v.after - v.first) v.composite
  pub counts : count_in v.loss ≡ count_in v.composite

facts : (s : List ℕ) (v : Summary) → header_meets s v ≡ true → tracks_meet v ≡ true → SummaryValid v
unfolding header_meets header_rules tracks_meet track_rules
facts s v h t =
    record {
      ordered = leb-true v.first v.after (rule_met (header_rules s v) 0 h);
      within = leb-true v.after intervals (rule_met (header_rules s v) 1 h);
      settings = rule_met (header_rules s v) 2 h;
      loss = track_met v.label.n v.label.p (v.after - v.first) v.loss (rule_met (track_rules v) 0 t);
      composite = track_met v.label.n v.label.p (v.after - v.first) v.composite (rule_met (track_rules v) 1 t);
      counts = eqb-true (count_in v.loss) (count_in v.composite) (rule_met (track_rules v) 2 t);
    }

-- what is read is what stands in the bytes, and they meet every rule
pub taken_out : (t : Bool) (w v : Summary) → valid_if t w ≡ Some v → (t ≡ true) × (w ≡ v)
taken_out true w v e = (refl, (cc))
taken_out false w v e = let z : ◌≡◌ {A = ℕ} 0 1 = cc in absurd (omega arith)

pub summary_valid : (s : List ℕ) (v : Summary) → summary_of s ≡ Some v → SummaryValid v
unfolding summary_of summary_rules
summary_valid s v e =
    let r = taken_out (all_met (summary_rules s)) (summary_in s) v e in
    subst (λ w. SummaryValid w) r.1 (facts s (summary_in s) (rule_met (summary_rules s) 1 r.0) (rule_met (summary_rules s) 2 r.0))

-- a track that meets its rules counts at most its length, so that its count fits
pub count_of : (n p len : ℕ) (t : Track) → track_meets n p len t ≡ true → count_in t ≤ len
count_of n p len t h = count_valid n p len t (track_met n p len t h)
