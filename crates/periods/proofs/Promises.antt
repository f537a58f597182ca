-- What is promised of summaries to those above. A summary that is made of intervals is read back, with their numbers and settings. The report of the middle
-- of three made ones is the definition's, by the labels of all that is known. And every report of three known ones, made or not, keeps to an interval's rules and accounts for each
-- interval of its period.
-- Assumes nothing.
use mathlib.Core.Path.{◌≡◌, refl, ap, sym, ◌∙◌, subst}
use mathlib.Core.Bool.{Bool, true, false, cond}
use mathlib.Core.List.{List, [], ◌∷◌, ◌++◌, map, map-append}
use Prim.Native.Nat.{ℕ, suc, ◌+◌, ◌-◌, ◌≤◌}
use native.Mathlib.Omega.{arith}
use lib.ListN.{length, length-map}
use Rattle.std.specs.Prelude.{Some}
use Rattle.numbers.specs.Limits.{intervals}
use Rattle.settings.specs.Settings.{label_meets}
use Rattle.settings.specs.declared.LabelSettings.{LabelSettings}
use Rattle.intervals.specs.declared.Interval.{Interval}
use Rattle.rule.specs.Labels.{Label}
use Rattle.labels.specs.Marked.{loss_mark, composite_mark}
use Rattle.tallies.specs.declared.Marked.{Marked}
use Rattle.tallies.specs.Bounds.{TallyBounded, PeriodBounded, Accounted}
use Rattle.tallies.specs.Report.{counted, resting, Labelled, report}
use Rattle.tallies.specs.Seen.{marked_as, loss_seen, composite_seen}
use Rattle.tallies.specs.Tally.{tally, totalled, Labels, marks, serving}
use Rattle.tallies.proofs.Valid.{AllValid}
use Rattle.track_rules.proofs.Marking.{all_sound}
use Rattle.tracks.specs.declared.Track.{Track}
use Rattle.tracks.specs.Tracks.{join, quiet, summary, count_in}
use Rattle.tracks.specs.Valid.{TrackValid}
use Rattle.tracks.proofs.Bounding.{whole_bounded, whole_count}
use Rattle.tracks.proofs.Reading.{period_tally}
use Rattle.tracks.proofs.Serving.{count_join, count_summary, count_valid, count_none}
use Rattle.summaries.specs.Made.{made_of}
use Rattle.summaries.proofs.Made.{made_reads_back}
use Rattle.periods.specs.Between.{between, BetweenFits}
use Rattle.periods.specs.Stretches.{held_if, stretch_of, first_of, after_of, label_of, made_stretch, made_bytes, counts_of, period_of, Known, stretch_held, first_held, after_held, label_held, made_held, bytes_held, period_held}
use Rattle.periods.specs.declared.Stretch.{Stretch}
use Rattle.periods.proofs.Fits.{known_three, loss_fits, composite_fits, all_valid}

-- a made summary

pub made_read :
    (l : LabelSettings) (first : ℕ) (vs : List Interval) → label_meets l ≡ true → AllValid vs → first + length vs ≤ intervals → stretch_of (made_bytes l first vs) ≡ Some (made_stretch l first vs)
made_read l first vs settings valid room =
    rw (stretch_held (made_bytes l first vs), bytes_held l first vs, made_held l first vs) (ap held_if (made_reads_back l first vs settings valid room))

pub made_first : (l : LabelSettings) (first : ℕ) (vs : List Interval) → first_of (made_stretch l first vs) ≡ first
unfolding made_of
made_first l first vs = rw (first_held (made_stretch l first vs), made_held l first vs) refl

pub made_after : (l : LabelSettings) (first : ℕ) (vs : List Interval) → after_of (made_stretch l first vs) ≡ first + length vs
unfolding made_of
made_after l first vs = rw (after_held (made_stretch l first vs), made_held l first vs) refl

pub made_label : (l : LabelSettings) (first : ℕ) (vs : List Interval) → label_of (made_stretch l first vs) ≡ l
unfolding made_of
made_label l first vs = rw (label_held (made_stretch l first vs), made_held l first vs) refl

-- the report of made ones

marks_seen : (f : Interval → Bool) (vs : List Interval) → marks (map (λ v. marked_as (f v) v) vs) ≡ map f vs
unfolding marked_as
marks_seen f [] = refl
marks_seen f (v ∷ vs) = rw (marks_seen f vs)

serving_resting : (f : Interval → Bool) (vs : List Interval) → serving (map (λ v. marked_as (f v) v) vs) + resting vs ≡ length vs
unfolding serving resting marked_as
serving_resting f [] = refl
serving_resting f (v ∷ vs) = by v.maintenance (serving_resting f vs)
  where
    by :
        (b : Bool) → serving (map (λ v. marked_as (f v) v) vs) + resting vs ≡ length vs →
        cond b (serving (map (λ v. marked_as (f v) v) vs)) (suc (serving (map (λ v. marked_as (f v) v) vs))) + cond b (suc (resting vs)) (resting vs) ≡ suc (length vs)
    by true h = omega arith
    by false h = omega arith

tally_counts : (p : ℕ) (at : ℕ → Label) (k : ℕ) (xs : List Marked) → counts_of (tally p at k xs) ≡ counted at k xs
unfolding tally totalled counted
tally_counts p at k xs = refl

module _ (l : LabelSettings) (some : 1 ≤ l.n) (before middle behind : List Interval) (valid : AllValid middle) where
  between_made :
      (f : Interval → Bool) (at : ℕ → Label) → Labels l.n (map f (before ++ (middle ++ behind))) at →
      between l.n l.p (summary l.n l.p (map (λ v. marked_as (f v) v) before)) (summary l.n l.p (map (λ v. marked_as (f v) v) middle))
      (summary l.n l.p (map (λ v. marked_as (f v) v) behind))
      ≡ tally l.p at (length before) (map (λ v. marked_as (f v) v) middle)
  unfolding between
  between_made f at known =
      period_tally l.n l.p some (map (λ v. marked_as (f v) v) before) (map (λ v. marked_as (f v) v) middle) (map (λ v. marked_as (f v) v) behind) (all_sound f middle valid) at
      (subst (λ ms. Labels l.n ms at) (sym (ap marks seen_all ∙ marks_seen f (before ++ (middle ++ behind)))) known)
      ∙ ap (λ k. tally l.p at k (map (λ v. marked_as (f v) v) middle)) (length-map before (λ v. marked_as (f v) v))
    where
      seen_all :
          map (λ v. marked_as (f v) v) before ++ (map (λ v. marked_as (f v) v) middle ++ map (λ v. marked_as (f v) v) behind)
          ≡ map (λ v. marked_as (f v) v) (before ++ (middle ++ behind))
      seen_all = rw (map-append (λ v. marked_as (f v) v) before (middle ++ behind), map-append (λ v. marked_as (f v) v) middle behind) refl

  length_made : length before + length middle - length before ≡ length middle
  length_made = omega arith

  maintenance_made : length before + length middle - length before - count_in (summary l.n l.p (map (loss_seen l) middle)) ≡ resting middle
  maintenance_made = omega (arith, count_summary l.n l.p (map (loss_seen l) middle), serving_resting (loss_mark l) middle)

  -- The report on before, period and after is the definition's over the sequence so far.
  pub period_defined :
      (loss composite : ℕ → Label) → Labelled l (before ++ (middle ++ behind)) loss composite →
      period_of (made_stretch l 0 before) (made_stretch l (length before) middle) (made_stretch l (length before + length middle) behind) ≡ report l loss composite (length before) middle
  unfolding made_of report
  period_defined loss composite h =
      rw (
        period_held (made_stretch l 0 before) (made_stretch l (length before) middle) (made_stretch l (length before + length middle) behind),
        made_held l 0 before,
        made_held l (length before) middle,
        made_held l (length before + length middle) behind,
      )
      (λ i.
      record {
        length = length_made i;
        maintenance = maintenance_made i;
        loss = between_made (loss_mark l) loss h.by_loss i;
        composite = (ap counts_of (between_made (composite_mark l) composite h.by_composite) ∙ tally_counts l.p composite (length before) (map (composite_seen l) middle)) i;
      })

-- every report of three known ones

between_count : (n p : ℕ) (a b c : Track) → (between n p a b c).available.count + (between n p a b c).unavailable + (between n p a b c).undecided.count ≡ count_in b
unfolding between
between_count n p a b c =
    omega (
      arith,
      whole_count n p (join n p (join n p (quiet a) b) (quiet c)),
      count_join n p (join n p (quiet a) b) (quiet c),
      count_join n p (quiet a) b,
      count_none a,
      count_none c,
    )

between_bounded : (n p : ℕ) (a b c : Track) → BetweenFits n p a b c → (len : ℕ) → TrackValid n p len b → TallyBounded p len (between n p a b c)
unfolding between
between_bounded n p a b c f len valid =
    let w = whole_bounded n p (f.i + f.j + f.k) (join n p (join n p (quiet a) b) (quiet c)) (all_valid n p a b c f) in
    record { available = w.available; undecided = w.undecided; counted = omega (arith, between_count n p a b c, count_valid n p len b valid) }

pub period_bounded : (a b c : Stretch) → Known a b c → PeriodBounded (label_of b).p (period_of a b c)
period_bounded a b c h =
    let t = known_three a b c h in
    let loss = between_bounded b.held.label.n b.held.label.p a.held.loss b.held.loss c.held.loss (loss_fits a b c t) (b.held.after - b.held.first) t.middle.loss in
    let composite = between_bounded b.held.label.n b.held.label.p a.held.composite b.held.composite c.held.composite (composite_fits a b c t) (b.held.after - b.held.first) t.middle.composite in
    rw (period_held a b c, label_held b) (record { long = omega (arith, t.middle.within); loss = loss; counted = composite.counted })

pub period_accounted : (a b c : Stretch) → Known a b c → Accounted (period_of a b c)
period_accounted a b c h =
    let m = (known_three a b c h).middle in
    let n = b.held.label.n in
    let p = b.held.label.p in
    let few = count_valid n p (b.held.after - b.held.first) b.held.loss m.loss in
    rw (period_held a b c)
    (record {
      loss = omega (arith, few, between_count n p a.held.loss b.held.loss c.held.loss);
      composite = omega (arith, few, m.counts, between_count n p a.held.composite b.held.composite c.held.composite);
    })
