-- The figures of a report, its undecided intervals taken one way by sums, are those of the report by labels that are taken so: counts and sums for any labels, since each interval
-- is settled or undecided; runs because none lies across the border (Border, Splitting). So the verdicts by figures are those by labels.
-- Assumes nothing.
use mathlib.Core.Path.{◌≡◌, refl, sym, ◌∙◌}
use mathlib.Core.Bool.{Bool, true, false, not, cond, ◌&&◌}
use mathlib.Core.List.{List, [], ◌∷◌, ◌++◌, map, map-append}
use Prim.Native.Nat.{ℕ, suc, ◌+◌, ◌≤◌, ◌<◌}
use native.Mathlib.Omega.{arith}
use lib.ListN.{length, get_or, length-append, length-map, get_or-append}
use lib.Seq.{get_or-append-add}
use Rattle.settings.specs.declared.LabelSettings.{LabelSettings}
use Rattle.settings.specs.declared.Settings.{Settings}
use Rattle.intervals.specs.declared.Interval.{Interval}
use Rattle.rule.specs.Labels.{Label, settled, undecided, Begins}
use Rattle.rule.proofs.Continuing.{begins_by}
use Rattle.rule.proofs.Labelling.{undecided_last, meaning_one}
use Rattle.labels.specs.Marked.{loss_mark}
use Rattle.tallies.specs.declared.Marked.{Marked}
use Rattle.tallies.specs.Seen.{marked_as, loss_seen, composite_seen}
use Rattle.tallies.specs.Tally.{Labels, is, counts, those, highs, number, runs_of, total, totalled, tally}
use Rattle.tallies.specs.Report.{Labelled, counted, report}
use Rattle.verdicts.specs.Verdicts.{decided, taken, asked, met_by, agreed, verdicts_by, taken_as, verdicts_of}
use Rattle.verdicts.proofs.Border.{settled_not_undecided, no_run_across}
use Rattle.verdicts.proofs.Splitting.{Split, done, one, other, number_split, runs_split}

-- labels that agree on `want` count the same among those labelled so
same_counted :
    (want : Label) (a b : ℕ → Label) → ((i : ℕ) → is want (a i) ≡ is want (b i)) → (k : ℕ) (xs : List Marked) →
    (those want a k xs ≡ those want b k xs) × (highs want a k xs ≡ highs want b k xs)
unfolding those highs counts
same_counted want a b h k [] = (refl, refl)
same_counted want a b h k (x ∷ xs) = let r = same_counted want a b h (suc k) xs in (rw (h k, r.0), rw (h k, r.1))

-- taken one way, no more are labelled the other way
other_way : (b : Bool) (x : Label) → is (settled b) (decided (not b) x) ≡ is (settled b) x
unfolding is decided
other_way b (settled a) = refl
other_way true undecided = refl
other_way false undecided = refl

-- the sum of a figure over those taken as b: over those that are b, and over the undecided
total_taken :
    (g : Marked → ℕ) (b : Bool) (at : ℕ → Label) (k : ℕ) (xs : List Marked) →
    total g (those (settled b) (taken b at) k xs) ≡ total g (those (settled b) at k xs) + total g (those undecided at k xs)
unfolding those total counts is decided
total_taken g b at k [] = refl
total_taken g b at k (x ∷ xs) =
    by b (at k) x.maintenance (those (settled b) (taken b at) (suc k) xs) (those (settled b) at (suc k) xs) (those undecided at (suc k) xs) (total_taken g b at (suc k) xs)
  where
    by :
        (b : Bool) (l : Label) (m : Bool) (ts ss us : List Marked) → total g ts ≡ total g ss + total g us →
        total g (cond (is (settled b) (decided b l) && not m) (x ∷ ts) ts)
        ≡ total g (cond (is (settled b) l && not m) (x ∷ ss) ss) + total g (cond (is undecided l && not m) (x ∷ us) us)
    by true (settled true) true ts ss us e = e
    by true (settled true) false ts ss us e = omega arith
    by true (settled false) m ts ss us e = e
    by false (settled true) m ts ss us e = e
    by false (settled false) true ts ss us e = e
    by false (settled false) false ts ss us e = omega arith
    by true undecided true ts ss us e = e
    by true undecided false ts ss us e = omega arith
    by false undecided true ts ss us e = e
    by false undecided false ts ss us e = omega arith

length_total : (us : List Marked) → length us ≡ total (λ x. 1) us
unfolding total
length_total [] = refl
length_total (x ∷ us) = omega (arith, length_total us)

-- and so their number
count_taken :
    (b : Bool) (at : ℕ → Label) (k : ℕ) (xs : List Marked) →
    length (those (settled b) (taken b at) k xs) ≡ length (those (settled b) at k xs) + length (those undecided at k xs)
count_taken b at k xs =
    rw (length_total (those (settled b) (taken b at) k xs), length_total (those (settled b) at k xs), length_total (those undecided at k xs)) (total_taken (λ x. 1) b at k xs)

-- One track, on which m marks each interval, and the period among all that is known.
module _
    (n : ℕ) (m : Interval → Bool) (earlier period later : List Interval) (at : ℕ → Label) (some : 1 ≤ n) (L : Labels n (map m (earlier ++ (period ++ later))) at) where
  abbrev ms : List Bool
  ms = map m (earlier ++ (period ++ later))

  abbrev seen : List Interval → List Marked
  seen us = map (λ u. marked_as (m u) u) us

  next_undecided : (k : ℕ) → suc k < length ms → at k ≡ undecided → at (suc k) ≡ undecided
  unfolding Labels
  next_undecided k q e =
      meaning_one n ms (suc k) (at (suc k)) undecided (L (suc k) q) (undecided_last n ms some k (suc k) (omega arith) (rw e at (L k (omega arith))))

  -- Which of the intervals us, from k on, are high and available, high and undecided, and either. a and b: whether the interval before k is high and available, high and
  -- undecided; where k is of the other kind, it is not.

  abbrev Before : ℕ → Bool → Bool → Type 0
  Before k a b = (k < length ms → at k ≡ undecided → a ≡ false) × (k < length ms → (c : Bool) → at k ≡ settled c → b ≡ false)

  abbrev Splits : ℕ → Bool → Bool → List Interval → Type 0
  Splits k a b us = Split a b (highs (settled false) at k (seen us)) (highs undecided at k (seen us)) (highs (settled false) (taken false at) k (seen us))

  highs_split : (k : ℕ) (a b : Bool) (us : List Interval) → k + length us ≤ length ms → Begins (λ i. get_or ms i false) k (map m us) → Before k a b → Splits k a b us
  unfolding highs Begins counts is decided marked_as
  highs_split k a b [] h g f = done
  highs_split k a b (u ∷ us) h g f = by (at k) refl (λ c d e. highs_split (suc k) c d us (omega arith) g.1 e)
    where
      by : (l : Label) → at k ≡ l → ((c d : Bool) → Before (suc k) c d → Splits (suc k) c d us) → Splits k a b (u ∷ us)
      by (settled c) e r =
          let high = counts (settled false) (settled c) (marked_as (m u) u) && m u in
          rw e
          (one high (f.1 (omega arith) c e)
          (r high false ((λ q v. rw e at (no_run_across n ms at some L k (marked_as (m u) u) g.0 q c e v)), (λ q d v. refl))))
      by undecided e r =
          let high = counts undecided undecided (marked_as (m u) u) && m u in
          rw e
          (other high (f.0 (omega arith) e)
          (r false high ((λ q v. refl), (λ q d v. absurd (settled_not_undecided (sym v ∙ next_undecided k q e))))))

  -- so of the period, whatever stands before it
  period_split : Splits (length earlier) false false period
  period_split =
      highs_split (length earlier) false false period
      (omega (arith, length-map (earlier ++ (period ++ later)) m, length-append earlier (period ++ later), length-append period later))
      (begins_by (λ i. get_or ms i false) (map m period) (length earlier) false there) ((λ q e. refl), (λ q c e. refl))
    where
      there : (i : ℕ) → i < length (map m period) → get_or ms (length earlier + i) false ≡ get_or (map m period) i false
      there i q =
          rw (map-append m earlier (period ++ later), map-append m period later, ← length-map earlier m)
          (get_or-append-add (map m earlier) (map m period ++ map m later) i false ∙ get_or-append (map m period) (map m later) false i q)

-- The figures, taken by sums, are those of the report by labels that are taken.
module _
    (l : LabelSettings) (earlier period later : List Interval) (loss composite : ℕ → Label) (some : 1 ≤ l.n)
    (L : Labelled l (earlier ++ (period ++ later)) loss composite) where
  abbrev k : ℕ
  k = length earlier

  abbrev xs : List Marked
  xs = map (loss_seen l) period

  abbrev ys : List Marked
  ys = map (composite_seen l) period

  pub taken_defined : (b : Bool) → taken_as b (report l loss composite k period) ≡ asked (report l (taken b loss) (taken b composite) k period)
  unfolding taken_as asked report tally totalled counted
  taken_defined false =
      let split = period_split l.n (loss_mark l) earlier period later loss some L.by_loss in
      λ i.
      record {
        available = sym (count_taken false loss k xs) i;
        unavailable = length (sym (same_counted (settled true) (taken false loss) loss (λ j. other_way true (loss j)) k xs).0 i);
        acceptable = sym (count_taken false composite k ys) i;
        unacceptable = length (sym (same_counted (settled true) (taken false composite) composite (λ j. other_way true (composite j)) k ys).0 i);
        high = sym (number_split split) i;
        runs = sym (runs_split l.p split) i;
        sent = sym (total_taken (λ x. x.sent) false loss k xs) i;
        lost = sym (total_taken (λ x. x.lost) false loss k xs) i;
        sum = sym (total_taken (λ x. x.sum) false loss k xs) i;
      }
  taken_defined true =
      let same = same_counted (settled false) (taken true loss) loss (λ j. other_way false (loss j)) k xs in
      λ i.
      record {
        available = length (sym same.0 i);
        unavailable = sym (count_taken true loss k xs) i;
        acceptable = length (sym (same_counted (settled false) (taken true composite) composite (λ j. other_way false (composite j)) k ys).0 i);
        unacceptable = sym (count_taken true composite k ys) i;
        high = number (sym same.1 i);
        runs = runs_of l.p (sym same.1 i);
        sent = total (λ x. x.sent) (sym same.0 i);
        lost = total (λ x. x.lost) (sym same.0 i);
        sum = total (λ x. x.sum) (sym same.0 i);
      }

-- The verdicts by figures of a report by labels are the definition's.
pub verdicts_taken :
    (v : Settings) (earlier period later : List Interval) (loss composite : ℕ → Label) → 1 ≤ v.label.n → Labelled v.label (earlier ++ (period ++ later)) loss composite →
    verdicts_of v (report v.label loss composite (length earlier) period) ≡ verdicts_by v loss composite (length earlier) period
unfolding verdicts_of verdicts_by
verdicts_taken v earlier period later loss composite some L =
    let figures = taken_defined v.label earlier period later loss composite some L in
    λ i. agreed (met_by v (figures false i)) (met_by v (figures true i))
