-- Document 01's starred lines as one table, line by line in its order, each computed of the definitions. Labels are computed by the evaluator's labelling, which `labels_settle` proves to be 01's; a figure by the definition of a
-- report; the joined line by the join of two summaries, of which `whole` gives the tally (`whole_tally`), beside the definition's report on all three.
-- Assumes nothing.
use mathlib.Core.Path.{◌≡◌, refl}
use mathlib.Core.Bool.{true, false}
use mathlib.Core.List.{List, [], ◌∷◌, map}
use Prim.Native.Nat.{ℕ, ◌≤◌}
use lib.Dec.{lit≤}
use lib.ListN.{length}
use Rattle.numbers.specs.Limits.{million, largest_delay}
use Rattle.settings.specs.declared.LabelSettings.{LabelSettings}
use Rattle.intervals.specs.declared.Interval.{Interval}
use Rattle.measure.specs.Measured.{count_if, pairs_if, is_lost, is_late, is_pair, apart, is_jumpy, delays_of, sum_of, least_of, most_of, measured}
use Rattle.rule.specs.Evaluator.{settles, gain, turn, run, told, labelling}
use Rattle.rule.specs.Marks.{above, weighed, nothing_weighed, indicator, high_loss, high_composite}
use Rattle.rule.proofs.Labelling.{labels_settle}
use Rattle.labels.specs.Marked.{loss_mark}
use Rattle.tallies.specs.Report.{counted, resting, report}
use Rattle.tallies.specs.Seen.{marked_as}
use Rattle.tallies.specs.Tally.{is, counts, those, highs, number, first_all, begun, runs_of, total, delivering, smallest, greatest, totalled, tally}
use Rattle.runs.specs.Figures.{turned, idle, both, none, plus, reported}
use Rattle.runs.specs.Runs.{long, tie, closed, gross, load_of, single, glue, same, figures_of}
use Rattle.runs.specs.Middles.{unit, placed, verdict, shut, over, times_by, times}
use Rattle.tracks.specs.Tracks.{push, graft, join, push_all, summary, start, decided, finish, sorted, tallied, whole}
use Rattle.summaries.specs.Made.{made_of}
use Rattle.joining.specs.Joining.{joined_of}
use Rattle.starred.specs.Lines.{by, sent_lost, H, L, R, delivered, four, D, high_at, read, Labelled, of, Says}

labelled : (l : LabelSettings) (xs : List Interval) (labels : List ℕ) → 1 ≤ l.n → length labels ≡ length xs → labelling l.n (map (loss_mark l) xs) ≡ map read labels → Labelled l xs labels
labelled l xs labels p e f = record { each = e; right = λ k. rw f at (labels_settle l.n (map (loss_mark l) xs) p k) }

pub record Table : Type 0 where
  -- HHHLLL: 000111. HHHLLH: 000000. HHHLL: 00022. HH: 22. LHHL: 1111, two high, one run. HLH with n = 1 (p = 0): 010
  pub HHHLLL : Labelled (by 3 2) (H ∷ H ∷ H ∷ L ∷ L ∷ L ∷ []) (0 ∷ 0 ∷ 0 ∷ 1 ∷ 1 ∷ 1 ∷ [])
  pub HHHLLH : Labelled (by 3 2) (H ∷ H ∷ H ∷ L ∷ L ∷ H ∷ []) (0 ∷ 0 ∷ 0 ∷ 0 ∷ 0 ∷ 0 ∷ [])
  pub HHHLL : Labelled (by 3 2) (H ∷ H ∷ H ∷ L ∷ L ∷ []) (0 ∷ 0 ∷ 0 ∷ 2 ∷ 2 ∷ [])
  pub HH : Labelled (by 3 2) (H ∷ H ∷ []) (2 ∷ 2 ∷ [])
  pub LHHL : Labelled (by 3 2) (L ∷ H ∷ H ∷ L ∷ []) (1 ∷ 1 ∷ 1 ∷ 1 ∷ [])
  pub LHHL-high : Says (of (by 3 2) [] (L ∷ H ∷ H ∷ L ∷ []) []) 0 4 0 0 2 1
  pub HLH : Labelled (by 1 0) (H ∷ L ∷ H ∷ []) (0 ∷ 1 ∷ 0 ∷ [])
  -- L, H in maintenance, H, L: available 3, maintenance 1, high 1, runs 0
  pub LRHL : Says (of (by 3 2) [] (L ∷ R ∷ H ∷ L ∷ []) []) 1 3 0 0 1 0
  -- HH joined with H: unavailable 3. HHH with the period interval 1 only: unavailable 1
  pub HH-with-H : (whole 3 2 (joined_of (made_of (by 3 2) 0 (H ∷ H ∷ [])) (made_of (by 3 2) 2 (H ∷ []))).loss).unavailable ≡ 3
  pub HHH : Says (of (by 3 2) [] (H ∷ H ∷ H ∷ []) []) 0 0 3 0 0 0
  pub HHH-one : Says (of (by 3 2) (H ∷ []) (H ∷ []) (H ∷ [])) 0 0 1 0 0 0
  -- 10 sent, 5 lost: not high; 6 lost: high; none sent: not high
  pub five_of_ten : loss_mark (by 3 2) (sent_lost 10 5 false) ≡ false
  pub six_of_ten : loss_mark (by 3 2) (sent_lost 10 6 false) ≡ true
  pub none_sent : loss_mark (by 3 2) (sent_lost 0 0 false) ≡ false
  -- delays 1 ms, 5 ms, lost, 1 ms; DL 4 ms, Jt 2 ms, weights 7: D = 3/8. High at U = 374,999, not at 375,000
  pub three_eighths : D 7 four ≡ record { top = 3; bottom = 8 }
  pub above_374999 : high_at 374999 four ≡ true
  pub not_above_375000 : high_at 375000 four ≡ false
  -- variation weight alone, one delivered frame: D = 1
  pub no_pair : D 4 (delivered 0 1000000 ∷ []) ≡ record { top = 1; bottom = 1 }
  -- beyond 01's lines: five high in a row are one run and not two
  pub LHHHHHL : Says (of (by 9 2) [] (L ∷ H ∷ H ∷ H ∷ H ∷ H ∷ L ∷ []) []) 0 7 0 0 5 1

pub table : Table
unfolding high_loss high_composite above weighed nothing_weighed indicator million settles gain turn run told labelling report counted resting marked_as is counts those highs number first_all begun runs_of total delivering smallest greatest totalled tally measured count_if pairs_if is_lost is_late is_pair apart is_jumpy delays_of sum_of least_of most_of joined_of made_of whole summary push_all push graft join start decided finish sorted tallied single glue same figures_of load_of gross turned long tie closed unit placed verdict shut over times_by times idle both none plus reported largest_delay
table =
    record {
      HHHLLL = labelled (by 3 2) _ _ (lit≤ tt) refl refl;
      HHHLLH = labelled (by 3 2) _ _ (lit≤ tt) refl refl;
      HHHLL = labelled (by 3 2) _ _ (lit≤ tt) refl refl;
      HH = labelled (by 3 2) _ _ (lit≤ tt) refl refl;
      LHHL = labelled (by 3 2) _ _ (lit≤ tt) refl refl;
      LHHL-high = (refl, refl, refl, refl, refl, refl);
      HLH = labelled (by 1 0) _ _ (lit≤ tt) refl refl;
      LRHL = (refl, refl, refl, refl, refl, refl);
      HH-with-H = refl;
      HHH = (refl, refl, refl, refl, refl, refl);
      HHH-one = (refl, refl, refl, refl, refl, refl);
      five_of_ten = refl;
      six_of_ten = refl;
      none_sent = refl;
      three_eighths = refl;
      above_374999 = refl;
      not_above_375000 = refl;
      no_pair = refl;
      LHHHHHL = (refl, refl, refl, refl, refl, refl);
    }
