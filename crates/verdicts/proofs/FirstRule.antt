-- 01's own rule, which withheld a verdict while its track had undecided intervals, and what 02's keeps of it: with nothing undecided both say the same, what 01's rule said
-- stands, and "not yet" is said no more often. All three hold because the figures of no undecided intervals are 0, so that the two reports are one.
-- Assumes nothing.
use mathlib.Core.Path.{◌≡◌, refl, sym, ap, ◌∙◌, subst}
use mathlib.Core.Logic.{◌≢◌}
use mathlib.Core.Bool.{Bool}
use mathlib.Core.List.{List, [], ◌∷◌}
use Prim.Native.Nat.{ℕ, zero, suc, ◌+◌, ◌-◌, ◌*◌}
use native.Mathlib.Omega.{arith}
use lib.Dec.{leb}
use Rattle.numbers.specs.Limits.{frames, million, largest_delay}
use Rattle.settings.specs.declared.Settings.{Settings}
use Rattle.tallies.specs.declared.Period.{Period}
use Rattle.tallies.specs.Bounds.{PeriodBounded}
use Rattle.verdicts.specs.declared.PerObjective.{PerObjective}
use Rattle.verdicts.specs.declared.Verdict.{Verdict}
use Rattle.verdicts.specs.Verdicts.{common, enough, loss_met, mean_met, met_by, agreed, asked, taken_as, verdicts_of}
use Rattle.verdicts.specs.Sets.{any, of_set}
use Rattle.verdicts.proofs.Fitting.{runs_few, sum_few}
use Rattle.verdicts.proofs.Gathering.{of_one, set_append}

-- the verdict of a test over what is settled, with so many intervals undecided
unfoldable pub withheld : ℕ → Bool → Verdict
withheld zero met = common met met
withheld (suc k) met = Verdict.NotYet

-- what becomes of a verdict, with so many undecided
pub record Kept (k : ℕ) (old new : Verdict) : Type 0 where
  pub as_before : k ≡ 0 → new ≡ old
  pub stays : old ≢ Verdict.NotYet → new ≡ old
  pub no_more_often : new ≡ Verdict.NotYet → old ≡ Verdict.NotYet

-- it is enough that with nothing undecided both ways give the test's answer
kept : (k : ℕ) (met a b : Bool) → (k ≡ 0 → (a ≡ met) × (b ≡ met)) → Kept k (withheld k met) (common a b)
unfolding withheld
kept zero met a b h =
    let same : common a b ≡ common met met = λ i. common ((h refl).0 i) ((h refl).1 i) in
    record { as_before = λ e. same; stays = λ d. same; no_more_often = λ e. sym same ∙ e }
kept (suc k) met a b h = record { as_before = λ e. absurd (omega arith); stays = λ d. absurd (d refl); no_more_often = λ e. refl }

-- on every report that can come out, objective by objective
module _ (v : Settings) (p : ℕ) (r : Period) (b : PeriodBounded p r) where
  abbrev plain : PerObjective Bool
  plain = met_by v (asked r)

  abbrev withholding : ℕ
  withholding = r.loss.undecided.count

  -- no undecided intervals, no figures of theirs
  high_same : withholding ≡ 0 → r.loss.available.high + r.loss.undecided.high ≡ r.loss.available.high
  high_same e = omega (arith, b.loss.undecided.high)

  runs_same : withholding ≡ 0 → r.loss.available.runs + r.loss.undecided.runs ≡ r.loss.available.runs
  runs_same e = omega (arith, b.loss.undecided.high, runs_few p _ b.loss.undecided)

  sent_same : withholding ≡ 0 → r.loss.available.sent + r.loss.undecided.sent ≡ r.loss.available.sent
  unfolding frames
  sent_same e = omega (arith, b.loss.undecided.few)

  lost_same : withholding ≡ 0 → r.loss.available.lost + r.loss.undecided.lost ≡ r.loss.available.lost
  lost_same e = omega (arith, sent_same e, b.loss.undecided.lost_of_sent)

  sum_same : withholding ≡ 0 → r.loss.available.sum + r.loss.undecided.sum ≡ r.loss.available.sum
  unfolding largest_delay
  sum_same e = omega (arith, sent_same e, sum_few p _ b.loss.undecided)

  pub availability_kept : Kept withholding (withheld withholding plain.availability) (verdicts_of v r).availability
  unfolding verdicts_of agreed met_by asked taken_as
  availability_kept =
      kept _ _ _ _ (λ e.
      let more : r.loss.available.count + withholding ≡ r.loss.available.count = omega arith in
      let less : r.loss.unavailable + withholding ≡ r.loss.unavailable = omega arith in
      ((λ i. enough v.availability (more i) r.loss.unavailable), (λ i. enough v.availability r.loss.available.count (less i))))

  pub composite_kept : Kept r.composite.undecided (withheld r.composite.undecided plain.composite) (verdicts_of v r).composite
  unfolding verdicts_of agreed met_by asked taken_as
  composite_kept =
      kept _ _ _ _ (λ e.
      let more : r.composite.available + r.composite.undecided ≡ r.composite.available = omega arith in
      let less : r.composite.unavailable + r.composite.undecided ≡ r.composite.unavailable = omega arith in
      ((λ i. enough v.composite (more i) r.composite.unavailable), (λ i. enough v.composite r.composite.available (less i))))

  pub loss_kept : Kept withholding (withheld withholding plain.loss) (verdicts_of v r).loss
  unfolding verdicts_of agreed met_by asked taken_as loss_met
  loss_kept = kept _ _ _ _ (λ e. ((λ i. leb (lost_same e i * million) (v.loss * sent_same e i)), refl))

  pub mean_kept : Kept withholding (withheld withholding plain.mean) (verdicts_of v r).mean
  unfolding verdicts_of agreed met_by asked taken_as mean_met
  mean_kept = kept _ _ _ _ (λ e. ((λ i. leb (sum_same e i) (v.mean * (sent_same e i - lost_same e i))), refl))

  pub high_kept : Kept withholding (withheld withholding plain.high) (verdicts_of v r).high
  unfolding verdicts_of agreed met_by asked taken_as
  high_kept = kept _ _ _ _ (λ e. ((λ i. leb (high_same e i) v.high), refl))

  pub runs_kept : Kept withholding (withheld withholding plain.runs) (verdicts_of v r).runs
  unfolding verdicts_of agreed met_by asked taken_as
  runs_kept = kept _ _ _ _ (λ e. ((λ i. leb (runs_same e i) v.runs), refl))

-- For a set, one objective: what its pairs keep, it keeps.

-- a verdict stays, or it was "not yet"
data Stays : Verdict → Verdict → Type 0 where
  same : {a : Verdict} → Stays a a
  opened : {b : Verdict} → Stays Verdict.NotYet b

stays_by : (k : ℕ) (a b : Verdict) → Kept k a b → Stays a b
stays_by k Verdict.NotYet b h = opened
stays_by k Verdict.Met b h = subst (Stays Verdict.Met) (sym (h.stays (λ e. let z : ◌≡◌ {A = ℕ} 0 1 = cc in omega arith))) same
stays_by k Verdict.NotMet b h = subst (Stays Verdict.NotMet) (sym (h.stays (λ e. let z : ◌≡◌ {A = ℕ} 0 1 = cc in omega arith))) same

-- and so does that of two

first_opened : (b c : Verdict) → Stays (of_set (Verdict.NotYet ∷ c ∷ [])) (of_set (b ∷ c ∷ []))
unfolding any of_set
first_opened Verdict.NotMet Verdict.NotMet = same
first_opened Verdict.Met Verdict.NotMet = same
first_opened Verdict.NotYet Verdict.NotMet = same
first_opened b Verdict.Met = opened
first_opened b Verdict.NotYet = opened

second_opened : (a d : Verdict) → Stays (of_set (a ∷ Verdict.NotYet ∷ [])) (of_set (a ∷ d ∷ []))
unfolding any of_set
second_opened Verdict.NotMet d = same
second_opened Verdict.Met d = opened
second_opened Verdict.NotYet d = opened

both_opened : (b d : Verdict) → Stays (of_set (Verdict.NotYet ∷ Verdict.NotYet ∷ [])) (of_set (b ∷ d ∷ []))
unfolding any of_set
both_opened b d = opened

stays_both : {a b c d : Verdict} → Stays a b → Stays c d → Stays (of_set (a ∷ c ∷ [])) (of_set (b ∷ d ∷ []))
stays_both same same = same
stays_both same opened = second_opened _ _
stays_both opened same = first_opened _ _
stays_both opened opened = both_opened _ _

-- the verdicts of the pairs before and now, one after the other
unfoldable pub AllKept : List Verdict → List Verdict → Type 0
AllKept [] [] = Unit {0}
AllKept [] (b ∷ news) = ⊥
AllKept (a ∷ olds) [] = ⊥
AllKept (a ∷ olds) (b ∷ news) = ((k : ℕ) × Kept k a b) × AllKept olds news

first_of_all : (a : Verdict) (olds : List Verdict) → of_set (a ∷ olds) ≡ of_set (a ∷ of_set olds ∷ [])
first_of_all a olds = set_append (a ∷ []) olds ∙ ap (λ x. of_set (x ∷ of_set olds ∷ [])) (of_one a)

all_stay : (olds news : List Verdict) → AllKept olds news → Stays (of_set olds) (of_set news)
unfolding AllKept
all_stay [] [] h = same
all_stay [] (b ∷ news) h = elim h [ ]
all_stay (a ∷ olds) [] h = elim h [ ]
all_stay (a ∷ olds) (b ∷ news) h = rw (first_of_all a olds, first_of_all b news) (stays_both (stays_by h.0.0 a b h.0.1) (all_stay olds news h.1))

pub set_kept : (olds news : List Verdict) → AllKept olds news → (of_set olds ≢ Verdict.NotYet → of_set news ≡ of_set olds) × (of_set news ≡ Verdict.NotYet → of_set olds ≡ Verdict.NotYet)
set_kept olds news h = by (all_stay olds news h)
  where
    by : {a b : Verdict} → Stays a b → (a ≢ Verdict.NotYet → b ≡ a) × (b ≡ Verdict.NotYet → a ≡ Verdict.NotYet)
    by same = ((λ d. refl), (λ e. e))
    by opened = ((λ d. absurd (d refl)), (λ e. refl))
