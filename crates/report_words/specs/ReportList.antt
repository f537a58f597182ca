-- What `mip_report` and `mip_verdicts` answer and what they leave in the caller's words.
use Rattle.std.specs.Prelude.{ℕ, ◌*◌, ◌&&◌, List, [], ◌∷◌, ◌++◌, ◌≡◌, length, leb, eqb, Option, Some, None, Result, Ok, Err}
use Rattle.numbers.specs.Limits.{pairs}
use Rattle.numbers.specs.Refusals.{refusal}
use Rattle.numbers.specs.declared.refusal.Fault.{Fault}
use Rattle.settings.specs.Settings.{settings_of}
use Rattle.tallies.specs.declared.Period.{Period}
use Rattle.tallies.specs.declared.Totals.{Totals}
use Rattle.verdicts.specs.Verdicts.{verdict_number}
use Rattle.reports.specs.Three as three
use Rattle.reports.specs.Three.{three_at}
use Rattle.sets.specs.Sets as sets
use Rattle.sets.specs.Sets.{pairs_from, set_from}
use Rattle.words.specs.Written.{over}
use Rattle.words.specs.Word.{word_of}
use Rattle.settings.specs.declared.Settings.{Settings}
use Rattle.numbers.specs.declared.refusal.Refusal.{Refusal}
use Rattle.tallies.specs.declared.ByLabel.{ByLabel}
use Rattle.verdicts.specs.declared.PerObjective.{PerObjective}
use Rattle.verdicts.specs.declared.Verdict.{Verdict}

-- the fifteen figures of a report: counts, sums over the available intervals, and the counts of the composite track
abbrev pub count_words : Period → List ℕ
count_words r =
    r.length
    ∷ r.maintenance
    ∷ r.loss.available.count
    ∷ r.loss.unavailable
    ∷ r.loss.undecided.count
    ∷ r.loss.available.high
    ∷ r.loss.available.runs
    ∷ []

abbrev pub sum_words : Totals → List ℕ
sum_words t = t.sent ∷ t.lost ∷ t.sum ∷ t.least ∷ t.most ∷ []

abbrev pub composite_words : ByLabel ℕ → List ℕ
composite_words c = c.available ∷ c.unavailable ∷ c.undecided ∷ []

abbrev pub figure_words : Period → List ℕ
figure_words r = count_words r ++ (sum_words r.loss.available ++ composite_words r.composite)

-- the six verdicts by their numbers
abbrev pub verdict_words : PerObjective Verdict → List ℕ
verdict_words v =
    verdict_number v.availability
    ∷ verdict_number v.composite
    ∷ verdict_number v.loss
    ∷ verdict_number v.mean
    ∷ verdict_number v.high
    ∷ verdict_number v.runs
    ∷ []

-- `report`, with ROOM for 15 words behind LENGTH
unfoldable pub report_told : List ℕ → ℕ → Result Period Refusal
report_told s room = three.unless (eqb (length s) 3072) Fault.Length 0 (three.unless (leb 15 room) Fault.Room 0 (three_at None s 0))

abbrev pub report_word : Result Period Refusal → ℕ
report_word (Ok p) = 0
report_word (Err r) = word_of r

-- a refusal writes nothing
abbrev pub report_words : Result Period Refusal → List ℕ → List ℕ
report_words (Ok p) words = over (figure_words p) words
report_words (Err r) words = words

pub record ReportLeft (s before : List ℕ) (result : ℕ) (after : List ℕ) : Type 0 where
  pub word : result ≡ report_word (report_told s (length before))
  pub words : after ≡ report_words (report_told s (length before)) before

-- `verdicts`, with ROOM for 6 words behind SETTINGS, PAIRS and LENGTH
abbrev pub with_room : Option Settings → ℕ → List ℕ → ℕ → Result (PerObjective Verdict) Refusal
with_room None n s room = Err (refusal Fault.Settings 0)
with_room (Some v) n s room =
    sets.unless (leb 1 n && leb n pairs) Fault.Pairs
    (sets.unless (eqb (length s) (n * 3072)) Fault.Length (sets.unless (leb 6 room) Fault.Room (set_from v [] (pairs_from n v.label s 0))))

unfoldable pub verdicts_told : List ℕ → ℕ → List ℕ → ℕ → Result (PerObjective Verdict) Refusal
verdicts_told settings n s room = with_room (settings_of settings) n s room

abbrev pub verdicts_word : Result (PerObjective Verdict) Refusal → ℕ
verdicts_word (Ok v) = 0
verdicts_word (Err r) = word_of r

abbrev pub verdicts_words : Result (PerObjective Verdict) Refusal → List ℕ → List ℕ
verdicts_words (Ok v) words = over (verdict_words v) words
verdicts_words (Err r) words = words

pub record VerdictsLeft (settings : List ℕ) (n : ℕ) (s before : List ℕ) (result : ℕ) (after : List ℕ) : Type 0 where
  pub word : result ≡ verdicts_word (verdicts_told settings n s (length before))
  pub words : after ≡ verdicts_words (verdicts_told settings n s (length before)) before
