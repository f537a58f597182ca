-- Reports on summaries that are made of intervals are the definition's: each summary is read back at its place, all tests pass, and what is answered is the
-- definition's report, by the labels of the full known sequence.
-- Assumes nothing.
use mathlib.Core.Path.{◌≡◌, refl, ap, sym, ◌∙◌}
use mathlib.Core.Bool.{true}
use mathlib.Core.List.{List, [], ◌++◌, append_assoc, append-nil}
use Prim.Native.Nat.{ℕ, ◌+◌, ◌*◌, ◌/◌, ◌≤◌, ◌<◌}
use native.Mathlib.Omega.{arith}
use lib.ListN.{length, take, drop, length-append}
use lib.Seq.{take_at, drop_at}
use borrow.Author.Tests.{eq-eqb}
use Rattle.std.specs.Prelude.{Option, Some, None, Ok}
use Rattle.numbers.specs.Limits.{intervals}
use Rattle.numbers.specs.Many.{record_at}
use Rattle.numbers.proofs.Parts.{record_there}
use Rattle.settings.specs.Settings.{label_meets, same_label}
use Rattle.settings.specs.declared.LabelSettings.{LabelSettings}
use Rattle.settings.proofs.SettingsRecord.{label_valid, same_label_self}
use Rattle.intervals.specs.declared.Interval.{Interval}
use Rattle.tallies.specs.Report.{Labelled}
use Rattle.tallies.proofs.Valid.{AllValid}
use Rattle.periods.specs.Stretches.{stretch_of, first_of, after_of, label_of, made_stretch, made_bytes}
use Rattle.periods.proofs.Promises.{made_read, made_first, made_after, made_label, period_defined}
use Rattle.periods.proofs.Sizes.{size_made}
use Rattle.reports.specs.Circuits.{Circuit, three_bytes, defined}
use Rattle.reports.specs.Three.{unless, suits, summary_at, three_at, report_of}
use Rattle.reports.proofs.Judging.{adjoined, all_read}

-- a circuit of valid intervals, no more than there are, with its labels
pub record Sound (l : LabelSettings) (x : Circuit) : Type 0 where
  pub before : AllValid x.before
  pub middle : AllValid x.middle
  pub behind : AllValid x.behind
  pub room : length x.before + length x.middle + length x.behind ≤ intervals
  pub labelled : Labelled l (x.before ++ (x.middle ++ x.behind)) x.loss x.composite

-- a record among others
record_at_lem : (s front x y : List ℕ) (k : ℕ) → s ≡ front ++ (x ++ y) → length front ≡ k * 1024 → length x ≡ 1024 → record_at s 1024 k ≡ x
record_at_lem s front x y k e f g =
    let n : length s ≡ length front + (length x + length y) = ap length e ∙ simp length-append in
    let h : k < length s / 1024 = omega arith in
    record_there s 1024 k (omega arith) h
    ∙ ap (λ t. take 1024 (drop (k * 1024) t)) e
    ∙ ap (take 1024) (drop_at front (x ++ y) (k * 1024) f)
    ∙ take_at x y 1024 g

-- three made summaries among others

alike : (l : LabelSettings) (j k : ℕ) (vs ws : List Interval) → same_label (label_of (made_stretch l j vs)) (label_of (made_stretch l k ws)) ≡ true
alike l j k vs ws = rw (made_label l j vs, made_label l k ws) (same_label_self l)

pub size_three : (l : LabelSettings) (x : Circuit) → length (three_bytes l x) ≡ 3072
unfolding three_bytes
size_three l x = simp (length-append, size_made)

module _ (l : LabelSettings) (valid : label_meets l ≡ true) (x : Circuit) (sound : Sound l x) (front rest : List ℕ) (base : ℕ) (e : length front ≡ base * 1024) where
  left_read : summary_at (front ++ (three_bytes l x ++ rest)) base ≡ Some (made_stretch l 0 x.before)
  unfolding three_bytes
  left_read =
      let a : List ℕ = made_bytes l 0 x.before in
      let b : List ℕ = made_bytes l (length x.before) x.middle in
      let c : List ℕ = made_bytes l (length x.before + length x.middle) x.behind in
      ap stretch_of (record_at_lem _ front a ((b ++ c) ++ rest) base (simp append_assoc) e (size_made l 0 x.before))
      ∙ made_read l 0 x.before valid sound.before (omega (arith, sound.room))

  middle_read : summary_at (front ++ (three_bytes l x ++ rest)) (base + 1) ≡ Some (made_stretch l (length x.before) x.middle)
  unfolding three_bytes
  middle_read =
      let a : List ℕ = made_bytes l 0 x.before in
      let b : List ℕ = made_bytes l (length x.before) x.middle in
      let c : List ℕ = made_bytes l (length x.before + length x.middle) x.behind in
      ap stretch_of
      (record_at_lem _ (front ++ a) b (c ++ rest) (base + 1) (simp append_assoc) (omega (arith, length-append front a, size_made l 0 x.before)) (size_made l (length x.before) x.middle))
      ∙ made_read l (length x.before) x.middle valid sound.middle (omega (arith, sound.room))

  right_read : summary_at (front ++ (three_bytes l x ++ rest)) (base + 2) ≡ Some (made_stretch l (length x.before + length x.middle) x.behind)
  unfolding three_bytes
  right_read =
      let a : List ℕ = made_bytes l 0 x.before in
      let b : List ℕ = made_bytes l (length x.before) x.middle in
      let c : List ℕ = made_bytes l (length x.before + length x.middle) x.behind in
      ap stretch_of
      (record_at_lem _ ((front ++ a) ++ b) c rest (base + 2) (simp append_assoc)
      (omega (arith, length-append (front ++ a) b, length-append front a, size_made l 0 x.before, size_made l (length x.before) x.middle)) (size_made l (length x.before + length x.middle) x.behind))
      ∙ made_read l (length x.before + length x.middle) x.behind valid sound.behind sound.room

  pub three_defined : (w : Option LabelSettings) → suits w l ≡ true → three_at w (front ++ (three_bytes l x ++ rest)) base ≡ Ok (defined l x)
  three_defined w suit =
      let i = length x.before in
      let j = length x.before + length x.middle in
      all_read w (front ++ (three_bytes l x ++ rest)) base (made_stretch l 0 x.before) left_read (made_stretch l i x.middle) middle_read (made_stretch l j x.behind) right_read
      ∙ adjoined w base (made_stretch l 0 x.before) (made_stretch l i x.middle) (made_stretch l j x.behind) (ap (suits w) (made_label l 0 x.before) ∙ suit)
      (alike l 0 i x.before x.middle) (alike l i j x.middle x.behind)
      (eq-eqb (first_of (made_stretch l 0 x.before)) 0 (made_first l 0 x.before))
      (eq-eqb (after_of (made_stretch l 0 x.before)) (first_of (made_stretch l i x.middle)) (omega (arith, made_after l 0 x.before, made_first l i x.middle)))
      (eq-eqb (after_of (made_stretch l i x.middle)) (first_of (made_stretch l j x.behind)) (omega (arith, made_after l i x.middle, made_first l j x.behind)))
      ∙ ap Ok (period_defined l (label_valid l valid).n_facts.0 x.before x.middle x.behind sound.middle x.loss x.composite sound.labelled)

-- The report on before, period and after is the definition's over the sequence so far.
pub report_defined : (l : LabelSettings) → label_meets l ≡ true → (x : Circuit) → Sound l x → report_of (three_bytes l x) ≡ Ok (defined l x)
unfolding report_of unless
report_defined l valid x sound =
    rw (eq-eqb (length (three_bytes l x)) 3072 (size_three l x))
    (ap (λ s. three_at None s 0) (sym (append-nil (three_bytes l x))) ∙ three_defined l valid x sound [] [] 0 refl None refl)
