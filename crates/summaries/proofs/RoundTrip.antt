-- Both round trips of the summary record. `read_write`: what is written of a summary that meets the rules is read back as the same summary.
-- `write_read`: the bytes of a valid summary are the bytes written of its values. Each piece is read behind the pieces in front of it, whose
-- widths are known, and fits its fields by the rules.
-- Assumes nothing.
use mathlib.Core.Path.{◌≡◌, refl, ap, sym, ◌∙◌}
use mathlib.Core.Bool.{true}
use mathlib.Core.List.{List, [], ◌∷◌, ◌++◌, append_assoc}
use Prim.Native.Nat.{ℕ, zero, suc, ◌+◌, ◌-◌, ◌^◌, ◌≤◌, ◌<◌}
use native.Mathlib.Omega.{arith}
use lib.ListN.{length, get_or, take, drop, length-append}
use lib.Seq.{drop-cons}
use borrow.Author.Tests.{le-leb, eq-eqb, eqb-true}
use Rattle.std.specs.Prelude.{Some}
use Rattle.numbers.specs.Bytes.{number_at, part, bytes_of, are_zero, Bytes}
use Rattle.numbers.specs.Limits.{intervals}
use Rattle.numbers.specs.Rules.{all_met}
use Rattle.numbers.proofs.Bounds.{intervals_fit}
use Rattle.numbers.proofs.Numbers.{number_of_bytes, length_bytes, length_part, part_is_bytes, part_append, part_whole, part_bytes}
use Rattle.numbers.proofs.Rules.{rule_met}
use Rattle.numbers.proofs.Zeros.{zero_bytes}
use Rattle.settings.specs.Settings.{label_in, shape_bytes, threshold_bytes, label_bytes}
use Rattle.settings.specs.declared.LabelSettings.{LabelSettings}
use Rattle.settings.proofs.RoundTrip.{length_label, label_read_write, label_write_read}
use Rattle.track_rules.proofs.Meeting.{track_meets_lem}
use Rattle.tracks.specs.Tracks.{count_in}
use Rattle.layout.specs.Bytes.{track_bytes}
use Rattle.layout.specs.Reading.{track_in, words_meet}
use Rattle.layout.proofs.RoundTrip.{TrackInField, track_read_write, track_words}
use Rattle.layout.proofs.Shifting.{zeros_at, track_at, words_at}
use Rattle.layout.proofs.WriteRead.{track_write_read}
use Rattle.layout.proofs.Sizes.{size_track}
use Rattle.summaries.specs.Stored.{summary_in, header_rules, header_meets, track_rules, tracks_meet, summary_rules, summary_of, summary_bytes}
use Rattle.summaries.specs.declared.Summary.{Summary}
use Rattle.summaries.proofs.InField.{track_in_field}
use Rattle.summaries.proofs.Validity.{SummaryValid, taken_out}

-- the numbers and the label settings, whatever stands behind them

module _ (first after : ℕ) (l : LabelSettings) (rest : List ℕ) where
  first_back : first < 2 ^ 32 → number_at 4 (bytes_of 4 first ++ (bytes_of 4 after ++ (label_bytes l ++ rest))) 0 ≡ first
  unfolding number_at part bytes_of
  first_back h = number_of_bytes 4 first (omega arith)

  after_back : after < 2 ^ 32 → number_at 4 (bytes_of 4 first ++ (bytes_of 4 after ++ (label_bytes l ++ rest))) 4 ≡ after
  unfolding number_at part bytes_of
  after_back h = number_of_bytes 4 after (omega arith)

  label_part : take 24 (drop 8 (bytes_of 4 first ++ (bytes_of 4 after ++ (label_bytes l ++ rest)))) ≡ label_bytes l ++ []
  unfolding label_bytes shape_bytes threshold_bytes bytes_of
  label_part = refl

  spare_back : get_or (bytes_of 4 first ++ (bytes_of 4 after ++ (label_bytes l ++ rest))) 15 0 ≡ 0
  unfolding label_bytes shape_bytes threshold_bytes bytes_of
  spare_back = refl

-- each byte of 0 is 0

zero_byte : (w k : ℕ) → get_or (bytes_of w 0) k 0 ≡ 0
unfolding bytes_of
zero_byte zero k = refl
zero_byte (suc w) zero = refl
zero_byte (suc w) (suc k) = zero_byte w k

all_zero : (s : List ℕ) → ((k : ℕ) → get_or s k 0 ≡ 0) → (w i : ℕ) → are_zero w s i ≡ true
unfolding are_zero
all_zero s h zero i = refl
all_zero s h (suc w) i = rw (h i, all_zero s h w (suc i))

-- the pieces, each behind those in front of it

module _ (v : Summary) where
  front : List ℕ
  front = bytes_of 4 v.first ++ (bytes_of 4 v.after ++ label_bytes v.label)

  before_loss : length front ≡ 32
  unfolding front
  before_loss = rw (length-append, length-append, length_bytes, length_bytes, length_label)

  before_composite : length (front ++ track_bytes v.loss) ≡ 248
  before_composite = rw (length-append, before_loss, size_track)

  before_spare : length (front ++ (track_bytes v.loss ++ track_bytes v.composite)) ≡ 464
  before_spare = rw (length-append, length-append, before_loss, size_track, size_track)

  at_loss : summary_bytes v ≡ front ++ (track_bytes v.loss ++ (track_bytes v.composite ++ bytes_of 560 0))
  unfolding summary_bytes front
  at_loss = simp append_assoc

  at_composite : summary_bytes v ≡ (front ++ track_bytes v.loss) ++ (track_bytes v.composite ++ bytes_of 560 0)
  at_composite = at_loss ∙ sym (append_assoc front (track_bytes v.loss) (track_bytes v.composite ++ bytes_of 560 0))

  at_spare : summary_bytes v ≡ (front ++ (track_bytes v.loss ++ track_bytes v.composite)) ++ bytes_of 560 0
  at_spare = at_loss ∙ simp append_assoc

  pub length_summary : length (summary_bytes v) ≡ 1024
  length_summary = ap length at_spare ∙ rw (length-append, before_spare, length_bytes)

  module _ (f : TrackInField v.loss) where
    loss_back : track_in (summary_bytes v) 32 ≡ v.loss
    loss_back = rw at_loss (track_at front _ 32 before_loss ∙ track_read_write v.loss (track_bytes v.composite ++ bytes_of 560 0) f)

    loss_words : words_meet (summary_bytes v) 32 ≡ true
    loss_words = rw at_loss (words_at front _ 32 before_loss ∙ track_words v.loss (track_bytes v.composite ++ bytes_of 560 0) f)

  module _ (f : TrackInField v.composite) where
    composite_back : track_in (summary_bytes v) 248 ≡ v.composite
    composite_back = rw at_composite (track_at (front ++ track_bytes v.loss) _ 248 before_composite ∙ track_read_write v.composite (bytes_of 560 0) f)

    composite_words_lem : words_meet (summary_bytes v) 248 ≡ true
    composite_words_lem = rw at_composite (words_at (front ++ track_bytes v.loss) _ 248 before_composite ∙ track_words v.composite (bytes_of 560 0) f)

  spare_zero : are_zero 560 (summary_bytes v) 464 ≡ true
  spare_zero = rw at_spare (zeros_at (front ++ (track_bytes v.loss ++ track_bytes v.composite)) (bytes_of 560 0) 464 before_spare 560 ∙ all_zero (bytes_of 560 0) (zero_byte 560) 560 0)

-- what is written of a summary that meets the rules

module _ (v : Summary) (h : SummaryValid v) where
  short : v.after - v.first ≤ intervals
  short = omega (arith, h.within)

  loss_fits : TrackInField v.loss
  loss_fits = track_in_field v.label.n v.label.p (v.after - v.first) v.loss h.loss short

  composite_fits : TrackInField v.composite
  composite_fits = track_in_field v.label.n v.label.p (v.after - v.first) v.composite h.composite short

  written_label : label_in (take 24 (drop 8 (summary_bytes v))) ≡ v.label
  unfolding summary_bytes
  written_label =
      ap label_in (label_part v.first v.after v.label _)
      ∙ label_read_write v.label [] h.settings

  written_first : number_at 4 (summary_bytes v) 0 ≡ v.first
  unfolding summary_bytes
  written_first = first_back v.first v.after v.label _ (omega (arith, h.ordered, h.within, intervals_fit))

  written_after : number_at 4 (summary_bytes v) 4 ≡ v.after
  unfolding summary_bytes
  written_after = after_back v.first v.after v.label _ (omega (arith, h.within, intervals_fit))

  written_spare : get_or (summary_bytes v) 15 0 ≡ 0
  unfolding summary_bytes
  written_spare = spare_back v.first v.after v.label _

  written_values : summary_in (summary_bytes v) ≡ v
  unfolding summary_in
  written_values =
      λ i.
      record {
        first = written_first i;
        after = written_after i;
        label = written_label i;
        loss = loss_back v loss_fits i;
        composite = composite_back v composite_fits i;
      }

  written_header : header_meets (summary_bytes v) v ≡ true
  unfolding header_meets header_rules
  written_header =
      rw (le-leb v.first v.after h.ordered, le-leb v.after intervals h.within, h.settings, eq-eqb (get_or (summary_bytes v) 15 0) 0 written_spare, loss_words v loss_fits, composite_words_lem v composite_fits, spare_zero v)

  pub tracks_meet_lem : tracks_meet v ≡ true
  unfolding tracks_meet track_rules
  tracks_meet_lem =
      rw (track_meets_lem v.label.n v.label.p (v.after - v.first) v.loss h.loss short, track_meets_lem v.label.n v.label.p (v.after - v.first) v.composite h.composite short, eq-eqb (count_in v.loss) (count_in v.composite) h.counts)

  pub read_write : summary_of (summary_bytes v) ≡ Some v
  unfolding summary_of summary_rules
  read_write = rw (eq-eqb (length (summary_bytes v)) 1024 (length_summary v), written_values, written_header, tracks_meet_lem)

-- the bytes of a valid summary, piece by piece

taken_part : (s : List ℕ) (w i : ℕ) → i + w ≤ length s → take w (drop i s) ≡ part w s i
unfolding part
taken_part s zero i h = refl
taken_part s (suc w) i h = rw (drop-cons s i 0 (omega arith)) (ap (λ (l : List ℕ). get_or s i 0 ∷ l) (taken_part s w (suc i) (omega arith)))

-- the bytes of a valid summary are those written of its values

in_pieces :
    (s : List ℕ) →
    part 1024 s 0 ≡ part 4 s 0 ++ (part 4 s 4 ++ (part 24 s 8 ++ (part 216 s 32 ++ (part 216 s 248 ++ part 560 s 464))))
in_pieces s = part_append 4 1020 s 0 ∙ rw (part_append 4 1016 s 4, part_append 24 992 s 8, part_append 216 776 s 32, part_append 216 560 s 248)

module _ (s : List ℕ) (h : Bytes s) where
  spare_of_part : get_or (part 24 s 8) 7 0 ≡ get_or s 15 0
  unfolding part
  spare_of_part = refl

  label_back : length s ≡ 1024 → get_or s 15 0 ≡ 0 → label_bytes (label_in (take 24 (drop 8 s))) ≡ part 24 s 8
  label_back whole spare =
      ap (λ l. label_bytes (label_in l)) (taken_part s 24 8 (omega arith))
      ∙ label_write_read (part 24 s 8) (part_is_bytes 24 s 8 h) (spare_of_part ∙ spare)
      ∙ part_whole (part 24 s 8) 24 (length_part 24 s 8)

  bytes_back :
      length s ≡ 1024 → get_or s 15 0 ≡ 0 → words_meet s 32 ≡ true → words_meet s 248 ≡ true → are_zero 560 s 464 ≡ true → summary_bytes (summary_in s) ≡ s
  unfolding summary_bytes summary_in
  bytes_back whole spare loss composite zeros =
      rw (part_bytes 4 s 0 h, part_bytes 4 s 4 h, label_back whole spare, track_write_read s h 32 loss, track_write_read s h 248 composite, zero_bytes 560 s 464 zeros)
      (sym (in_pieces s) ∙ part_whole s 1024 whole)

pub read_whole : (s : List ℕ) (v : Summary) → summary_of s ≡ Some v → length s ≡ 1024
unfolding summary_of summary_rules
read_whole s v e = eqb-true (length s) 1024 (rule_met (summary_rules s) 0 (taken_out (all_met (summary_rules s)) (summary_in s) v e).0)

pub write_read : (s : List ℕ) (v : Summary) → Bytes s → summary_of s ≡ Some v → summary_bytes v ≡ s
unfolding summary_of summary_rules header_meets header_rules
write_read s v h e =
    let r = taken_out (all_met (summary_rules s)) (summary_in s) v e in
    let rules : (k : ℕ) → get_or (header_rules s (summary_in s)) k true ≡ true = λ k. rule_met (header_rules s (summary_in s)) k (rule_met (summary_rules s) 1 r.0) in
    ap summary_bytes (sym r.1) ∙ bytes_back s h (read_whole s v e) (eqb-true (get_or s 15 0) 0 (rules 3)) (rules 4) (rules 5) (rules 6)
