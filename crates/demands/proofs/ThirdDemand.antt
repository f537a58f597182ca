-- The third demand. A circuit's intervals, cut anywhere, summarised stretch by stretch without knowing what came before and joined in any grouping, give byte for byte the
-- record of the uncut sequence (`any_cut`); the report on before, period and after is the definition's over the sequence so far (`report_of_cuts`), and the verdicts on a set of
-- such are the definition's (`verdicts_of_cuts`). Stretches may be summarised under settings that differ in objectives, and each record may be written at any offset of
-- any buffer with room: of each call nothing is known but its contract.
-- Assumes nothing.
use mathlib.Core.Path.{◌≡◌, refl, ap, sym, ◌∙◌, subst}
use mathlib.Core.List.{List, [], ◌∷◌, ◌++◌, map}
use Prim.Native.Nat.{ℕ, ◌+◌, ◌*◌, ◌/◌, ◌≤◌}
use native.Mathlib.Omega.{arith}
use lib.ListN.{length, length-map}
use Rattle.std.specs.Prelude.{Some, Ok}
use Rattle.numbers.specs.Limits.{pairs}
use Rattle.settings.specs.Settings.{settings_of}
use Rattle.settings.specs.declared.LabelSettings.{LabelSettings}
use Rattle.settings.specs.declared.Settings.{Settings}
use Rattle.tallies.specs.Report.{Labelled}
use Rattle.verdicts.specs.Sets.{of_sets}
use Rattle.summaries.specs.Stored.{summary_bytes}
use Rattle.periods.specs.Stretches.{made_bytes, bytes_held}
use Rattle.reports.specs.Circuits.{three_bytes, set_bytes, defined}
use Rattle.reports.specs.Three.{report_of}
use Rattle.reports.proofs.Defined as reports
use Rattle.sets.specs.Sets.{judged_of, defined_verdicts}
use Rattle.sets.proofs.Defined as sets
use Rattle.demands.specs.Cuts.{Cut, uncut, BetweenRecords, Under, behind, SummaryCalled, Gives, NoneRefused}
use Rattle.demands.specs.Pairs.{Pair, held, circuit_of, Known, PairGives, AllKnown, AllGive}
use Rattle.demands.proofs.AnyCut.{summary_at, Sound, sound_facts, held_many, held_both, left_sound, right_sound, uncut_whole, under_valid, stretch_gives, cut_gives, taken}

-- Where `summary` takes the records of the uncut sequence, every cut and every grouping of them gives its bytes, and no call on the way is refused.
pub any_cut :
    (settings : List ℕ) (v : Settings) → settings_of settings ≡ Some v → (first : ℕ) (c : Cut) → BetweenRecords c → Under v.label c →
    (whole : List ℕ) (w : SummaryCalled settings first (uncut c) whole) → w.answer ≡ Ok tt → (bytes : List ℕ) (g : Gives first c bytes) → (bytes ≡ whole) × NoneRefused first c bytes g
any_cut settings v read first c cuts under whole w written bytes g =
    let sound = taken settings first (uncut c) (length w.out) w.at (sym written ∙ w.contract.answered) in
    let n = uncut_whole c cuts in
    let a = cut_gives v.label (under_valid v.label c under) first c cuts under sound bytes g in
    let b = stretch_gives v.label settings v read refl first (uncut c) n.0 n.1 sound whole w in
    (a.0 ∙ sym b.0, a.1)

-- the bytes of a summary, by the number of intervals before it
bytes_made : (l : LabelSettings) (first k : ℕ) (s : List ℕ) → first ≡ k → summary_bytes (summary_at l first s) ≡ made_bytes l k (held s)
bytes_made l first k s e = ap (λ j. summary_bytes (summary_at l j s)) e ∙ sym (bytes_held l k (held s))

-- one pair

module _ (l : LabelSettings) (x : Pair) (h : Known l x) where
  abbrev a : List ℕ
  a = uncut x.before

  abbrev b : List ℕ
  b = uncut x.period

  abbrev c : List ℕ
  c = uncut x.after

  sound : Sound 0 (a ++ (b ++ c))
  sound = record { from = omega arith; checks = h.checks }

  p : (n : ℕ) × (length a ≡ n * 48)
  p = uncut_whole x.before h.before_cut

  q : (n : ℕ) × (length b ≡ n * 48)
  q = uncut_whole x.period h.period_cut

  sound_a : Sound 0 a
  sound_a = left_sound 0 a (b ++ c) p.0 p.1 sound

  sound_bc : Sound (behind 0 a) (b ++ c)
  sound_bc = right_sound 0 a (b ++ c) p.0 p.1 sound

  sound_b : Sound (behind 0 a) b
  sound_b = left_sound (behind 0 a) b c q.0 q.1 sound_bc

  sound_c : Sound (behind (behind 0 a) b) c
  sound_c = right_sound (behind 0 a) b c q.0 q.1 sound_bc

  many_a : length (held a) ≡ length a / 48
  many_a = held_many 0 a sound_a

  many_b : length (held b) ≡ length b / 48
  many_b = held_many (behind 0 a) b sound_b

  all_held : held (a ++ (b ++ c)) ≡ held a ++ (held b ++ held c)
  all_held = held_both a (b ++ c) p.0 p.1 ∙ ap (λ vs. held a ++ vs) (held_both b c q.0 q.1)

  -- its three summaries are those made of its intervals
  pair_bytes : (bytes : List ℕ) → PairGives x bytes → bytes ≡ three_bytes l (circuit_of x)
  unfolding three_bytes
  pair_bytes bytes g =
      let valid = under_valid l x.before h.before_under in
      let left = (cut_gives l valid 0 x.before h.before_cut h.before_under sound_a g.left g.before).0 in
      let middle = (cut_gives l valid (behind 0 a) x.period h.period_cut h.period_under sound_b g.middle g.period).0 in
      let right = (cut_gives l valid (behind (behind 0 a) b) x.after h.after_cut h.after_under sound_c g.right g.after).0 in
      g.in_order
      ∙ rw (
        left,
        middle,
        right,
        bytes_made l 0 0 a refl,
        bytes_made l (behind 0 a) (length (held a)) b (omega (arith, many_a)),
        bytes_made l (behind (behind 0 a) b) (length (held a) + length (held b)) c (omega (arith, many_a, many_b)),
      )
      refl

  pair_sound : reports.Sound l (circuit_of x)
  pair_sound =
      let fa = sound_facts 0 a sound_a in
      let fb = sound_facts (behind 0 a) b sound_b in
      let fc = sound_facts (behind (behind 0 a) b) c sound_c in
      record {
        before = fa.valid;
        middle = fb.valid;
        behind = fc.valid;
        room = omega (arith, many_a, many_b, fc.many, fc.within);
        labelled = subst (λ vs. Labelled l vs x.loss x.composite) all_held h.labelled;
      }

  -- The report on before, period and after, each of them cut and grouped in any way, is the definition's, by whatever labels are those of all the intervals.
  pub report_of_cuts : (bytes : List ℕ) → PairGives x bytes → report_of bytes ≡ Ok (defined l (circuit_of x))
  report_of_cuts bytes g =
      ap report_of (pair_bytes bytes g) ∙ reports.report_defined l (under_valid l x.before h.before_under) (circuit_of x) pair_sound

-- several pairs

set_bytes_lem : (l : LabelSettings) (xs : List Pair) → AllKnown l xs → (bytes : List ℕ) → AllGive xs bytes → bytes ≡ set_bytes l (map circuit_of xs)
unfolding AllKnown AllGive set_bytes
set_bytes_lem l [] h bytes g = g
set_bytes_lem l (x ∷ xs) h bytes (one, rest, here, there, e) =
    e ∙ ap (λ s. s ++ rest) (pair_bytes l x h.0 one here) ∙ ap (λ s. three_bytes l (circuit_of x) ++ s) (set_bytes_lem l xs h.1 rest there)

set_sound : (l : LabelSettings) (xs : List Pair) → AllKnown l xs → sets.AllSound l (map circuit_of xs)
unfolding AllKnown sets.AllSound
set_sound l [] h = tt
set_sound l (x ∷ xs) h = (pair_sound l x h.0, set_sound l xs h.1)

-- The verdicts on a set of such pairs are the definition's, one pair after the other.
pub verdicts_of_cuts :
    (settings : List ℕ) (v : Settings) → settings_of settings ≡ Some v → (xs : List Pair) → AllKnown v.label xs → 1 ≤ length xs → length xs ≤ pairs →
    (bytes : List ℕ) → AllGive xs bytes → judged_of settings (length xs) bytes ≡ Ok (of_sets (map (defined_verdicts v) (map circuit_of xs)))
verdicts_of_cuts settings v read xs h some few bytes g =
    let n : length (map circuit_of xs) ≡ length xs = length-map xs circuit_of in
    ap (judged_of settings (length xs)) (set_bytes_lem v.label xs h bytes g)
    ∙ ap (λ k. judged_of settings k (set_bytes v.label (map circuit_of xs))) (sym n)
    ∙ sets.verdicts_defined settings v read (map circuit_of xs) (set_sound v.label xs h) (omega (arith, n)) (omega (arith, n))
