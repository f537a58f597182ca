-- A known summary with empty ones before and behind it is three that a report can be made of; its report keeps the products of the verdicts in 64 bits.
-- Assumes nothing.
use mathlib.Core.Path.{◌≡◌, ap, sym, ◌∙◌, subst}
use mathlib.Core.Bool.{Bool, true, false, cond}
use mathlib.Core.List.{[]}
use lib.Dec.{eqb}
use Prim.Native.Nat.{ℕ, ◌≤◌}
use native.Mathlib.Nat.{add-zero}
use native.Mathlib.Omega.{arith}
use Rattle.std.specs.Prelude.{Some, Result, Ok, Err}
use Rattle.numbers.specs.Limits.{intervals}
use Rattle.numbers.specs.Refusals.{refusal}
use Rattle.numbers.specs.declared.refusal.Fault.{Fault}
use Rattle.settings.specs.declared.Settings.{Settings}
use Rattle.settings.proofs.SettingsRecord.{settings_valid}
use Rattle.tallies.proofs.Valid.{AllValid}
use Rattle.summaries.specs.Stored.{summary_bytes}
use Rattle.summaries.specs.declared.Summary.{Summary}
use Rattle.summaries.proofs.Validity.{SummaryValid, summary_valid}
use Rattle.summaries.specs.Made.{made_of}
use Rattle.summaries.proofs.Made.{made_reads_back}
use Rattle.periods.specs.Stretches as stretches
use Rattle.periods.specs.Stretches.{stretch_of, held_if, stretch_held, first_held, after_held, label_held}
use Rattle.periods.proofs.Promises.{period_bounded}
use Rattle.verdicts.specs.Verdicts.{Judgeable}
use Rattle.verdicts.proofs.Fitting.{judgeable}
use Rattle.feeding.specs.Feeding.{Known, Growing, finished_by}
use Rattle.feeding.specs.declared.Held.{Held}
use Rattle.files.specs.Files.{stretch, alone_of, Judging}
use Rattle.numbers.specs.declared.refusal.Refusal.{Refusal}

-- an empty summary at a number reads back
nothing_read :
    (v : Summary) (at : ℕ) → SummaryValid v → at ≤ intervals →
    stretch_of (summary_bytes (made_of v.label at [])) ≡ Some (stretch (made_of v.label at []))
unfolding AllValid
nothing_read v at valid few =
    stretch_held (summary_bytes (made_of v.label at [])) ∙ ap held_if (made_reads_back v.label at [] valid.settings tt (omega arith))

pub three_known : (v : Summary) → Known v → stretches.Known (stretch (made_of v.label v.first [])) (stretch v) (stretch (made_of v.label v.after []))
unfolding made_of
three_known v k =
    let valid = summary_valid k.bytes v k.read in
    record {
      read =
          record {
            left_bytes = summary_bytes (made_of v.label v.first []);
            middle_bytes = k.bytes;
            right_bytes = summary_bytes (made_of v.label v.after []);
            left = nothing_read v v.first valid (omega (arith, valid.ordered, valid.within));
            middle = stretch_held k.bytes ∙ ap held_if k.read;
            right = nothing_read v v.after valid valid.within;
          };
      left_settings = label_held (stretch (made_of v.label v.first [])) ∙ sym (label_held (stretch v));
      right_settings = label_held (stretch v) ∙ sym (label_held (stretch (made_of v.label v.after [])));
      left_numbers = after_held (stretch (made_of v.label v.first [])) ∙ add-zero v.first ∙ sym (first_held (stretch v));
      right_numbers = after_held (stretch v) ∙ sym (first_held (stretch (made_of v.label v.after [])));
    }

pub alone_judgeable : (s : Settings) (v : Summary) → Judging s v → Judgeable s (alone_of v)
unfolding alone_of
alone_judgeable s v j =
    judgeable s _ _ (settings_valid j.bytes s j.read)
    (period_bounded (stretch (made_of v.label v.first [])) (stretch v) (stretch (made_of v.label v.after [])) (three_known v j.known))

-- a summary that stands at the end was held

from_whole : (b : Bool) (g : Result Summary Refusal) (v : Summary) → cond b g (Err (refusal Fault.Length 0)) ≡ Ok v → g ≡ Ok v
from_whole true g v e = e
from_whole false g v e = let z : ◌≡◌ {A = ℕ} 0 1 = cc in absurd (omega arith)

pub good_held : (h : Held) (n : ℕ) (v : Summary) → Growing h → finished_by h n ≡ Ok v → Known v
unfolding Growing
good_held Held.Unset n v k e = let z : ◌≡◌ {A = ℕ} 0 1 = cc in absurd (omega arith)
good_held (Held.Sound w) n v k e =
    let f = from_whole (eqb n 0) (Ok w) v e in
    let g : w ≡ v = cc in
    subst Known g k
good_held (Held.Faulty r) n v k e =
    let f = from_whole (eqb n 0) (Err r) v e in
    let z : ◌≡◌ {A = ℕ} 0 1 = cc in
    absurd (omega arith)
