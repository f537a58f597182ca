-- Verdicts on sets of summaries that are made of intervals are the definition's, by labels, one circuit after the other: each summary gives the definition's report, and the
-- verdicts by its figures are those by labels.
-- Assumes nothing.
use mathlib.Core.Path.{◌≡◌, refl, ap, sym, ◌∙◌}
use mathlib.Core.Bool.{true}
use mathlib.Core.List.{List, [], ◌∷◌, ◌++◌, map, append_assoc, append-nil}
use Prim.Native.Nat.{ℕ, suc, ◌*◌, ◌≤◌}
use native.Mathlib.Omega.{arith}
use lib.ListN.{length, length-append}
use Rattle.std.specs.Prelude.{Some, Ok}
use Rattle.numbers.specs.Limits.{pairs}
use Rattle.settings.specs.Settings.{label_meets, settings_of}
use Rattle.settings.specs.declared.LabelSettings.{LabelSettings}
use Rattle.settings.specs.declared.Settings.{Settings}
use Rattle.settings.proofs.SettingsRecord.{label_valid, same_label_self}
use Rattle.labels.proofs.Placing.{read_label}
use Rattle.verdicts.specs.Verdicts.{verdicts_of}
use Rattle.verdicts.specs.Sets.{of_sets}
use Rattle.verdicts.proofs.Taken.{verdicts_taken}
use Rattle.reports.specs.Circuits.{Circuit, three_bytes, set_bytes, defined}
use Rattle.reports.proofs.Defined.{Sound, size_three, three_defined}
use Rattle.sets.specs.Sets.{pairs_from, set_from, judged_of, defined_verdicts}
use Rattle.sets.proofs.Going.{gone_over}
use Rattle.verdicts.specs.declared.PerObjective.{PerObjective}
use Rattle.verdicts.specs.declared.Verdict.{Verdict}

unfoldable pub AllSound : LabelSettings → List Circuit → Type 0
AllSound l [] = Unit {0}
AllSound l (x ∷ xs) = Sound l x × AllSound l xs

set_by :
    (v : Settings) → label_meets v.label ≡ true → (xs : List Circuit) → AllSound v.label xs → (front : List ℕ) (k : ℕ) → length front ≡ k * 3072 → (passed : List (PerObjective Verdict)) →
    set_from v passed (pairs_from (length xs) v.label (front ++ set_bytes v.label xs) k) ≡ Ok (of_sets (passed ++ map (λ x. verdicts_of v (defined v.label x)) xs))
unfolding set_from pairs_from set_bytes AllSound
set_by v valid [] sound front k e passed = ap (λ l. Ok (of_sets l)) (sym (append-nil passed))
set_by v valid (x ∷ xs) sound front k e passed =
    let l = v.label in
    rw (three_defined l valid x sound.0 front (set_bytes l xs) (3 * k) (omega arith) (Some l) (same_label_self l), ← append_assoc front (three_bytes l x) (set_bytes l xs))
    (set_by v valid xs sound.1 (front ++ three_bytes l x) (suc k) (omega (arith, length-append front (three_bytes l x), size_three l x)) (passed ++ (verdicts_of v (defined l x) ∷ []))
    ∙ ap (λ l. Ok (of_sets l)) (append_assoc passed (verdicts_of v (defined l x) ∷ []) (map (λ x. verdicts_of v (defined v.label x)) xs)))

-- by labels
all_taken :
    (v : Settings) → label_meets v.label ≡ true → (xs : List Circuit) → AllSound v.label xs → map (λ x. verdicts_of v (defined v.label x)) xs ≡ map (defined_verdicts v) xs
unfolding AllSound
all_taken v valid [] sound = refl
all_taken v valid (x ∷ xs) sound =
    rw (
      verdicts_taken v x.before x.middle x.behind x.loss x.composite (label_valid v.label valid).n_facts.0 sound.0.labelled,
      all_taken v valid xs sound.1,
    )

size_set : (l : LabelSettings) (xs : List Circuit) → length (set_bytes l xs) ≡ length xs * 3072
unfolding set_bytes
size_set l [] = refl
size_set l (x ∷ xs) = omega (arith, length-append (three_bytes l x) (set_bytes l xs), size_three l x, size_set l xs)

pub verdicts_defined :
    (settings : List ℕ) (v : Settings) → settings_of settings ≡ Some v → (xs : List Circuit) → AllSound v.label xs → 1 ≤ length xs → length xs ≤ pairs →
    judged_of settings (length xs) (set_bytes v.label xs) ≡ Ok (of_sets (map (defined_verdicts v) xs))
verdicts_defined settings v read xs sound some few =
    gone_over settings (length xs) (set_bytes v.label xs) v read some few (size_set v.label xs)
    ∙ set_by v (read_label settings v read) xs sound [] 0 refl []
    ∙ ap (λ l. Ok (of_sets l)) (all_taken v (read_label settings v read) xs sound)
