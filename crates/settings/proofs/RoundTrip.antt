-- Both round trips of label settings and their 24 bytes, field by field as for an interval: so two valid records have equal label settings exactly when those
-- bytes are equal.
-- Assumes nothing.
use mathlib.Core.Path.{◌≡◌, refl, ap, sym, ◌∙◌}
use mathlib.Core.Logic.{◌↔◌}
use mathlib.Core.Bool.{true}
use mathlib.Core.List.{List, ◌++◌}
use Prim.Native.Nat.{ℕ}
use native.Mathlib.Omega.{arith}
use lib.ListN.{length, get_or}
use Rattle.numbers.specs.Bytes.{number_at, part, bytes_of, Bytes}
use Rattle.numbers.proofs.Bounds.{largest_delay_fits, million_fits}
use Rattle.numbers.proofs.Numbers.{number_of_bytes, part_bytes}
use Rattle.settings.specs.Settings.{label_in, label_meets, shape_bytes, threshold_bytes, label_bytes}
use Rattle.settings.specs.declared.LabelSettings.{LabelSettings}
use Rattle.settings.proofs.SettingsRecord.{label_valid}

label_of_part : (s : List ℕ) → label_in s ≡ label_in (part 24 s 0)
unfolding label_in number_at part
label_of_part s = refl

pub length_label : (l : LabelSettings) → length (label_bytes l) ≡ 24
unfolding label_bytes shape_bytes threshold_bytes bytes_of
length_label l = refl

pub label_read_write : (l : LabelSettings) (rest : List ℕ) → label_meets l ≡ true → label_in (label_bytes l ++ rest) ≡ l
unfolding label_in label_bytes shape_bytes threshold_bytes number_at part bytes_of
label_read_write l rest h =
    let f = label_valid l h in
    λ i.
    record {
      length = number_of_bytes 4 l.length (omega (arith, f.length_facts.1)) i;
      n = l.n;
      p = l.p;
      weights = l.weights;
      c = number_of_bytes 4 l.c (omega (arith, f.c_facts.1, million_fits)) i;
      u = number_of_bytes 4 l.u (omega (arith, f.u_facts.1, million_fits)) i;
      dl = number_of_bytes 4 l.dl (omega (arith, f.dl_fact, largest_delay_fits)) i;
      jt = number_of_bytes 4 l.jt (omega (arith, f.jt_fact, largest_delay_fits)) i;
    }

pub label_write_read : (s : List ℕ) → Bytes s → get_or s 7 0 ≡ 0 → label_bytes (label_in s) ≡ part 24 s 0
unfolding label_bytes shape_bytes threshold_bytes label_in part
label_write_read s h spare =
    rw (part_bytes 4 s 0 h, part_bytes 4 s 8 h, part_bytes 4 s 12 h, part_bytes 4 s 16 h, part_bytes 4 s 20 h, spare)

-- so the label settings of two valid records are equal exactly when their first 24 bytes are
pub label_by_bytes : (s t : List ℕ) → Bytes s → Bytes t → get_or s 7 0 ≡ 0 → get_or t 7 0 ≡ 0 → (label_in s ≡ label_in t) ↔ (part 24 s 0 ≡ part 24 t 0)
label_by_bytes s t hs ht es et =
    (λ e. sym (label_write_read s hs es) ∙ ap label_bytes e ∙ label_write_read t ht et, λ e. label_of_part s ∙ ap label_in e ∙ sym (label_of_part t))
