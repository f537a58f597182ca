-- The label bytes put into their window of the buffer: two for each interval, and the bytes before and behind them stay.
use mathlib.Core.Path.{◌≡◌, refl, sym, ap, ◌∙◌}
use mathlib.Core.Bool.{Bool, true, false, ◌&&◌}
use mathlib.Core.List.{List, [], ◌∷◌, map}
use Prim.Native.Nat.{ℕ, ◌+◌, ◌-◌, ◌*◌, ◌/◌, ◌%◌, ◌≤◌}
use native.Mathlib.Omega.{arith}
use borrow.Rule.Slice.PartMut.{put_mid}
use lib.Dec.{ltb, eqb}
use lib.ListN.{length, length-map}
use lib.Seq.{drop-drop}
use Rattle.std.specs.Prelude.{Some, Ok}
use Rattle.numbers.specs.Bytes.{placed}
use Rattle.numbers.specs.Many.{count_of, whole_if}
use Rattle.numbers.proofs.Rules.{rule_met}
use Rattle.settings.specs.Settings.{label_meets, settings_rules, objectives_in, settings_of}
use Rattle.settings.specs.declared.LabelSettings.{LabelSettings}
use Rattle.settings.specs.declared.Settings.{Settings}
use Rattle.settings.proofs.SettingsRecord.{settings_read}
use Rattle.intervals.specs.Sequence.{intervals_in, checked}
use Rattle.intervals.specs.declared.Interval.{Interval}
use Rattle.rule.specs.Labels.{Label}
use Rattle.rule.proofs.Labelling.{labels_length}
use Rattle.labels.specs.Marked.{loss_mark, composite_mark}
use Rattle.labels.specs.Stretch.{side_by_side, label_bytes, intervals_of}
use Rattle.labels.proofs.Soundness.{sound_length}

sides_length : (as' bs : List Label) → length bs ≡ length as' → length (side_by_side as' bs) ≡ 2 * length as'
unfolding side_by_side
sides_length [] bs e = refl
sides_length (a ∷ as') [] e = absurd (omega arith)
sides_length (a ∷ as') (b ∷ bs) e = omega (arith, sides_length as' bs (omega arith))

-- two bytes for each interval
pub label_bytes_length : (l : LabelSettings) (vs : List Interval) → length (label_bytes l vs) ≡ 2 * length vs
unfolding label_bytes
label_bytes_length l vs =
    sides_length _ _ (labels_length l.n (map (composite_mark l) vs) ∙ length-map vs (composite_mark l) ∙ sym (labels_length l.n (map (loss_mark l) vs) ∙ length-map vs (loss_mark l)))
    ∙ ap (λ (k : ℕ). 2 * k) (labels_length l.n (map (loss_mark l) vs) ∙ length-map vs (loss_mark l))

-- a window filled whole
window_placed : (out bs : List ℕ) (at n : ℕ) → length bs ≡ n → at + n ≤ length out → put_mid at (at + n - at) out bs ≡ placed out at bs
unfolding placed
window_placed out bs at n e h =
    let k : at + n - at ≡ length bs = omega arith in
    rw (k, drop-drop)

pub labels_placed :
    (l : LabelSettings) (r out : List ℕ) (at n : ℕ) → checked 0 0 (intervals_in r) ≡ Ok tt → n ≡ length r / 48 → at + 2 * n ≤ length out →
    put_mid at (at + 2 * n - at) out (label_bytes l (intervals_of (intervals_in r))) ≡ placed out at (label_bytes l (intervals_of (intervals_in r)))
labels_placed l r out at n sound e h =
    window_placed out (label_bytes l (intervals_of (intervals_in r))) at (2 * n)
    (label_bytes_length l (intervals_of (intervals_in r)) ∙ ap (λ (k : ℕ). 2 * k) (sound_length r sound ∙ sym e)) h

-- what is known of settings that were read, and of a number of records
pub read_label : (s : List ℕ) (v : Settings) → settings_of s ≡ Some v → label_meets v.label ≡ true
unfolding settings_rules objectives_in
read_label s v e = let k = settings_read s v e in rw (← k.1) (rule_met (settings_rules s) 1 k.0)

pub counted : (len size n : ℕ) → count_of len size ≡ Some n → n ≡ len / size
unfolding count_of
counted len size n e = by (ltb 0 size && eqb (len % size) 0) e
  where
    by : (z : Bool) → whole_if z (len / size) ≡ Some n → n ≡ len / size
    by true p = cc
    by false p = cc
