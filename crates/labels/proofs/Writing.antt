-- The label bytes of sound records, as a loop writes them: before record k both lanes hold what the first k marks settle.
use mathlib.Core.Path.{◌≡◌, sym, ap, ◌∙◌}
use mathlib.Core.Bool.{Bool}
use mathlib.Core.List.{List, [], ◌∷◌, ◌++◌, map}
use Prim.Native.Nat.{ℕ, ◌+◌, ◌*◌, ◌-◌, ◌/◌, ◌≤◌, ◌<◌}
use native.Mathlib.Omega.{arith}
use native.Mathlib.Numerals.{add-one}
use lib.ListN.{length, get_or, take, length-map, get_or-map}
use lib.Seq.{take-suc, take_all, length-take-le}
use Rattle.std.specs.Prelude.{Some, Ok}
use Rattle.numbers.specs.Many.{record_at}
use Rattle.settings.specs.declared.LabelSettings.{LabelSettings}
use Rattle.intervals.specs.Interval.{interval_of, interval_in}
use Rattle.intervals.specs.Sequence.{intervals_in, checked}
use Rattle.intervals.specs.declared.Interval.{Interval}
use Rattle.rule.specs.Evaluator.{fresh, gain}
use Rattle.rule.specs.Labels.{settled}
use Rattle.rule.specs.declared.Counts.{Counts}
use Rattle.rule.specs.declared.Track.{Track}
use Rattle.settings.proofs.SettingsRecord.{label_valid}
use Rattle.intervals.proofs.IntervalRecord.{interval_read}
use Rattle.rule.proofs.Labelling.{settled_and_pending, pending_short}
use Rattle.labels.specs.Marked.{counts_of, counts_in, loss_mark, composite_mark}
use Rattle.labels.specs.Stretch.{intervals_of, label_bytes, label_byte, settled_in, left_in, both_turned, both_settled, both_left, Settling, Leaving, Writing}
use Rattle.labels.proofs.Lanes.{Lane, lane_start, lane_step, lane_other, lane_full, full_other, lanes_bytes}
use Rattle.labels.proofs.Soundness.{sound_length, sound_at, sound_kth}
use Rattle.labels.proofs.Strides.{length_strided}
use Rattle.rule.specs.declared.Both.{Both}

-- the marks of the records by one rule
abbrev pub marks_in : (Interval → Bool) → List ℕ → List Bool
marks_in mark r = map mark (intervals_of (intervals_in r))

-- the counts of a valid record are those in its bytes
counts_read : (s : List ℕ) (v : Interval) → interval_of s ≡ Some v → counts_in s ≡ counts_of v
unfolding counts_in interval_in
counts_read s v e = ap counts_of (interval_read s v e).1

-- before record k
pub record Lanes (l : LabelSettings) (r : List ℕ) (k : ℕ) (t : Both Track) (part : List ℕ) : Type 0 where
  pub most : k ≤ length r / 48
  pub long : length part ≡ 2 * (length r / 48)
  pub on_loss : Lane l.n (take k (marks_in (loss_mark l) r)) 0 t.loss part
  pub on_composite : Lane l.n (take k (marks_in (composite_mark l) r)) 1 t.composite part

pub lanes_start : (l : LabelSettings) (r part : List ℕ) → length part ≡ 2 * (length r / 48) → Lanes l r 0 (record { loss = fresh; composite = fresh }) part
lanes_start l r part e = record { most = omega arith; long = e; on_loss = lane_start l.n 0 part; on_composite = lane_start l.n 1 part }

module _ (mark : Interval → Bool) (r : List ℕ) (sound : checked 0 0 (intervals_in r) ≡ Ok tt) where
  marks_length : length (marks_in mark r) ≡ length r / 48
  marks_length = length-map (intervals_of (intervals_in r)) mark ∙ sound_length r sound

  taken_length : (k : ℕ) → k ≤ length r / 48 → length (take k (marks_in mark r)) ≡ k
  taken_length k h = length-take-le k (marks_in mark r) (rw marks_length h)

  -- one record more is one mark more
  one_more : (k : ℕ) → k < length r / 48 → (v : Interval) → interval_of (record_at r 48 k) ≡ Some v → take (k + 1) (marks_in mark r) ≡ take k (marks_in mark r) ++ (mark v ∷ [])
  one_more k h v e =
      let same : get_or (intervals_of (intervals_in r)) k v ≡ v = valid_same (sym (sound_at r sound k h v) ∙ e) in
      rw add-one
      (take-suc (marks_in mark r) k (mark v) (rw marks_length h)
      ∙ ap (λ (b : Bool). take k (marks_in mark r) ++ (b ∷ [])) (get_or-map mark (intervals_of (intervals_in r)) k v ∙ ap mark same))
    where
      valid_same : {a b : Interval} → Some a ≡ Some b → a ≡ b
      valid_same e = cc

-- the number pending is below n, and none is pending that is not known
lane_pending : (n : ℕ) (ms : List Bool) (lane : ℕ) (t : Track) (part : List ℕ) (k : ℕ) → 1 ≤ n → length ms ≡ k → Lane n ms lane t part → (t.pending < n) × (t.pending ≤ k)
lane_pending n ms lane t part k p e h = rw h.stands (pending_short n ms p, omega (arith, settled_and_pending n ms))

-- what a turn of the loop, and its end, ask for
module _ (l : LabelSettings) (r : List ℕ) (k : ℕ) (t : Both Track) (p part : List ℕ) (w : Writing l r p) (s : Lanes l r k t part) where
  some : 1 ≤ l.n
  some = (label_valid l w.valid).n_facts.0

  loss_pending : (t.loss.pending < l.n) × (t.loss.pending ≤ k)
  loss_pending = lane_pending l.n _ 0 t.loss part k some (taken_length (loss_mark l) r w.sound k s.most) s.on_loss

  composite_pending : (t.composite.pending < l.n) × (t.composite.pending ≤ k)
  composite_pending = lane_pending l.n _ 1 t.composite part k some (taken_length (composite_mark l) r w.sound k s.most) s.on_composite

  pub lanes_settling : k < length r / 48 → Settling l k t part
  lanes_settling h =
      record {
        valid = w.valid;
        loss_short = loss_pending.0;
        composite_short = composite_pending.0;
        loss_known = loss_pending.1;
        composite_known = composite_pending.1;
        room = omega (arith, s.long);
      }

  pub lanes_leaving : k ≡ length r / 48 → Leaving k t part
  lanes_leaving e = record { loss_known = loss_pending.1; composite_known = composite_pending.1; room = rw e s.long }

  -- one interval more
  lanes_next : k < length r / 48 → (v : Interval) → interval_of (record_at r 48 k) ≡ Some v → Lanes l r (k + 1) (both_turned l t (counts_of v)) (both_settled part k l t (counts_of v))
  lanes_next h v e =
      record {
        most = omega arith;
        long = length_strided _ _ _ _ ∙ length_strided _ _ _ _ ∙ s.long;
        on_loss =
            rw (one_more (loss_mark l) r w.sound k h v e)
            (lane_other n _ 0 _ (settled_in part k 0 n t.loss a) 1 (k + 1 - gain n t.composite b) (gain n t.composite b) (label_byte (settled b))
            (omega arith) (omega arith) (λ z. omega arith)
            (lane_step n (take k (marks_in (loss_mark l) r)) 0 t.loss part k a (taken_length (loss_mark l) r w.sound k s.most) (omega (arith, s.long)) s.on_loss));
        on_composite =
            rw (one_more (composite_mark l) r w.sound k h v e)
            (lane_step n (take k (marks_in (composite_mark l) r)) 1 t.composite (settled_in part k 0 n t.loss a) k b
            (taken_length (composite_mark l) r w.sound k s.most) (rw length_strided (omega (arith, s.long)))
            (lane_other n _ 1 _ part 0 (k + 1 - gain n t.loss a) (gain n t.loss a) (label_byte (settled a)) (omega arith) (omega arith) (λ z. omega arith) s.on_composite));
      }
    where
      n : ℕ
      n = l.n

      a : Bool
      a = loss_mark l v

      b : Bool
      b = composite_mark l v

  -- one turn of the loop, by the counts in the record's bytes
  pub lanes_step : k < length r / 48 → {x : Counts} → x ≡ counts_in (record_at r 48 k) → Lanes l r (k + 1) (both_turned l t x) (both_settled part k l t x)
  lanes_step h e = let at = sound_kth r w.sound k h in rw (e ∙ counts_read (record_at r 48 k) at.0 at.1) (lanes_next h at.0 at.1)

  -- the end: what is pending is undecided, and the part holds the label bytes
  pub lanes_done : k ≡ length r / 48 → both_left part k t ≡ label_bytes l (intervals_of (intervals_in r))
  unfolding label_bytes
  lanes_done e =
      lanes_bytes n ms os _ (os_length ∙ sym ms_length) (length_strided _ _ _ _ ∙ length_strided _ _ _ _ ∙ s.long ∙ ap (λ (x : ℕ). 2 * x) (sym (ms_length ∙ e)))
      (full_other n ms 0 (left_in part k 0 t.loss) 1 (k - t.composite.pending) t.composite.pending 2 (omega arith) (omega arith) (λ z. omega arith)
      (lane_full n ms 0 t.loss part k ms_length (omega (arith, s.long)) on_loss))
      (lane_full n os 1 t.composite (left_in part k 0 t.loss) k os_length (rw length_strided (omega (arith, s.long)))
      (lane_other n os 1 t.composite part 0 (k - t.loss.pending) t.loss.pending 2 (omega arith) (omega arith) (λ z. omega arith) on_composite))
    where
      n : ℕ
      n = l.n

      ms : List Bool
      ms = marks_in (loss_mark l) r

      os : List Bool
      os = marks_in (composite_mark l) r

      ms_length : length ms ≡ k
      ms_length = marks_length (loss_mark l) r w.sound ∙ sym e

      os_length : length os ≡ k
      os_length = marks_length (composite_mark l) r w.sound ∙ sym e

      on_loss : Lane n ms 0 t.loss part
      on_loss = rw (take_all k ms (omega (arith, ms_length))) at s.on_loss

      on_composite : Lane n os 1 t.composite part
      on_composite = rw (take_all k os (omega (arith, os_length))) at s.on_composite
