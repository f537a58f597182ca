-- What each function owes at its ways out, over plain values: bytes that wait in the tail, a summary that grows, and the end.
-- Assumes nothing.
use mathlib.Core.Path.{◌≡◌, refl, ap, sym, ◌∙◌, subst}
use mathlib.Core.List.{List, ◌++◌, append_assoc}
use Prim.Native.Nat.{ℕ, ◌+◌, ◌-◌, ◌/◌, ◌≤◌, ◌<◌}
use native.Mathlib.Nat.{add-zero, zero-add}
use native.Mathlib.Omega.{arith}
use lib.ListN.{length, take, drop, length-append, length-take, length-drop, take-append-drop}
use lib.Seq.{take_all, take_at, length-take-le, take-append-add}
use borrow.Rule.Slice.PartMut.{put_mid, same_len_mid}
use Rattle.std.specs.Prelude.{Result, Ok, Err}
use Rattle.numbers.specs.Refusals.{refusal}
use Rattle.numbers.specs.declared.refusal.Refusal.{Refusal}
use Rattle.intervals.specs.Sequence.{intervals_in, checked}
use Rattle.labels.specs.Stretch.{intervals_of}
use Rattle.tracks.specs.Tracks.{join, push_all, summary}
use Rattle.summaries.specs.declared.Summary.{Summary}
use Rattle.summaries.specs.Made.{made_of}
use Rattle.gathering.specs.Gathering.{good_if, gathered}
use Rattle.joining.specs.Joining.{joined_of, Adjoining}
use Rattle.feeding.specs.Feeding.{Standing, standing, held_if, behind, grown, grown_by, rest_of, filled, fed, Known, Growing, Ready}
use Rattle.feeding.specs.declared.Held.{Held}
use Rattle.feeding.proofs.Pieces.{whole_of, records_many, rest_short, rest_few, none_few}
use Rattle.feeding.proofs.Sound.{moved_by, checked_moved, fault_among}
use Rattle.feeding.proofs.Whole.{adjoins, held_known, held_whole, filled_behind}

-- bytes put behind the k that wait in the tail t
module _ (t src : List ℕ) (k n : ℕ) (room : length t ≡ 48) (fits : k + length src ≤ 48) (all : n ≡ length src) {after : List ℕ}
    (put : after ≡ src ++ drop (length src) (take (length t - k) (drop k t))) where
  -- what stands behind them
  beyond : List ℕ
  beyond = drop (length src) (take (length t - k) (drop k t))

  pub waiting_length : length (put_mid k (length t - k) t after) ≡ 48
  unfolding beyond
  waiting_length =
      same_len_mid k (length t - k) t after (ap length put ∙ simp (length-append, length-drop, length-take) (omega arith)) ∙ room

  pub waiting : take (k + n) (put_mid k (length t - k) t after) ≡ take k t ++ src
  unfolding beyond
  waiting =
      let e : length (take k t) ≡ k = length-take-le k t (omega arith) in
      let rest : List ℕ = beyond ++ drop (length t - k) (drop k t) in
      ap (λ l. take (k + n) (take k t ++ (l ++ drop (length t - k) (drop k t)))) put
      ∙ ap (λ l. take (k + n) (take k t ++ l)) (append_assoc src beyond (drop (length t - k) (drop k t)))
      ∙ ap (λ j. take (j + n) (take k t ++ (src ++ rest))) (sym e)
      ∙ take-append-add (take k t) (src ++ rest) n
      ∙ ap (λ l. take k t ++ l) (take_at src rest n (sym all))

-- no whole record: what is held stays
held_stays : (h : Held) (s : List ℕ) → length s < 48 → grown_by h s ≡ h
unfolding grown joined_of made_of checked intervals_of join summary push_all
held_stays Held.Unset s few = refl
held_stays (Held.Sound v) s few =
    ap (λ xs. held_if (checked v.after v.after xs) (joined_of v (made_of v.label v.after (intervals_of xs)))) (none_few s few)
    ∙ ap Held.Sound (λ i. record { first = v.first; after = add-zero v.after i; label = v.label; loss = v.loss; composite = v.composite })
held_stays (Held.Faulty r) s few = refl

-- a record that goes on but does not end
pub goes_on :
    (h : Held) (t piece : List ℕ) (k n : ℕ) → length t ≡ 48 → k + length piece < 48 → n ≡ length piece → Growing h → {after : List ℕ} →
    after ≡ piece ++ drop (length piece) (take (length t - k) (drop k t)) →
    (standing (record { held = h; left = k + n }) (put_mid k (length t - k) t after) ≡ fed (standing (record { held = h; left = k }) t) piece)
    × Ready (record { held = h; left = k + n }) (put_mid k (length t - k) t after)
unfolding fed filled
goes_on h t piece k n room fits all valid put =
    let few : length (take k t ++ piece) < 48 = simp (length-append, length-take) (omega arith) in (
      (λ i.
          record {
            held = sym (held_stays h (take k t ++ piece) few) i;
            tail = (waiting t piece k n room (omega arith) all put ∙ sym (rest_few (take k t ++ piece) few)) i;
          }),
      record { room = waiting_length t piece k n room (omega arith) all put; few = omega arith; valid = valid },
    )

-- a record that ends, and what stands behind it
pub ends :
    (h : Held) (t piece : List ℕ) (k n : ℕ) → length t ≡ 48 → k < 48 → 48 ≤ k + length piece → n ≡ length (take (48 - k) piece) → Growing h →
    {after rest : List ℕ} {next : Held} {x : Standing} →
    after ≡ take (48 - k) piece ++ drop (length (take (48 - k) piece)) (take (length t - k) (drop k t)) → rest ≡ drop (48 - k) piece →
    next ≡ grown_by h (put_mid k (length t - k) t after) → x ≡ filled next rest →
    x ≡ fed (standing (record { held = h; left = k }) t) piece
unfolding fed
ends h t piece k n room few long all valid {after} {rest} {next} {x} put e f g =
    let size : length (take (48 - k) piece) ≡ 48 - k = length-take-le (48 - k) piece (omega arith) in
    let full : length (put_mid k (length t - k) t after) ≡ 48 = waiting_length t (take (48 - k) piece) k n room (omega arith) all put in
    let w : put_mid k (length t - k) t after ≡ take k t ++ take (48 - k) piece =
    sym (take_all (k + n) (put_mid k (length t - k) t after) (omega arith)) ∙ waiting t (take (48 - k) piece) k n room (omega arith) all put in
    g
    ∙ ap (λ y. filled y rest) f
    ∙ ap (filled (grown_by h (put_mid k (length t - k) t after))) e
    ∙ filled_behind h (put_mid k (length t - k) t after) (drop (48 - k) piece) 1 (full ∙ refl) valid
    ∙ ap (λ l. filled h (l ++ drop (48 - k) piece)) w
    ∙ ap (filled h) (append_assoc (take k t) (take (48 - k) piece) (drop (48 - k) piece) ∙ ap (λ l. take k t ++ l) (take-append-drop (48 - k) piece))

-- no record has begun: the whole records are taken in, and the rest waits
pub waits :
    (h next : Held) (t piece rest : List ℕ) (n : ℕ) → length t ≡ 48 → Growing h → next ≡ grown_by h (whole_of piece) → rest ≡ rest_of piece → n ≡ length rest →
    {after : List ℕ} → after ≡ rest ++ drop (length rest) t →
    (standing (record { held = next; left = n }) after ≡ filled h piece) × Ready (record { held = next; left = n }) after
unfolding filled
waits h next t piece rest n room valid e f all {after} put =
    let few : n < 48 = omega (arith, all, ap length f, rest_short piece) in (
      (λ i.
          record {
            held = (e ∙ held_whole h piece) i;
            tail = (ap (take n) put ∙ take_at rest (drop (length rest) t) n (sym all) ∙ f) i;
          }),
      record {
        room = ap length put ∙ simp (length-append, length-drop) (omega arith);
        few = few;
        valid = subst Growing (sym e) (held_known h (whole_of piece) valid);
      },
    )

-- a summary that grows by sound records, and one whose next records are at fault

good_told : (c : Result (Unit {0}) Refusal) (w x : Summary) → good_if c w ≡ Ok x → (c ≡ Ok tt) × (w ≡ x)
good_told (Ok tt) w x e = (refl, (cc))
good_told (Err r) w x e = let z : ◌≡◌ {A = ℕ} 0 1 = cc in absurd (omega arith)

bad_told : (c : Result (Unit {0}) Refusal) (w : Summary) (r : Refusal) → good_if c w ≡ Err r → c ≡ Err r
bad_told (Ok tt) w r e = let z : ◌≡◌ {A = ℕ} 0 1 = cc in absurd (omega arith)
bad_told (Err q) w r e = let f : q ≡ r = cc in ap Err f

module _ (v : Summary) (s : List ℕ) where
  further : checked v.after v.after (intervals_in s) ≡ moved_by v.after (checked v.after 0 (intervals_in s))
  further = ap (λ k. checked v.after k (intervals_in s)) (sym (zero-add v.after)) ∙ checked_moved v.after 0 v.after (intervals_in s)

  pub grown_good :
      (x : Summary) → Known v → gathered v.label v.after s ≡ Ok x → Adjoining v x × (grown v s ≡ Held.Sound (joined_of v x))
  unfolding gathered grown
  grown_good x k e =
      let told = good_told (checked v.after 0 (intervals_in s)) (behind v s) x e in
      let sound : checked v.after v.after (intervals_in s) ≡ Ok tt = further ∙ ap (moved_by v.after) told.0 in
      (subst (Adjoining v) told.1 (adjoins v k s sound), ap (λ c. held_if c (joined_of v (behind v s))) sound ∙ ap (λ y. Held.Sound (joined_of v y)) told.1)

  pub grown_bad :
      (r : Refusal) → gathered v.label v.after s ≡ Err r →
      (r.place < length s / 48) × (grown v s ≡ Held.Faulty (refusal r.fault (r.place + v.after)))
  unfolding gathered grown
  grown_bad r e =
      let told = bad_told (checked v.after 0 (intervals_in s)) (behind v s) r e in
      (omega (arith, fault_among v.after 0 (intervals_in s) r told, records_many s), ap (λ c. held_if c (joined_of v (behind v s))) (further ∙ ap (moved_by v.after) told))
