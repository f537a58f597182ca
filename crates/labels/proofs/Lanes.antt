-- The label bytes as they are written: on each of the two lanes the labels settled so far stand at their places, and no write on
-- one lane touches the other. With the pending ones written as undecided, both lanes side by side are the label bytes.
use mathlib.Core.Path.{◌≡◌, refl, sym, ap, ◌∙◌}
use mathlib.Core.Logic.{⊎_elim}
use mathlib.Core.Bool.{Bool, false}
use mathlib.Core.List.{List, [], ◌∷◌, ◌++◌}
use Prim.Native.Nat.{ℕ, suc, ◌+◌, ◌*◌, ◌-◌, ◌≤◌, ◌<◌}
use native.Mathlib.Omega.{arith}
use native.Mathlib.Decide.{dec_lt}
use lib.ListN.{length, get_or, replicate, length-append, length-replicate, get_or-append, get_or-replicate}
use lib.Seq.{get_or-append-add}
use Rattle.rule.specs.Evaluator.{fresh, gain, turn, run, told, labelling}
use Rattle.rule.specs.Labels.{Label, settled, undecided}
use Rattle.rule.specs.declared.Track.{Track}
use Rattle.rule.proofs.Settling.{gain_all}
use Rattle.rule.proofs.Labelling.{settled_and_pending, run_step, told_step, labels_told_lem, labels_pending, labels_length}
use Rattle.labels.specs.Stretch.{label_byte, side_by_side, strided, settled_in}
use Rattle.labels.proofs.Strides.{strided_in, strided_out}

-- a lane after a list of marks: the track, and the labels settled at their places
pub record Lane (n : ℕ) (ms : List Bool) (lane : ℕ) (t : Track) (part : List ℕ) : Type 0 where
  pub stands : t ≡ run n fresh ms
  pub shown : (i : ℕ) → i < length (told n fresh ms) → get_or part (2 * i + lane) 0 ≡ label_byte (settled (get_or (told n fresh ms) i false))

pub lane_start : (n lane : ℕ) (part : List ℕ) → Lane n [] lane fresh part
unfolding run told
lane_start n lane part = record { stands = refl; shown = λ i h. absurd (omega arith) }

-- a write on the other lane
pub lane_other :
    (n : ℕ) (ms : List Bool) (lane : ℕ) (t : Track) (part : List ℕ) (other j c x : ℕ) → lane < 2 → other < 2 → (lane ≡ other → ⊥) →
    Lane n ms lane t part → Lane n ms lane t (strided part (2 * j + other) c x)
lane_other n ms lane t part other j c x p q r h =
    record { stands = h.stands; shown = λ i s. strided_out part (2 * j + other) c x (2 * i + lane) (λ k u e. omega arith) ∙ h.shown i s }

-- a mark: what it settles is written behind what stood there
pub lane_step :
    (n : ℕ) (ms : List Bool) (lane : ℕ) (t : Track) (part : List ℕ) (k : ℕ) (m : Bool) → length ms ≡ k → 2 * k + lane < length part →
    Lane n ms lane t part → Lane n (ms ++ (m ∷ [])) lane (turn n t m) (settled_in part k lane n t m)
lane_step n ms lane t part k m e b h = record { stands = rw (run_step, h.stands); shown = each }
  where
    xs : List Bool
    xs = told n fresh ms

    g : ℕ
    g = gain n t m

    -- the first place written is behind the labels settled before
    known : length xs + t.pending ≡ k
    known = rw h.stands (settled_and_pending n ms ∙ e)

    grown : told n fresh (ms ++ (m ∷ [])) ≡ xs ++ replicate g m
    grown = rw h.stands (told_step n ms m)

    from : ℕ
    from = 2 * (k + 1 - g) + lane

    old : (i : ℕ) → i < length xs → get_or (settled_in part k lane n t m) (2 * i + lane) 0 ≡ label_byte (settled (get_or (xs ++ replicate g m) i false))
    old i p =
        strided_out part from g (label_byte (settled m)) (2 * i + lane)
        (λ j u z. ⊎_elim (λ none. omega (arith, known)) (λ all. omega (arith, known)) (gain_all n t m))
        ∙ h.shown i p ∙ ap (λ (b : Bool). label_byte (settled b)) (sym (get_or-append xs (replicate g m) false i p))

    new : (j : ℕ) → j < g → get_or (settled_in part k lane n t m) (2 * (length xs + j) + lane) 0 ≡ label_byte (settled (get_or (xs ++ replicate g m) (length xs + j) false))
    new j p =
        let place : 2 * (length xs + j) + lane ≡ from + 2 * j = ⊎_elim (λ none. omega (arith, known)) (λ all. omega (arith, known)) (gain_all n t m) in
        let fits : from + 2 * g ≤ length part + 1 = ⊎_elim (λ none. omega (arith, known)) (λ all. omega (arith, known)) (gain_all n t m) in
        rw (place, get_or-append-add xs (replicate g m) j false, get_or-replicate g j m false p)
        (strided_in part from g (label_byte (settled m)) j fits p)

    each : (i : ℕ) → i < length (told n fresh (ms ++ (m ∷ []))) → get_or (settled_in part k lane n t m) (2 * i + lane) 0 ≡ label_byte (settled (get_or (told n fresh (ms ++ (m ∷ []))) i false))
    each = rw grown (λ i q.
        elim (dec_lt i (length xs)) [
          | yes p ↦ old i p
          | no p ↦
              let within : i < length xs + g = rw (length-append, length-replicate) at q in
              let at : length xs + (i - length xs) ≡ i = omega arith in
              rw at at (new (i - length xs) (omega arith))
        ])

-- a lane with all its labels
pub record Full (n : ℕ) (ms : List Bool) (lane : ℕ) (part : List ℕ) : Type 0 where
  pub each : (i : ℕ) → i < length ms → get_or part (2 * i + lane) 0 ≡ label_byte (get_or (labelling n ms) i undecided)

-- the pending ones written as undecided
pub lane_full :
    (n : ℕ) (ms : List Bool) (lane : ℕ) (t : Track) (part : List ℕ) (k : ℕ) → length ms ≡ k → 2 * k + lane ≤ length part + 1 →
    Lane n ms lane t part → Full n ms lane (strided part (2 * (k - t.pending) + lane) t.pending 2)
lane_full n ms lane t part k e b h = record { each = λ i p. elim (dec_lt i (length xs)) [ yes q ↦ old i q | no q ↦ new i (omega arith) p ] }
  where
    xs : List Bool
    xs = told n fresh ms

    known : length xs + t.pending ≡ k
    known = rw h.stands (settled_and_pending n ms ∙ e)

    from : ℕ
    from = 2 * (k - t.pending) + lane

    old : (i : ℕ) → i < length xs → get_or (strided part from t.pending 2) (2 * i + lane) 0 ≡ label_byte (get_or (labelling n ms) i undecided)
    old i q =
        strided_out part from t.pending 2 (2 * i + lane) (λ j u z. omega (arith, known))
        ∙ h.shown i q ∙ ap label_byte (sym (labels_told_lem n ms i false q))

    new : (i : ℕ) → length xs ≤ i → i < length ms → get_or (strided part from t.pending 2) (2 * i + lane) 0 ≡ label_byte (get_or (labelling n ms) i undecided)
    new i q p =
        let place : 2 * i + lane ≡ from + 2 * (i - length xs) = omega (arith, known) in
        rw (place, labels_pending n ms i q) (strided_in part from t.pending 2 (i - length xs) (omega (arith, known)) (omega (arith, known)))

pub full_other :
    (n : ℕ) (ms : List Bool) (lane : ℕ) (part : List ℕ) (other j c x : ℕ) → lane < 2 → other < 2 → (lane ≡ other → ⊥) →
    Full n ms lane part → Full n ms lane (strided part (2 * j + other) c x)
full_other n ms lane part other j c x p q r h =
    record { each = λ i s. strided_out part (2 * j + other) c x (2 * i + lane) (λ k u e. omega arith) ∙ h.each i s }

-- two full lanes, and nothing else, are the labels side by side
sides :
    (as' bs : List Label) (part : List ℕ) → length bs ≡ length as' → length part ≡ 2 * length as' →
    ((i : ℕ) → i < length as' → get_or part (2 * i + 0) 0 ≡ label_byte (get_or as' i undecided)) →
    ((i : ℕ) → i < length as' → get_or part (2 * i + 1) 0 ≡ label_byte (get_or bs i undecided)) → part ≡ side_by_side as' bs
unfolding side_by_side
sides [] bs [] e f g h = refl
sides [] bs (p ∷ part) e f g h = absurd (omega arith)
sides (a ∷ as') [] part e f g h = absurd (omega arith)
sides (a ∷ as') (b ∷ bs) [] e f g h = absurd (omega arith)
sides (a ∷ as') (b ∷ bs) (p ∷ []) e f g h = absurd (omega arith)
sides (a ∷ as') (b ∷ bs) (p ∷ q ∷ part) e f g h =
    ap₃ (g 0 (omega arith)) (h 0 (omega arith))
    (sides as' bs part (omega arith) (omega arith)
    (λ i r. let two : 2 * suc i + 0 ≡ suc (suc (2 * i + 0)) = omega arith in rw two at (g (suc i) (omega arith)))
    (λ i r. let two : 2 * suc i + 1 ≡ suc (suc (2 * i + 1)) = omega arith in rw two at (h (suc i) (omega arith))))
  where
    ap₃ : {p q x y : ℕ} {ps xs : List ℕ} → p ≡ x → q ≡ y → ps ≡ xs → (p ∷ q ∷ ps) ≡ (x ∷ y ∷ xs)
    ap₃ e f g = cc

pub lanes_bytes :
    (n : ℕ) (ms os : List Bool) (part : List ℕ) → length os ≡ length ms → length part ≡ 2 * length ms → Full n ms 0 part → Full n os 1 part →
    part ≡ side_by_side (labelling n ms) (labelling n os)
lanes_bytes n ms os part e f g h =
    sides (labelling n ms) (labelling n os) part
    (labels_length n os ∙ e ∙ sym (labels_length n ms))
    (rw labels_length f)
    (λ i p. g.each i (rw labels_length at p))
    (λ i p. h.each i (rw e (rw labels_length at p)))
