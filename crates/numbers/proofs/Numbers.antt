-- Laws of little-endian numbers, over the width: both round trips, what a number and its bytes are in two parts, what is put reads as the value, and what lies past the end.
-- Assumes nothing.
use mathlib.Core.Path.{◌≡◌, refl, ap, sym, ◌∙◌}
use mathlib.Core.List.{List, [], ◌∷◌, ◌++◌}
use Prim.Native.Nat.{ℕ, zero, suc, min, ◌+◌, ◌*◌, ◌/◌, ◌%◌, ◌^◌, ◌≤◌, ◌<◌}
use native.Mathlib.Nat.{min-eq_left, le-min, pow-suc, pow-succ', mul_assoc, div-div-eq-div-mul}
use native.Mathlib.Omega.{arith}
use native.Mathlib.Decide.{dec_le}
use lib.Arith.{mod-mul}
use lib.ListN.{length, get_or, set, take, drop, length-set, get_or-eq_default, drop_of_length-le}
use lib.Seq.{sets, set_out, drop-cons, get_or-set_same, get_or-set_other}
use Rattle.numbers.specs.Bytes.{number, bytes_of, part, number_at, Bytes}

-- what lies past the end reads as 0, and is not written

pub read_past : (w : ℕ) (s : List ℕ) (i : ℕ) → length s ≤ i → number_at w s i ≡ 0
unfolding number_at number part
read_past zero s i h = refl
read_past (suc w) s i h =
    let first : get_or s i 0 ≡ 0 = get_or-eq_default s 0 h in
    let rest : number (part w s (suc i)) ≡ 0 = read_past w s (suc i) (omega arith) in
    omega arith

pub sets_past : (vs l : List ℕ) (i : ℕ) → length l ≤ i → sets l i vs ≡ l
sets_past [] l i h = refl
sets_past (v ∷ vs) l i h = rw (set_out l i v h) (sets_past vs l (suc i) (omega arith))

-- two parts, one after the other

pub sets_append : (us vs l : List ℕ) (i : ℕ) → sets l i (us ++ vs) ≡ sets (sets l i us) (i + length us) vs
sets_append [] vs l i = let e : i + 0 ≡ i = omega arith in rw e
sets_append (u ∷ us) vs l i =
    let e : i + suc (length us) ≡ suc i + length us = omega arith in
    rw e (sets_append us vs (set l i u) (suc i))

-- the power of one byte more
pow_next : (w : ℕ) → 256 ^ suc w ≡ 256 * 256 ^ w
pow_next w = pow-succ' 256 w

positive : (w : ℕ) → 0 < 256 ^ w
positive zero = omega arith
positive (suc w) = let p : 0 < 256 ^ w = positive w in rw pow_next (omega arith)

pub number_append : (us vs : List ℕ) → number (us ++ vs) ≡ number us + 256 ^ length us * number vs
unfolding number
number_append [] vs = omega arith
number_append (u ∷ us) vs =
    let e : number (us ++ vs) ≡ number us + 256 ^ length us * number vs = number_append us vs in
    let p : 256 ^ suc (length us) * number vs ≡ 256 * (256 ^ length us * number vs) =
    ap (λ (k : ℕ). k * number vs) (pow_next (length us)) ∙ mul_assoc 256 (256 ^ length us) (number vs) in
    omega arith

pub part_append : (v w : ℕ) (s : List ℕ) (i : ℕ) → part (v + w) s i ≡ part v s i ++ part w s (i + v)
unfolding part
part_append zero w s i = let e : i + 0 ≡ i = omega arith in let z : 0 + w ≡ w = omega arith in rw (e, z)
part_append (suc v) w s i =
    let e : i + suc v ≡ suc i + v = omega arith in
    let z : suc v + w ≡ suc (v + w) = omega arith in
    rw (e, z) (ap (λ (l : List ℕ). get_or s i 0 ∷ l) (part_append v w s (suc i)))

pub length_bytes : (w x : ℕ) → length (bytes_of w x) ≡ w
unfolding bytes_of
length_bytes zero x = refl
length_bytes (suc w) x = ap suc (length_bytes w (x / 256))

pub length_part : (w : ℕ) (s : List ℕ) (i : ℕ) → length (part w s i) ≡ w
unfolding part
length_part zero s i = refl
length_part (suc w) s i = ap suc (length_part w s (suc i))

pub bytes_append : (v w x : ℕ) → bytes_of (v + w) x ≡ bytes_of v x ++ bytes_of w (x / 256 ^ v)
unfolding bytes_of
bytes_append zero w x =
    let z : 0 + w ≡ w = omega arith in
    let e : x / 256 ^ 0 ≡ x = omega arith in
    rw (z, e)
bytes_append (suc v) w x =
    let z : suc v + w ≡ suc (v + w) = omega arith in
    let e : x / 256 / 256 ^ v ≡ x / 256 ^ suc v = div-div-eq-div-mul x 256 (256 ^ v) ∙ ap (λ (k : ℕ). x / k) (sym (pow_next v)) in
    rw z (ap (λ (l : List ℕ). x % 256 ∷ l) (bytes_append v w (x / 256) ∙ ap (λ (k : ℕ). bytes_of v (x / 256) ++ bytes_of w k) e))

-- the lowest bytes do not see what stands above them
pub bytes_of_rest : (w x : ℕ) → bytes_of w (x % 256 ^ w) ≡ bytes_of w x
unfolding bytes_of
bytes_of_rest zero x = refl
bytes_of_rest (suc w) x =
    let e : x % 256 ^ suc w ≡ (x / 256 % 256 ^ w) * 256 + x % 256 =
    ap (λ (k : ℕ). x % k) (pow-suc 256 w) ∙ mod-mul x (positive w) (omega arith) in
    let m : x % 256 ^ suc w % 256 ≡ x % 256 = omega arith in
    let d : x % 256 ^ suc w / 256 ≡ x / 256 % 256 ^ w = omega arith in
    rw (m, d) (ap (λ (l : List ℕ). x % 256 ∷ l) (bytes_of_rest w (x / 256)))

-- both round trips

pub number_of_bytes : (w x : ℕ) → x < 256 ^ w → number (bytes_of w x) ≡ x
unfolding number bytes_of
number_of_bytes zero x h = omega arith
number_of_bytes (suc w) x h =
    let p : x < 256 * 256 ^ w = rw pow_next at h in
    let e : number (bytes_of w (x / 256)) ≡ x / 256 = number_of_bytes w (x / 256) (omega arith) in
    omega arith

pub bytes_of_number : (bs : List ℕ) → Bytes bs → bytes_of (length bs) (number bs) ≡ bs
unfolding number bytes_of Bytes
bytes_of_number [] h = refl
bytes_of_number (b ∷ bs) h =
    let low : b < 256 = h 0 in
    let d : (b + 256 * number bs) / 256 ≡ number bs = omega arith in
    let m : (b + 256 * number bs) % 256 ≡ b = omega arith in
    rw (d, m) (ap (λ (l : List ℕ). b ∷ l) (bytes_of_number bs (λ i. h (suc i))))

-- the number in two parts of a slice

pub number_at_halves : (v w : ℕ) (s : List ℕ) (i : ℕ) → number_at (v + w) s i ≡ number_at v s i + 256 ^ v * number_at w s (i + v)
unfolding number_at
number_at_halves v w s i =
    ap number (part_append v w s i)
    ∙ number_append (part v s i) (part w s (i + v))
    ∙ ap (λ (k : ℕ). number (part v s i) + 256 ^ k * number (part w s (i + v))) (length_part v s i)

-- a number put as its `v` lowest bytes and then the `w` above them
pub sets_halves : (v w : ℕ) (l : List ℕ) (i x : ℕ) → sets (sets l i (bytes_of v (x % 256 ^ v))) (i + v) (bytes_of w (x / 256 ^ v)) ≡ sets l i (bytes_of (v + w) x)
sets_halves v w l i x =
    rw (bytes_append v w x, sets_append, length_bytes, bytes_of_rest)

-- a part of bytes is bytes, and the part from 0 that is as long as the whole is the whole

pub part_is_bytes : (w : ℕ) (s : List ℕ) (i : ℕ) → Bytes s → Bytes (part w s i)
unfolding part Bytes
part_is_bytes zero s i h k = omega arith
part_is_bytes (suc w) s i h zero = h i
part_is_bytes (suc w) s i h (suc k) = part_is_bytes w s (suc i) h k

pub part_from : (s : List ℕ) (w i : ℕ) → length s ≡ i + w → part w s i ≡ drop i s
unfolding part
part_from s zero i e = sym (drop_of_length-le s {i = i} (omega arith))
part_from s (suc w) i e = sym (drop-cons s i 0 (omega arith) ∙ ap (λ (l : List ℕ). get_or s i 0 ∷ l) (sym (part_from s w (suc i) (omega arith))))

pub part_whole : (s : List ℕ) (w : ℕ) → length s ≡ w → part w s 0 ≡ s
part_whole s w e = part_from s w 0 (omega arith)

-- what is put reads as the value

before_sets : (vs l : List ℕ) (i j : ℕ) → j < i → get_or (sets l i vs) j 0 ≡ get_or l j 0
before_sets [] l i j h = refl
before_sets (v ∷ vs) l i j h = before_sets vs (set l i v) (suc i) j (omega arith) ∙ get_or-set_other l i j v 0 (omega arith)

pub part_put : (bs l : List ℕ) (i : ℕ) → i + length bs ≤ length l → part (length bs) (sets l i bs) i ≡ bs
unfolding part
part_put [] l i h = refl
part_put (b ∷ bs) l i h =
    let first : get_or (sets (set l i b) (suc i) bs) i 0 ≡ b = before_sets bs (set l i b) (suc i) i (omega arith) ∙ get_or-set_same l i b 0 (omega arith) in
    let rest : part (length bs) (sets (set l i b) (suc i) bs) (suc i) ≡ bs = part_put bs (set l i b) (suc i) (rw length-set (omega arith)) in
    cc

pub read_put : (w x : ℕ) (l : List ℕ) (i : ℕ) → x < 256 ^ w → i + w ≤ length l → number_at w (sets l i (bytes_of w x)) i ≡ x
unfolding number_at
read_put w x l i fits room =
    let e : length (bytes_of w x) ≡ w = length_bytes w x in
    ap (λ k. number (part k (sets l i (bytes_of w x)) i)) (sym e)
    ∙ ap number (part_put (bytes_of w x) l i (omega arith))
    ∙ number_of_bytes w x fits

-- the bytes of a part are the bytes of its number
pub part_bytes : (w : ℕ) (s : List ℕ) (i : ℕ) → Bytes s → bytes_of w (number_at w s i) ≡ part w s i
unfolding number_at
part_bytes w s i h = ap (λ k. bytes_of k (number (part w s i))) (sym (length_part w s i)) ∙ bytes_of_number (part w s i) (part_is_bytes w s i h)

-- the bytes that are there
pub part_take : (w : ℕ) (s : List ℕ) (i : ℕ) → i + w ≤ length s → take w (drop i s) ≡ part w s i
unfolding part
part_take zero s i h = refl
part_take (suc w) s i h =
    rw (drop-cons s i 0 (omega arith)) (ap (λ (l : List ℕ). get_or s i 0 ∷ l) (part_take w s (suc i) (omega arith)))

-- one byte more
pub part_more : (w : ℕ) (s : List ℕ) (i : ℕ) → part (w + 1) s i ≡ part w s i ++ get_or s (i + w) 0 ∷ []
unfolding part
part_more w s i = part_append w 1 s i

-- a place that stopped short of what no machine word holds is past the end all the same

pub get_far : (s : List ℕ) (j m : ℕ) → length s ≤ m → get_or s (min j m) 0 ≡ get_or s j 0
get_far s j m h =
    elim (dec_le j m) [
      | yes q ↦ ap (λ i. get_or s i 0) (min-eq_left q)
      | no q ↦ get_or-eq_default s 0 (le-min (omega arith) h) ∙ sym (get_or-eq_default s 0 (omega arith))
    ]

pub set_far : (l : List ℕ) (j m x : ℕ) → length l ≤ m → set l (min j m) x ≡ set l j x
set_far l j m x h =
    elim (dec_le j m) [
      | yes q ↦ ap (λ i. set l i x) (min-eq_left q)
      | no q ↦ set_out l (min j m) x (le-min (omega arith) h) ∙ sym (set_out l j x (omega arith))
    ]
