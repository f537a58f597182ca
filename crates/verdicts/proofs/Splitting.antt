-- Runs of two kinds of intervals that stand side by side. Each interval counts for one kind at most, and where the kind changes the interval before does not count: so no run of
-- all that counts lies across a change, and the runs, and the number that counts, are those of the two kinds together.
-- Assumes nothing.
use mathlib.Core.Path.{◌≡◌, refl, sym, ◌∙◌}
use mathlib.Core.Bool.{Bool, true, false, not, cond, ◌&&◌, ◌||◌, or-false, true≢false}
use mathlib.Core.List.{List, [], ◌∷◌}
use Prim.Native.Nat.{ℕ, zero, suc, ◌+◌}
use native.Mathlib.Omega.{arith}
use native.Mathlib.Nat.{add_comm}
use Rattle.tallies.specs.Tally.{number, first_all, begun, runs_of}

-- what counts for one kind, for the other, and at all. a and b: the interval before counted for the one, for the other
pub data Split : Bool → Bool → List Bool → List Bool → List Bool → Type 0 where
  done : {a b : Bool} → Split a b [] [] []
  one : {a b : Bool} {xs ys zs : List Bool} → (c : Bool) → b ≡ false → Split c false xs ys zs → Split a b (c ∷ xs) (false ∷ ys) (c ∷ zs)
  other : {a b : Bool} {xs ys zs : List Bool} → (c : Bool) → a ≡ false → Split false c xs ys zs → Split a b (false ∷ xs) (c ∷ ys) (c ∷ zs)

pub number_split : {a b : Bool} {xs ys zs : List Bool} → Split a b xs ys zs → number zs ≡ number xs + number ys
unfolding number
number_split done = refl
number_split (one true e s) = omega (arith, number_split s)
number_split (one false e s) = number_split s
number_split (other true e s) = omega (arith, number_split s)
number_split (other false e s) = number_split s

-- runs

swap : {a b : Bool} {xs ys zs : List Bool} → Split a b xs ys zs → Split b a ys xs zs
swap done = done
swap (one c e s) = other c e (swap s)
swap (other c e s) = one c e (swap s)

-- behind an interval that counts for the first kind, as many count for it as count at all
firsts : (q : ℕ) {a b : Bool} {xs ys zs : List Bool} → a ≡ true → Split a b xs ys zs → first_all q zs ≡ first_all q xs
unfolding first_all
firsts zero t s = refl
firsts (suc q) t done = refl
firsts (suc q) t (one true e s) = firsts q refl s
firsts (suc q) t (one false e s) = refl
firsts (suc q) t (other c e s) = absurd (true≢false (sym t ∙ e))

firsts_from : (q : ℕ) (c : Bool) {b : Bool} {xs ys zs : List Bool} → Split c b xs ys zs → first_all q (c ∷ zs) ≡ first_all q (c ∷ xs)
unfolding first_all
firsts_from zero c s = refl
firsts_from (suc q) true s = firsts q refl s
firsts_from (suc q) false s = refl

-- an interval of the first kind in front
in_front :
    (q : ℕ) (a c : Bool) (xs ys zs : List Bool) → first_all q (c ∷ zs) ≡ first_all q (c ∷ xs) → begun q c zs ≡ begun q c xs + begun q false ys →
    begun q a (c ∷ zs) ≡ begun q a (c ∷ xs) + begun q false (false ∷ ys)
unfolding begun
in_front q a c xs ys zs e h = rw e (by (c && (not a && first_all q (c ∷ xs))))
  where
    by : (d : Bool) → cond d (suc (begun q c zs)) (begun q c zs) ≡ cond d (suc (begun q c xs)) (begun q c xs) + begun q false ys
    by true = omega arith
    by false = h

none_begun : (q : ℕ) (a b : Bool) → begun q (a || b) [] ≡ begun q a [] + begun q b []
unfolding begun
none_begun q a b = refl

begun_split : (q : ℕ) {a b : Bool} {xs ys zs : List Bool} → Split a b xs ys zs → begun q (a || b) zs ≡ begun q a xs + begun q b ys
begun_split q done = none_begun q _ _
begun_split q (one c e s) = rw (e, or-false) (in_front q _ c _ _ _ (firsts_from q c s) (rw or-false at (begun_split q s)))
begun_split q (other c e s) = rw e (in_front q _ c _ _ _ (firsts_from q c (swap s)) (begun_split q s ∙ add_comm _ _) ∙ add_comm _ _)

pub runs_split : (p : ℕ) {xs ys zs : List Bool} → Split false false xs ys zs → runs_of p zs ≡ runs_of p xs + runs_of p ys
unfolding runs_of
runs_split zero s = refl
runs_split (suc p) s = begun_split (suc p) s
