-- 01's runs, counted where they begin, are what the edges of a stretch come to; and at a border where one side does not count, the runs
-- of two stretches add up.
use mathlib.Core.Path.{◌≡◌, refl, sym, ap, ◌∙◌}
use mathlib.Core.Bool.{Bool, true, false, cond, not, ◌&&◌}
use mathlib.Core.List.{List, [], ◌∷◌, ◌++◌, append-nil}
use Prim.Native.Nat.{ℕ, zero, suc, ◌+◌}
use native.Mathlib.Omega.{arith}
use native.Mathlib.Nat.{add-zero, zero-add}
use lib.Dec.{leb, eqb-suc-zero, leb-zero, leb-suc-zero, leb-suc-suc}
use Rattle.runs.specs.declared.run.Edges.{Edges}
use Rattle.runs.specs.declared.run.Edges.TheVariants.{Solid, Split}
use Rattle.runs.specs.Runs.{long, one, tie, closed, edge}
use Rattle.tallies.specs.Tally.{number, first_all, begun, runs_of}
use Rattle.runs.proofs.Tying.{tie_assoc, solid_tie, long_zero}

-- the edges of a stretch, from whether each interval is high and counts
unfoldable pub ties : ℕ → List Bool → Edges
ties p [] = Solid 0
ties p (c ∷ cs) = tie p (edge c) (ties p cs)

pub ties_append : (p : ℕ) (cs ds : List Bool) → ties p (cs ++ ds) ≡ tie p (ties p cs) (ties p ds)
unfolding ties
ties_append p [] ds = sym (solid_tie p (ties p ds))
ties_append p (c ∷ cs) ds = rw (ties_append p cs ds, tie_assoc)

cond_one : (b : Bool) (k : ℕ) → cond b (suc k) k ≡ one b + k
cond_one true k = omega arith
cond_one false k = omega arith

cond_add : (b : Bool) (j k : ℕ) → cond b (suc (j + k)) (j + k) ≡ cond b (suc j) j + k
cond_add true j k = omega arith
cond_add false j k = refl

-- how many at the front count
lead : List Bool → ℕ
lead [] = 0
lead (true ∷ cs) = suc (lead cs)
lead (false ∷ cs) = 0

first_lead : (p : ℕ) (cs : List Bool) → first_all p cs ≡ leb p (lead cs)
unfolding first_all lead
first_lead zero cs = sym (leb-zero (lead cs))
first_lead (suc p) [] = sym (leb-suc-zero p)
first_lead (suc p) (true ∷ cs) = first_lead p cs ∙ sym (leb-suc-suc p (lead cs))
first_lead (suc p) (false ∷ cs) = sym (leb-suc-zero p)

long_suc : (p k : ℕ) → long (suc p) k ≡ leb (suc p) k
unfolding long
long_suc p k = rw (eqb-suc-zero p)

-- a run at the front, and those that begin behind it
begun_front : (p : ℕ) (cs : List Bool) → begun (suc p) false cs ≡ one (long (suc p) (lead cs)) + begun (suc p) true cs
unfolding begun lead
begun_front p [] = rw long_zero
begun_front p (true ∷ cs) =
    ap (λ b. cond b (suc (begun (suc p) true cs)) (begun (suc p) true cs)) (first_lead (suc p) (true ∷ cs) ∙ sym (long_suc p (suc (lead cs))))
    ∙ cond_one (long (suc p) (suc (lead cs))) (begun (suc p) true cs)
begun_front p (false ∷ cs) = rw (long_zero, zero-add)

-- a shut left end, and what stands right of it
closed_split : (p j : ℕ) (e : Edges) → closed p (tie p (Split j 0 0) e) ≡ one (long p j) + closed p e
unfolding closed tie
closed_split p j (Solid k) = rw (zero-add k, add-zero)
closed_split p j (Split a i z) = rw (zero-add a) (omega arith)

begun_closed : (p : ℕ) (cs : List Bool)
    → closed (suc p) (tie (suc p) (Solid 0) (ties (suc p) cs)) ≡ one (long (suc p) (0 + lead cs)) + begun (suc p) true cs
    → closed (suc p) (ties (suc p) cs) ≡ begun (suc p) false cs
begun_closed p cs h = ap (closed (suc p)) (sym (solid_tie (suc p) (ties (suc p) cs))) ∙ h ∙ rw zero-add (sym (begun_front p cs))

-- a stretch with j that count in front of it
closed_begun : (p j : ℕ) (cs : List Bool) → closed (suc p) (tie (suc p) (Solid j) (ties (suc p) cs)) ≡ one (long (suc p) (j + lead cs)) + begun (suc p) true cs
unfolding ties begun lead tie closed
closed_begun p j [] = sym (add-zero (one (long (suc p) (j + 0))))
closed_begun p j (true ∷ cs) =
    ap (closed (suc p)) (sym (tie_assoc (suc p) (Solid j) (Solid 1) (ties (suc p) cs)))
    ∙ closed_begun p (j + 1) cs
    ∙ ap (λ k. one (long (suc p) k) + begun (suc p) true cs) (omega arith)
closed_begun p j (false ∷ cs) =
    ap (closed (suc p)) (sym (tie_assoc (suc p) (Solid j) (Split 0 0 0) (ties (suc p) cs)))
    ∙ closed_split (suc p) (j + 0) (ties (suc p) cs)
    ∙ ap (λ k. one (long (suc p) (j + 0)) + k) (begun_closed p cs (closed_begun p 0 cs))

-- where p is 0 no edges make a run
closed_zero : (a b : Edges) → closed 0 (tie 0 a b) ≡ closed 0 a + closed 0 b
unfolding closed tie long
closed_zero (Solid a) (Solid b) = refl
closed_zero (Solid a) (Split d e f) = omega arith
closed_zero (Split d e f) (Solid b) = omega arith
closed_zero (Split d e f) (Split g h k) = omega arith

none_zero : (cs : List Bool) → closed 0 (ties 0 cs) ≡ 0
unfolding ties closed long
none_zero [] = refl
none_zero (true ∷ cs) = rw (closed_zero, none_zero cs)
none_zero (false ∷ cs) = rw (closed_zero, none_zero cs)

-- the runs by 01's definition are those of the edges
pub runs_closed : (p : ℕ) (cs : List Bool) → runs_of p cs ≡ closed p (ties p cs)
unfolding runs_of
runs_closed zero cs = sym (none_zero cs)
runs_closed (suc p) cs = sym (begun_closed p cs (closed_begun p 0 cs))

-- the first p, where one that does not count stands behind
first_cut : (p : ℕ) (cs ds : List Bool) → first_all p (cs ++ (false ∷ ds)) ≡ first_all p cs
unfolding first_all
first_cut zero cs ds = refl
first_cut (suc p) [] ds = refl
first_cut (suc p) (c ∷ cs) ds = rw (first_cut p cs ds)

begun_cut : (p : ℕ) (b : Bool) (cs ds : List Bool) → begun (suc p) b (cs ++ (false ∷ ds)) ≡ begun (suc p) b cs + begun (suc p) false ds
unfolding begun
begun_cut p b [] ds = sym (zero-add (begun (suc p) false ds))
begun_cut p b (c ∷ cs) ds = rw (first_cut (suc p) (c ∷ cs) ds, begun_cut p c cs ds) (cond_add (c && (not b && first_all (suc p) (c ∷ cs))) (begun (suc p) c cs) (begun (suc p) false ds))

-- no run goes on over an interval that does not count
pub runs_cut : (p : ℕ) (cs ds : List Bool) → runs_of p (cs ++ (false ∷ ds)) ≡ runs_of p cs + runs_of p (false ∷ ds)
unfolding runs_of begun
runs_cut zero cs ds = refl
runs_cut (suc p) cs ds = begun_cut p false cs ds

-- none counts
unfoldable pub NoneOf : List Bool → Type 0
NoneOf [] = Unit {0}
NoneOf (c ∷ cs) = (c ≡ false) × NoneOf cs

-- what does not count may stand in front
pub runs_after : (p : ℕ) (cs ds : List Bool) → NoneOf cs → runs_of p (cs ++ ds) ≡ runs_of p ds
unfolding NoneOf runs_of begun
runs_after p [] ds h = refl
runs_after zero (c ∷ cs) ds h = refl
runs_after (suc p) (c ∷ cs) ds h = rw h.0 (runs_after (suc p) cs ds h.1)

pub runs_none : (p : ℕ) (cs : List Bool) → NoneOf cs → runs_of p cs ≡ 0
unfolding runs_of begun
runs_none zero cs h = refl
runs_none (suc p) cs h = rw append-nil at (runs_after (suc p) cs [] h)

-- and so may it stand behind
pub runs_before : (p : ℕ) (cs ds : List Bool) → NoneOf ds → runs_of p (cs ++ ds) ≡ runs_of p cs
unfolding NoneOf
runs_before p cs [] h = rw append-nil
runs_before p cs (d ∷ ds) h = rw (h.0, runs_cut, runs_none p (false ∷ ds) (refl, h.1), add-zero)

pub number_append : (cs ds : List Bool) → number (cs ++ ds) ≡ number cs + number ds
unfolding number
number_append [] ds = sym (zero-add (number ds))
number_append (c ∷ cs) ds = rw (number_append cs ds) (cond_add c (number cs) (number ds))

pub number_none : (cs : List Bool) → NoneOf cs → number cs ≡ 0
unfolding number NoneOf
number_none [] h = refl
number_none (c ∷ cs) h = rw h.0 (number_none cs h.1)
