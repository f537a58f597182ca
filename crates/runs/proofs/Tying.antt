-- Edges tie together associatively, on all values, and `Solid 0` is their unit; so two runs of one mark glue together associatively.
use mathlib.Core.Path.{◌≡◌, refl}
use mathlib.Core.Bool.{Bool, true, false, beq, and-false}
use Prim.Native.Nat.{ℕ, zero, suc}
use native.Mathlib.Nat.{add_assoc, add-zero, zero-add}
use lib.Dec.{leb-suc-zero}
use Rattle.runs.specs.declared.run.Edges.{Edges}
use Rattle.runs.specs.declared.run.Edges.TheVariants.{Solid, Split}
use Rattle.runs.specs.declared.run.Run.{Run}
use Rattle.runs.specs.Runs.{long, tie, glue, same, quiet_run}
use Rattle.runs.proofs.Adding.{both_assoc, both_idle}

pub tie_assoc : (p : ℕ) (a b c : Edges) → tie p (tie p a b) c ≡ tie p a (tie p b c)
unfolding tie
tie_assoc p (Solid a) (Solid b) (Solid c) = rw add_assoc
tie_assoc p (Solid a) (Solid b) (Split d e f) = rw add_assoc
tie_assoc p (Solid a) (Split d e f) (Solid c) = refl
tie_assoc p (Solid a) (Split d e f) (Split g h k) = refl
tie_assoc p (Split d e f) (Solid b) (Solid c) = rw add_assoc
tie_assoc p (Split d e f) (Solid b) (Split g h k) = rw (add_assoc f b g)
tie_assoc p (Split d e f) (Split g h k) (Solid c) = refl
tie_assoc p (Split d e f) (Split g h k) (Split x y z) = simp add_assoc

pub solid_tie : (p : ℕ) (a : Edges) → tie p (Solid 0) a ≡ a
unfolding tie
solid_tie p (Solid a) = rw zero-add
solid_tie p (Split d e f) = rw zero-add

pub tie_solid : (p : ℕ) (a : Edges) → tie p a (Solid 0) ≡ a
unfolding tie
tie_solid p (Solid a) = rw add-zero
tie_solid p (Split d e f) = rw add-zero

-- nothing in a row is no run
pub long_zero : (p : ℕ) → long p 0 ≡ false
unfolding long
long_zero zero = refl
long_zero (suc p) = rw (leb-suc-zero p, and-false)

pub split_tie : (p : ℕ) → tie p (Split 0 0 0) (Split 0 0 0) ≡ Split 0 0 0
unfolding tie
split_tie p = rw long_zero

pub glue_assoc : (p : ℕ) (a b c : Run) → glue p (glue p a b) c ≡ glue p a (glue p b c)
unfolding glue
glue_assoc p a b c = λ i.
    record {
      mark = a.mark;
      len = add_assoc a.len b.len c.len i;
      load = both_assoc a.load b.load c.load i;
      edges = tie_assoc p a.edges b.edges c.edges i;
    }

-- a glued run has the mark of its parts
pub same_glue_left : (p : ℕ) (a b c : Run) → same (glue p a b) c ≡ same a c
unfolding same glue
same_glue_left p a b c = refl

pub same_glue_right : (p : ℕ) (a b c : Run) → same a (glue p b c) ≡ same a b
unfolding same glue
same_glue_right p a b c = refl

beq_trans : (a b c : Bool) → beq a b ≡ true → beq a c ≡ beq b c
beq_trans true true c e = refl
beq_trans true false c e = cc
beq_trans false true c e = cc
beq_trans false false c e = refl

pub same_trans : (a b c : Run) → same a b ≡ true → same a c ≡ same b c
unfolding same
same_trans a b c e = beq_trans a.mark b.mark c.mark e

pub quiet_glue : (p : ℕ) (a b : Run) → quiet_run (glue p a b) ≡ glue p (quiet_run a) (quiet_run b)
unfolding glue quiet_run
quiet_glue p a b = rw (both_idle, split_tie)

pub quiet_same : (a b : Run) → same (quiet_run a) (quiet_run b) ≡ same a b
unfolding same quiet_run
quiet_same a b = refl
