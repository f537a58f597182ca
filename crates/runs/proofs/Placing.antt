-- Middles are a monoid; to put all in maintenance is a homomorphism of it and goes through `shut`. A run that is shut behind a middle changes
-- one set of its figures: the one that the label behind both says.
use mathlib.Core.Path.{◌≡◌, refl}
use mathlib.Core.Bool.{Bool, true, false}
use Prim.Native.Nat.{ℕ, ◌+◌}
use native.Mathlib.Nat.{add_assoc, add-zero, zero-add}
use native.Mathlib.Omega.{arith}
use Rattle.runs.specs.declared.figures.Figures.{Figures}
use Rattle.runs.specs.declared.run.Edges.TheVariants.{Split}
use Rattle.runs.specs.declared.run.Run.{Run}
use Rattle.runs.specs.declared.middles.Label.{Label}
use Rattle.runs.specs.declared.middles.Label.TheVariants.{Inherits, Says}
use Rattle.runs.specs.declared.middles.Middle.{Middle}
use Rattle.runs.specs.Figures.{idle, none, plus, both}
use Rattle.runs.specs.Runs.{figures_of, quiet_run, closed}
use Rattle.runs.specs.Middles.{unit, placed, verdict, shut, over, times_by, times, quiet_middle}
use Rattle.runs.proofs.Adding.{plus_assoc, plus_comm, plus_none, none_plus}
use Rattle.runs.proofs.Tying.{long_zero}

over_assoc : (a b c : Label) → over (over a b) c ≡ over a (over b c)
unfolding over
over_assoc a b Inherits = refl
over_assoc a b (Says s) = refl

inherits_over : (a : Label) → over Inherits a ≡ a
unfolding over
inherits_over Inherits = refl
inherits_over (Says s) = refl

abbrev middle : Label → Figures → Figures → ℕ → Middle
middle l i a u = record { label = l; inherited = i; available = a; unavailable = u }

pub times_unit : (m : Middle) → times m unit ≡ m
unfolding times unit times_by over none idle
times_unit m = by m.label m.inherited m.available m.unavailable
  where
    by : (l : Label) (i a : Figures) (u : ℕ) → times_by l (middle l i a u) unit ≡ middle l i a u
    by Inherits i a u = λ j. middle Inherits (plus_none i j) (plus_none a j) (add-zero u j)
    by (Says false) i a u = rw (plus_none none, plus_none a, add-zero u)
    by (Says true) i a u = rw (plus_none a, add-zero u)

pub unit_times : (m : Middle) → times unit m ≡ m
unfolding times unit times_by
unit_times m = λ j.
    middle (inherits_over m.label j) (none_plus m.inherited j) (none_plus m.available j) (zero-add m.unavailable j)

-- what two middles inherit goes before what they hold themselves
swap : (a b c d e : Figures) → plus (plus a (plus b c)) (plus d e) ≡ plus a (plus (plus b d) (plus c e))
swap a b c d e = rw (plus_assoc a (plus b c) (plus d e), plus_assoc b c (plus d e), ← plus_assoc c d e, plus_comm c d, plus_assoc d c e, plus_assoc b d (plus c e))

-- and so do their counts
counts_swap : (u v w : ℕ) (f g : Figures)
    → u + (f.load.count + v) + (g.load.count + w) ≡ u + ((plus f g).load.count + (v + w))
unfolding plus both
counts_swap u v w f g = omega arith

regroup : (a b c d : Figures) → plus (plus a (plus b c)) d ≡ plus a (plus b (plus c d))
regroup a b c d = simp plus_assoc

add_regroup : (a b c d : ℕ) → a + (b + c) + d ≡ a + (b + (c + d))
add_regroup a b c d = omega arith

assoc_by : (l l' : Label) (i i' e e' : Figures) (u u' : ℕ) (c : Middle)
    → times (times_by l (middle l i e u) (middle l' i' e' u')) c ≡ times_by l (middle l i e u) (times_by l' (middle l' i' e' u') c)
unfolding times times_by over
assoc_by Inherits Inherits i i' e e' u u' c = λ j.
    middle (over_assoc Inherits Inherits c.label j) (plus_assoc i i' c.inherited j) (plus_assoc e e' c.available j) (add_assoc u u' c.unavailable j)
assoc_by Inherits (Says false) i i' e e' u u' c = λ j.
    middle (over_assoc Inherits (Says false) c.label j) (plus i i') (plus_assoc e e' (plus c.inherited c.available) j) (add_assoc u u' c.unavailable j)
assoc_by Inherits (Says true) i i' e e' u u' c = λ j.
    middle (over_assoc Inherits (Says true) c.label j) (plus i i') (plus_assoc e e' c.available j) (add_assoc u u' (c.inherited.load.count + c.unavailable) j)
assoc_by (Says false) Inherits i i' e e' u u' c = λ j.
    middle (over_assoc (Says false) Inherits c.label j) i (swap e i' e' c.inherited c.available j) (add_assoc u u' c.unavailable j)
assoc_by (Says false) (Says false) i i' e e' u u' c = λ j.
    middle (over_assoc (Says false) (Says false) c.label j) i (regroup e i' e' (plus c.inherited c.available) j) (add_assoc u u' c.unavailable j)
assoc_by (Says false) (Says true) i i' e e' u u' c = λ j.
    middle (over_assoc (Says false) (Says true) c.label j) i (regroup e i' e' c.available j) (add_assoc u u' (c.inherited.load.count + c.unavailable) j)
assoc_by (Says true) Inherits i i' e e' u u' c = λ j.
    middle (over_assoc (Says true) Inherits c.label j) i (plus_assoc e e' c.available j) (counts_swap u u' c.unavailable i' c.inherited j)
assoc_by (Says true) (Says false) i i' e e' u u' c = λ j.
    middle (over_assoc (Says true) (Says false) c.label j) i (plus_assoc e e' (plus c.inherited c.available) j) (add_regroup u i'.load.count u' c.unavailable j)
assoc_by (Says true) (Says true) i i' e e' u u' c = λ j.
    middle (over_assoc (Says true) (Says true) c.label j) i (plus_assoc e e' c.available j) (add_regroup u i'.load.count u' (c.inherited.load.count + c.unavailable) j)

pub times_assoc : (a b c : Middle) → times (times a b) c ≡ times a (times b c)
unfolding times
times_assoc a b c =
    assoc_by a.label b.label a.inherited b.inherited a.available b.available a.unavailable b.unavailable c

-- figures behind a middle that inherit, are available, are unavailable: the rest of the middle stays

onto_inherits : (l k : Label) (i a f : Figures) (u : ℕ) → over l k ≡ Inherits → times_by l (middle l i a u) (placed k f) ≡ middle Inherits (plus i f) a u
unfolding over times_by placed
onto_inherits Inherits Inherits i a f u e = λ j. middle Inherits (plus i f) (plus_none a j) (add-zero u j)
onto_inherits (Says b) Inherits i a f u e = cc
onto_inherits l (Says b) i a f u e = cc

onto_available : (l k : Label) (i a f : Figures) (u : ℕ) → over l k ≡ Says false → times_by l (middle l i a u) (placed k f) ≡ middle (Says false) i (plus a f) u
unfolding over times_by placed none idle
onto_available Inherits Inherits i a f u e = cc
onto_available (Says true) Inherits i a f u e = cc
onto_available (Says false) Inherits i a f u e = rw (plus_none f, add-zero u)
onto_available l (Says true) i a f u e = cc
onto_available Inherits (Says false) i a f u e = rw (plus_none i, add-zero u)
onto_available (Says true) (Says false) i a f u e = rw (add-zero u)
onto_available (Says false) (Says false) i a f u e = rw (none_plus f, add-zero u)

onto_unavailable :
    (l k : Label) (i a f : Figures) (u : ℕ) → over l k ≡ Says true → times_by l (middle l i a u) (placed k f) ≡ middle (Says true) i a (u + f.load.count)
unfolding over times_by placed none idle
onto_unavailable Inherits Inherits i a f u e = cc
onto_unavailable (Says false) Inherits i a f u e = cc
onto_unavailable (Says true) Inherits i a f u e = rw (plus_none a, add-zero f.load.count)
onto_unavailable l (Says false) i a f u e = cc
onto_unavailable Inherits (Says true) i a f u e = rw (plus_none i, plus_none a)
onto_unavailable (Says true) (Says true) i a f u e = rw (plus_none a, zero-add f.load.count)
onto_unavailable (Says false) (Says true) i a f u e = rw (plus_none none, plus_none a)

module _ (n p : ℕ) (m : Middle) (t : Run) where
  pub shut_inherits :
      over m.label (verdict n t) ≡ Inherits → times m (shut n p t) ≡ middle Inherits (plus m.inherited (figures_of p t)) m.available m.unavailable
  unfolding times shut
  shut_inherits e = onto_inherits m.label (verdict n t) m.inherited m.available (figures_of p t) m.unavailable e

  pub shut_available :
      over m.label (verdict n t) ≡ Says false → times m (shut n p t) ≡ middle (Says false) m.inherited (plus m.available (figures_of p t)) m.unavailable
  unfolding times shut
  shut_available e = onto_available m.label (verdict n t) m.inherited m.available (figures_of p t) m.unavailable e

  pub shut_unavailable :
      over m.label (verdict n t) ≡ Says true → times m (shut n p t) ≡ middle (Says true) m.inherited m.available (m.unavailable + (figures_of p t).load.count)
  unfolding times shut
  shut_unavailable e = onto_unavailable m.label (verdict n t) m.inherited m.available (figures_of p t) m.unavailable e

-- a run in maintenance has no figures
pub figures_quiet : (p : ℕ) (r : Run) → figures_of p (quiet_run r) ≡ none
unfolding figures_of quiet_run none closed idle
figures_quiet p r = by r.mark
  where
    by : (b : Bool) → figures_of p (record { mark = b; len = r.len; load = idle; edges = Split 0 0 0 }) ≡ none
    by true = rw long_zero
    by false = rw long_zero

pub quiet_placed : (l : Label) (f : Figures) → quiet_middle (placed l f) ≡ placed l none
unfolding quiet_middle placed none idle
quiet_placed Inherits f = refl
quiet_placed (Says true) f = refl
quiet_placed (Says false) f = refl

verdict_quiet : (n : ℕ) (r : Run) → verdict n (quiet_run r) ≡ verdict n r
unfolding verdict quiet_run
verdict_quiet n r = refl

pub quiet_shut : (n p : ℕ) (r : Run) → quiet_middle (shut n p r) ≡ shut n p (quiet_run r)
unfolding shut
quiet_shut n p r = rw (quiet_placed, figures_quiet, verdict_quiet)

pub quiet_times : (a b : Middle) → quiet_middle (times a b) ≡ times (quiet_middle a) (quiet_middle b)
unfolding times times_by quiet_middle none idle
quiet_times a b = by a.label a.inherited a.available a.unavailable
  where
    by : (l : Label) (i e : Figures) (u : ℕ) → quiet_middle (times_by l (middle l i e u) b) ≡ times_by l (quiet_middle (middle l i e u)) (quiet_middle b)
    by Inherits i e u = rw plus_none
    by (Says false) i e u = simp plus_none
    by (Says true) i e u = rw plus_none
