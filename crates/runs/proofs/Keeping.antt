-- Figures, runs and middles of sound intervals meet the rules, and so do those put together of such as meet them.
use mathlib.Core.Path.{◌≡◌, refl, sym, ap, ◌∙◌, subst}
use mathlib.Core.Bool.{Bool, true, false, cond, not, ◌&&◌}
use Prim.Native.Nat.{ℕ, ◌+◌, ◌-◌, ◌*◌, ◌≤◌, ◌<◌, max}
use native.Mathlib.Omega.{arith}
use native.Mathlib.Nat.{mul-le-mul_right}
use native.Mathlib.Decide.{dec_lt}
use lib.Dec.{leb, eqb}
use borrow.Author.Tests.{leb-true, eqb-false}
use Rattle.numbers.specs.Limits.{largest_delay}
use Rattle.tallies.specs.declared.Marked.{Marked}
use Rattle.runs.specs.declared.figures.Load.{Load}
use Rattle.runs.specs.declared.figures.Figures.{Figures}
use Rattle.runs.specs.declared.run.Edges.{Edges}
use Rattle.runs.specs.declared.run.Edges.TheVariants.{Solid, Split}
use Rattle.runs.specs.declared.run.Run.{Run}
use Rattle.runs.specs.declared.middles.Label.{Label}
use Rattle.runs.specs.declared.middles.Label.TheVariants.{Inherits, Says}
use Rattle.runs.specs.declared.middles.Middle.{Middle}
use Rattle.runs.specs.Figures.{turned, idle, both, none, plus}
use Rattle.runs.specs.Runs.{long, one, tie, closed, edge, gross, load_of, single, glue, figures_of, quiet_run}
use Rattle.runs.specs.Middles.{unit, placed, verdict, shut, over, times_by, times, quiet_middle}
use Rattle.runs.specs.Sound.{Sound}
use Rattle.runs.specs.Valid.{LoadValid, FiguresValid, EdgesValid, EdgesFor, RunValid, LabelValid, MiddleFits, MiddleValid}
use Rattle.runs.proofs.Adding.{plus_none}
use Rattle.runs.proofs.Headroom.{turned_heard, turned_silent}
use Rattle.runs.proofs.Tying.{long_zero, split_tie}

-- two sums, each between bounds times its number, together
spread_low : (k u v a b x y : ℕ) → k ≤ u → k ≤ v → u * a ≤ x → v * b ≤ y → k * (a + b) ≤ x + y
spread_low k u v a b x y p q f g = omega (arith, mul-le-mul_right a p, mul-le-mul_right b q)

spread_high : (k u v a b x y : ℕ) → u ≤ k → v ≤ k → x ≤ u * a → y ≤ v * b → x + y ≤ k * (a + b)
spread_high k u v a b x y p q f g = omega (arith, mul-le-mul_right a p, mul-le-mul_right b q)

idle_valid : LoadValid idle
unfolding idle
idle_valid =
    record {
      few = omega arith;
      lost_of_sent = omega arith;
      silent = λ e. (refl, refl);
      within = omega arith;
      roomy = omega arith;
      ordered = λ h. omega arith;
      from = omega arith;
      to = omega arith;
    }

both_valid : (a b : Load) → LoadValid a → LoadValid b → LoadValid (both a b)
unfolding both
both_valid a b v w =
    let d : a.sent + b.sent - (a.lost + b.lost) ≡ (a.sent - a.lost) + (b.sent - b.lost) = omega (arith, v.lost_of_sent, w.lost_of_sent) in
    record {
      few = omega (arith, v.few, w.few);
      lost_of_sent = omega (arith, v.lost_of_sent, w.lost_of_sent);
      silent = λ e.
          let x : (a.most ≡ 0) × (a.headroom ≡ 0) = v.silent (omega (arith, v.lost_of_sent, w.lost_of_sent)) in
          let y : (b.most ≡ 0) × (b.headroom ≡ 0) = w.silent (omega (arith, v.lost_of_sent, w.lost_of_sent)) in
          (omega arith, omega arith);
      within = omega (arith, v.within, w.within);
      roomy = omega (arith, v.roomy, w.roomy);
      ordered = λ h.
          elim (dec_lt a.lost a.sent) [
            | yes q ↦ omega (arith, v.ordered q)
            | no q ↦ omega (arith, w.ordered (omega (arith, v.lost_of_sent)))
          ];
      from =
          rw d
          (spread_low (largest_delay - max a.headroom b.headroom) (largest_delay - a.headroom) (largest_delay - b.headroom) (a.sent - a.lost) (b.sent - b.lost) a.sum b.sum
          (omega arith) (omega arith) v.from w.from);
      to =
          rw d
          (spread_high (max a.most b.most) a.most b.most (a.sent - a.lost) (b.sent - b.lost) a.sum b.sum
          (omega arith) (omega arith) v.to w.to);
    }

gross_valid : (x : Marked) → Sound x → LoadValid (gross x)
unfolding gross
gross_valid x s = by (dec_lt x.lost x.sent)
  where
    by : Dec (x.lost < x.sent) → LoadValid (gross x)
    by (yes q) =
        let e : turned x.sent x.lost x.least ≡ largest_delay - x.least = turned_heard x.sent x.lost x.least q in
        let f : largest_delay - turned x.sent x.lost x.least ≡ x.least = omega (arith, s.ordered, s.within) in
        record {
          few = omega (arith, s.few);
          lost_of_sent = s.lost_of_sent;
          silent = λ z. absurd (omega arith);
          within = s.within;
          roomy = omega arith;
          ordered = λ h. omega (arith, s.ordered, s.within);
          from = rw f s.from;
          to = s.to;
        }
    by (no q) =
        let e : x.sent ≡ x.lost = omega (arith, s.lost_of_sent) in
        let h : turned x.sent x.lost x.least ≡ 0 = omega (arith, turned_silent x.sent x.lost x.least e, s.ordered, s.silent e) in
        let d : x.sent - x.lost ≡ 0 = omega arith in
        record {
          few = omega (arith, s.few);
          lost_of_sent = s.lost_of_sent;
          silent = λ z. (s.silent z, h);
          within = s.within;
          roomy = omega arith;
          ordered = λ z. absurd (omega arith);
          from = rw d (omega arith);
          to = s.to;
        }

load_valid : (x : Marked) → Sound x → LoadValid (load_of x)
unfolding load_of
load_valid x s = by x.maintenance
  where
    by : (b : Bool) → LoadValid (cond b idle (gross x))
    by true = idle_valid
    by false = gross_valid x s

pub none_valid : (p : ℕ) → FiguresValid p none
unfolding none idle
none_valid p = record { load = idle_valid; high = omega arith; runs = omega arith; unasked = λ e. refl }

pub plus_valid : (p : ℕ) (a b : Figures) → FiguresValid p a → FiguresValid p b → FiguresValid p (plus a b)
unfolding plus both
plus_valid p a b v w =
    record {
      load = both_valid a.load b.load v.load w.load;
      high = omega (arith, v.high, w.high);
      runs = omega (arith, v.runs, w.runs);
      unasked = λ e. omega (arith, v.unasked e, w.unasked e);
    }

-- a run of length p or more has p, and p is not 0
long_holds : (p k : ℕ) → (p * one (long p k) ≤ k) × (one (long p k) ≤ 1) × (p ≡ 0 → one (long p k) ≡ 0)
unfolding long
long_holds p k = by (eqb p 0) (leb p k) refl refl
  where
    by : (x y : Bool) → eqb p 0 ≡ x → leb p k ≡ y
        → (p * one (not (eqb p 0) && leb p k) ≤ k) × (one (not (eqb p 0) && leb p k) ≤ 1) × (p ≡ 0 → one (not (eqb p 0) && leb p k) ≡ 0)
    by true y e f = rw e (omega arith, omega arith, λ z. refl)
    by false true e f = rw (e, f) (omega (arith, leb-true p k f), omega arith, λ z. absurd (eqb-false p 0 e z))
    by false false e f = rw (e, f) (omega arith, omega arith, λ z. refl)

tie_valid : (p la ca lb cb : ℕ) (a b : Edges) → EdgesValid p la ca a → EdgesValid p lb cb b → EdgesValid p (la + lb) (ca + cb) (tie p a b)
unfolding EdgesValid tie
tie_valid p la ca lb cb (Solid j) (Solid k) v w = (omega arith, omega arith)
tie_valid p la ca lb cb (Solid j) (Split x y z) v w = (omega arith, omega arith, w.2)
tie_valid p la ca lb cb (Split x y z) (Solid k) v w = (omega arith, omega arith, v.2)
tie_valid p la ca lb cb (Split x y z) (Split x' y' z') v w =
    let h : (p * one (long p (z + x')) ≤ z + x') × (one (long p (z + x')) ≤ 1) × (p ≡ 0 → one (long p (z + x')) ≡ 0) = long_holds p (z + x') in
    (omega arith, omega arith, λ e. omega (arith, h.2 e, v.2 e, w.2 e))

ties_for : (b : Bool) (p la ca lb cb : ℕ) (x y : Edges) → EdgesFor b p la ca x → EdgesFor b p lb cb y → EdgesFor b p (la + lb) (ca + cb) (tie p x y)
unfolding EdgesFor
ties_for true p la ca lb cb x y v w = tie_valid p la ca lb cb x y v w
ties_for false p la ca lb cb x y v w = rw (v, w) (split_tie p)

pub glue_valid : (p : ℕ) (a b : Run) → a.mark ≡ b.mark → RunValid p a → RunValid p b → RunValid p (glue p a b)
unfolding glue both
glue_valid p a b e v w =
    record {
      some = omega (arith, v.some);
      counted = omega (arith, v.counted, w.counted);
      load = both_valid a.load b.load v.load w.load;
      edges =
          ties_for a.mark p a.len a.load.count b.len b.load.count a.edges b.edges v.edges
          (subst (λ z. EdgesFor z p b.len b.load.count b.edges) (sym e) w.edges);
    }

edge_valid : (p : ℕ) (b m : Bool) (x : Load) → x.count ≡ 1 → EdgesFor b p 1 (cond m idle x).count (edge (b && not m))
unfolding EdgesFor EdgesValid idle
edge_valid p false m x e = refl
edge_valid p true true x e = (omega arith, omega arith, λ z. refl)
edge_valid p true false x e = (refl, e)

pub single_valid : (p : ℕ) (x : Marked) → Sound x → RunValid p (single x)
unfolding single load_of gross idle
single_valid p x s =
    record {
      some = omega arith;
      counted = few x.maintenance;
      load = load_valid x s;
      edges = edge_valid p x.mark x.maintenance (gross x) refl;
    }
  where
    few : (m : Bool) → (cond m idle (gross x)).count ≤ 1
    few true = omega arith
    few false = omega arith

-- a run of low marks has no high loss run; one of high marks has those of its edges
closed_valid : (p len count : ℕ) (e : Edges) → EdgesValid p len count e → (p * closed p e ≤ count) × (p ≡ 0 → closed p e ≡ 0)
unfolding EdgesValid closed
closed_valid p len count (Solid k) v = (omega (arith, (long_holds p k).0), (long_holds p k).2)
closed_valid p len count (Split x y z) v =
    (omega (arith, (long_holds p x).0, (long_holds p z).0), λ e. omega (arith, (long_holds p x).2 e, (long_holds p z).2 e, v.2 e))

closed_low : (p : ℕ) → closed p (Split 0 0 0) ≡ 0
unfolding closed
closed_low p = rw long_zero

figures_for : (b : Bool) (p len : ℕ) (l : Load) (e : Edges) → LoadValid l → EdgesFor b p len l.count e
    → FiguresValid p (record { load = l; high = cond b l.count 0; runs = closed p e })
unfolding EdgesFor
figures_for true p len l e v w =
    let c : (p * closed p e ≤ l.count) × (p ≡ 0 → closed p e ≡ 0) = closed_valid p len l.count e w in
    record { load = v; high = omega arith; runs = c.0; unasked = c.1 }
figures_for false p len l e v w =
    let c : closed p e ≡ 0 = ap (closed p) w ∙ closed_low p in
    record { load = v; high = omega arith; runs = rw c (omega arith); unasked = λ z. c }

pub figures_valid : (p : ℕ) (r : Run) → RunValid p r → FiguresValid p (figures_of p r)
unfolding figures_of
figures_valid p r v = figures_for r.mark p r.len r.load r.edges v.load v.edges

pub placed_fits : (p size : ℕ) (v : Label) (f : Figures) → FiguresValid p f → f.load.count ≤ size → MiddleFits p size (placed v f)
unfolding placed none idle
placed_fits p size Inherits f v c = record { inherited = v; available = none_valid p; counted = omega arith }
placed_fits p size (Says true) f v c = record { inherited = none_valid p; available = none_valid p; counted = omega arith }
placed_fits p size (Says false) f v c = record { inherited = none_valid p; available = v; counted = omega arith }

shut_labelled : (n p : ℕ) (r : Run) → LabelValid n r.len (verdict n r) (shut n p r)
unfolding shut verdict LabelValid placed
shut_labelled n p r = by (leb n r.len) refl
  where
    by : (b : Bool) → leb n r.len ≡ b
        → LabelValid n r.len (cond (leb n r.len) (Says r.mark) Inherits) (placed (cond (leb n r.len) (Says r.mark) Inherits) (figures_of p r))
    by true e = rw e (leb-true n r.len e)
    by false e = rw e (refl, refl)

pub placed_label : (v : Label) (f : Figures) → (placed v f).label ≡ v
unfolding placed
placed_label Inherits f = refl
placed_label (Says true) f = refl
placed_label (Says false) f = refl

pub shut_valid : (n p : ℕ) (r : Run) → RunValid p r → MiddleValid n p r.len (shut n p r)
unfolding shut figures_of
shut_valid n p r v =
    record {
      figures = placed_fits p r.len (verdict n r) (figures_of p r) (figures_valid p r v) v.counted;
      labelled = subst (λ z. LabelValid n r.len z (shut n p r)) (sym (placed_label (verdict n r) (figures_of p r))) (shut_labelled n p r);
    }

pub unit_valid : (n p : ℕ) → MiddleValid n p 0 unit
unfolding unit none idle LabelValid
unit_valid n p =
    record { figures = record { inherited = none_valid p; available = none_valid p; counted = omega arith }; labelled = (refl, refl) }

-- the rule on labels, where two middles meet
label_times : (n i j : ℕ) (l k : Label) (a b : Middle) → LabelValid n i l a → LabelValid n j k b → LabelValid n (i + j) (over l k) (times_by l a b)
unfolding LabelValid over times_by
label_times n i j Inherits Inherits a b v w = (rw (v.0, w.0, plus_none), omega arith)
label_times n i j Inherits (Says y) a b v w = omega arith
label_times n i j (Says x) Inherits a b v w = omega arith
label_times n i j (Says x) (Says y) a b v w = omega arith

fits_by : (p i j : ℕ) (l : Label) (a b : Middle) → MiddleFits p i a → MiddleFits p j b → MiddleFits p (i + j) (times_by l a b)
unfolding times_by plus both
fits_by p i j Inherits a b v w =
    record {
      inherited = plus_valid p a.inherited b.inherited v.inherited w.inherited;
      available = plus_valid p a.available b.available v.available w.available;
      counted = omega (arith, v.counted, w.counted);
    }
fits_by p i j (Says false) a b v w =
    record {
      inherited = v.inherited;
      available = plus_valid p a.available (plus b.inherited b.available) v.available (plus_valid p b.inherited b.available w.inherited w.available);
      counted = omega (arith, v.counted, w.counted);
    }
fits_by p i j (Says true) a b v w =
    record {
      inherited = v.inherited;
      available = plus_valid p a.available b.available v.available w.available;
      counted = omega (arith, v.counted, w.counted);
    }

pub times_fits : (p i j : ℕ) (a b : Middle) → MiddleFits p i a → MiddleFits p j b → MiddleFits p (i + j) (times a b)
unfolding times
times_fits p i j a b v w = fits_by p i j a.label a b v w

pub times_label : (l : Label) (a b : Middle) → (times_by l a b).label ≡ over l b.label
unfolding times_by
times_label Inherits a b = refl
times_label (Says true) a b = refl
times_label (Says false) a b = refl

pub times_valid : (n p i j : ℕ) (a b : Middle) → MiddleValid n p i a → MiddleValid n p j b → MiddleValid n p (i + j) (times a b)
unfolding times
times_valid n p i j a b v w =
    record {
      figures = fits_by p i j a.label a b v.figures w.figures;
      labelled =
          subst (λ z. LabelValid n (i + j) z (times_by a.label a b)) (sym (times_label a.label a b))
          (label_times n i j a.label b.label a b v.labelled w.labelled);
    }

-- a run in maintenance counts nothing
pub quiet_run_valid : (p : ℕ) (r : Run) → RunValid p r → RunValid p (quiet_run r)
unfolding quiet_run idle EdgesFor EdgesValid
quiet_run_valid p r v = record { some = v.some; counted = omega arith; load = idle_valid; edges = by r.mark }
  where
    by : (b : Bool) → EdgesFor b p r.len 0 (Split 0 0 0)
    by true = (omega (arith, v.some), omega arith, λ z. refl)
    by false = refl

pub quiet_middle_valid : (n p size : ℕ) (m : Middle) → MiddleValid n p size m → MiddleValid n p size (quiet_middle m)
unfolding quiet_middle none idle LabelValid
quiet_middle_valid n p size m v =
    record {
      figures = record { inherited = none_valid p; available = none_valid p; counted = omega arith };
      labelled = by m.label v.labelled;
    }
  where
    by : (l : Label) → LabelValid n size l m → LabelValid n size l (quiet_middle m)
    by Inherits w = (refl, refl)
    by (Says b) w = w
