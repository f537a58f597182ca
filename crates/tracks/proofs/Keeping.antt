-- Made tracks meet the rules, and a join of two that meet them does, whatever they are; so does a track put in maintenance.
use mathlib.Core.Path.{◌≡◌, refl, sym, ap, ◌∙◌, subst}
use mathlib.Core.Bool.{Bool, true, false, cond, not, beq}
use mathlib.Core.List.{List, [], ◌∷◌}
use Prim.Native.Nat.{ℕ, suc, ◌+◌, ◌≤◌}
use native.Mathlib.Omega.{arith}
use native.Mathlib.Nat.{add-zero, zero-add}
use native.Mathlib.Decide.{ℕ_discrete}
use lib.Dec.{leb}
use lib.ListN.{length}
use borrow.Author.Tests.{leb-true}
use Rattle.rule.proofs.Windows.{not_not}
use Rattle.tallies.specs.declared.Marked.{Marked}
use Rattle.runs.specs.declared.figures.Figures.{Figures}
use Rattle.runs.specs.declared.run.Edges.{Edges}
use Rattle.runs.specs.declared.run.Edges.TheVariants.{Solid, Split}
use Rattle.runs.specs.declared.run.Run.{Run}
use Rattle.runs.specs.declared.middles.Label.{Label}
use Rattle.runs.specs.declared.middles.Label.TheVariants.{Inherits, Says}
use Rattle.runs.specs.declared.middles.Middle.{Middle}
use Rattle.runs.specs.Figures.{none, plus}
use Rattle.runs.specs.Runs.{long, closed, one, single, glue, same, figures_of, quiet_run}
use Rattle.runs.specs.Middles.{unit, placed, verdict, shut, over, times_by, times, quiet_middle}
use Rattle.runs.specs.Sound.{AllSound}
use Rattle.runs.specs.Valid.{EdgesValid, EdgesFor, RunValid, MiddleValid}
use Rattle.runs.proofs.Tying.{long_zero}
use Rattle.runs.proofs.Placing.{times_assoc}
use Rattle.runs.proofs.Keeping.{placed_label, times_label, single_valid, glue_valid, shut_valid, unit_valid, times_valid, quiet_run_valid, quiet_middle_valid}
use Rattle.tracks.specs.declared.Track.{Track}
use Rattle.tracks.specs.declared.Track.TheVariants.{Nothing, One, Many}
use Rattle.tracks.specs.Tracks.{push, graft, join, push_all, summary, quiet}
use Rattle.tracks.specs.Valid.{busy, TrackValid}
use Rattle.tracks.proofs.Deciding.{beq_yes, other}

-- marks that differ, and that agree
differ : (a b : Run) → same a b ≡ false → a.mark ≡ not b.mark
unfolding same
differ a b e = other a.mark b.mark e

agree : (a b : Run) → same a b ≡ true → a.mark ≡ b.mark
unfolding same
agree a b e = beq_yes a.mark b.mark e

-- two marks that both differ from a third are one
between : (a b c : Bool) → a ≡ not b → b ≡ not c → a ≡ c
between a b c e f = e ∙ ap not f ∙ not_not c

glue_mark : (p : ℕ) (a b : Run) → (glue p a b).mark ≡ a.mark
unfolding glue
glue_mark p a b = refl

glue_len : (p : ℕ) (a b : Run) → (glue p a b).len ≡ a.len + b.len
unfolding glue
glue_len p a b = refl

one_few : (b : Bool) → one b ≤ 1
one_few true = omega arith
one_few false = omega arith

-- of two marks that differ one is high
one_of_two : (a b : Bool) → a ≡ not b → one a + one b ≡ 1
one_of_two a true e = rw e
one_of_two a false e = rw e

-- 1 where the marks are one
abbrev pub is : Bool → Bool → ℕ
is a b = one (beq a b)

is_few : (a b : Bool) → is a b ≤ 1
is_few true true = omega arith
is_few true false = omega arith
is_few false true = omega arith
is_few false false = omega arith

-- a run next to one of the other mark
is_other : (a b : Bool) → a ≡ not b → is a b ≡ 0
is_other a true e = rw e
is_other a false e = rw e

-- two ends of one mark have something between
is_apart : (a b : Bool) (k : ℕ) → (k ≡ 0 → a ≡ not b) → is a b ≤ k
is_apart a b k h =
    elim (ℕ_discrete k 0) [
      | yes e ↦ omega (arith, is_other a b (h e))
      | no e ↦ omega (arith, is_few a b)
    ]

shut_label : (n p : ℕ) (t : Run) → (shut n p t).label ≡ cond (leb n t.len) (Says t.mark) Inherits
unfolding shut verdict
shut_label n p t = placed_label (cond (leb n t.len) (Says t.mark) Inherits) (figures_of p t)

says_one : (b c : Bool) → Says b ≡ Says c → b ≡ c
says_one b c e = cc

inherits_never : {A : Type 0} (c : Bool) → Inherits ≡ Says c → A
inherits_never c e = let z : ◌≡◌ {A = ℕ} 0 1 = cc in absurd (omega arith)

label_of : (a b : Middle) → (times a b).label ≡ over a.label b.label
unfolding times
label_of a b = times_label a.label a b

over_inherits : (l : Label) → over l Inherits ≡ l
unfolding over
over_inherits l = refl

over_says : (l : Label) (b : Bool) → over l (Says b) ≡ Says b
unfolding over
over_says l b = refl

busy_unit : busy unit ≡ 0
unfolding busy unit none
busy_unit = refl

busy_times_by : (l : Label) (a b : Middle) → busy (times_by l a b) ≤ busy a + busy b
unfolding busy times_by plus
busy_times_by Inherits a b = omega arith
busy_times_by (Says true) a b = omega arith
busy_times_by (Says false) a b = omega arith

busy_times : (a b : Middle) → busy (times a b) ≤ busy a + busy b
unfolding times
busy_times a b = busy_times_by a.label a b

busy_placed : (v : Label) (f : Figures) → busy (placed v f) ≤ f.high + f.runs
unfolding busy placed none
busy_placed Inherits f = omega arith
busy_placed (Says true) f = omega arith
busy_placed (Says false) f = omega arith

-- the stretches of a run of high marks and what counts of it, one more where it has no gap
edges_busy : (b : Bool) (p len count : ℕ) (e : Edges) → EdgesFor b p len count e → 1 ≤ len → count ≤ len
    → cond b count 0 + closed p e + 1 ≤ len + (one b + one b)
unfolding EdgesFor EdgesValid closed
edges_busy true p len count (Solid k) v o c = omega (arith, v.0, v.1, one_few (long p k))
edges_busy true p len count (Split x y z) v o c = omega (arith, v.0, one_few (long p x), one_few (long p z))
edges_busy false p len count e v o c = rw (v, long_zero) (omega arith)

busy_shut : (n p : ℕ) (t : Run) → RunValid p t → busy (shut n p t) + 1 ≤ t.len + (one t.mark + one t.mark)
unfolding shut figures_of
busy_shut n p t v =
    omega (
      arith,
      busy_placed (verdict n t) (figures_of p t),
      edges_busy t.mark p t.len t.load.count t.edges v.edges v.some v.counted,
    )

unit_label : unit.label ≡ Inherits
unfolding unit
unit_label = refl

turn_not : (a b : Bool) → a ≡ not b → b ≡ not a
turn_not a true e = rw e
turn_not a false e = rw e

-- the label behind a middle and a run that is shut, with k intervals before a run of the mark r: the run's own, or where it is short that of
-- the middle
label_shut : (n p size k : ℕ) (l r : Bool) (m : Middle) (t : Run) → 1 ≤ t.len → (size ≡ 0 → l ≡ not t.mark) → (k ≡ 0 → r ≡ not t.mark)
    → ((c : Bool) → m.label ≡ Says c → n + is t.mark c + is l c ≤ size)
    → (c : Bool) → (times m (shut n p t)).label ≡ Says c → n + is r c + is l c ≤ size + (t.len + k)
label_shut n p size k l r m t o x y v c q = by (leb n t.len) refl
  where
    behind : (z : Bool) → leb n t.len ≡ z → over m.label (cond z (Says t.mark) Inherits) ≡ Says c
    behind z f =
        sym (label_of m (shut n p t) ∙ ap (over m.label) (shut_label n p t ∙ ap (λ b. cond b (Says t.mark) Inherits) f)) ∙ q

    by : (z : Bool) → leb n t.len ≡ z → n + is r c + is l c ≤ size + (t.len + k)
    by true f =
        let d : t.mark ≡ c = says_one t.mark c (sym (over_says m.label t.mark) ∙ behind true f) in
        subst (λ z. n + is r z + is l z ≤ size + (t.len + k)) d
        (omega (arith, is_apart r t.mark k y, is_apart l t.mark size x, leb-true n t.len f))
    by false f =
        omega (arith, v c (sym (over_inherits m.label) ∙ behind false f), is_few r c)

-- and with a middle behind it
label_graft : (n p size k : ℕ) (l r : Bool) (m : Middle) (t : Run) (b : Middle) → 1 ≤ t.len → (size ≡ 0 → l ≡ not t.mark) → (k ≡ 0 → r ≡ not t.mark)
    → ((c : Bool) → m.label ≡ Says c → n + is t.mark c + is l c ≤ size)
    → ((c : Bool) → b.label ≡ Says c → n + is r c + is t.mark c ≤ k)
    → (c : Bool) → (times m (times (shut n p t) b)).label ≡ Says c → n + is r c + is l c ≤ size + (t.len + k)
label_graft n p size k l r m t b o x y v w c q = by b.label refl
  where
    behind : (z : Label) → b.label ≡ z → over (times m (shut n p t)).label z ≡ Says c
    behind z f =
        ap (over (times m (shut n p t)).label) (sym f)
        ∙ sym (label_of (times m (shut n p t)) b)
        ∙ ap (λ a. a.label) (times_assoc m (shut n p t) b)
        ∙ q

    by : (z : Label) → b.label ≡ z → n + is r c + is l c ≤ size + (t.len + k)
    by Inherits f = label_shut n p size k l r m t o x y v c (sym (over_inherits (times m (shut n p t)).label) ∙ behind Inherits f)
    by (Says d) f =
        let e : d ≡ c = says_one d c (sym (over_says (times m (shut n p t)).label d) ∙ behind (Says d) f) in
        omega (arith, w c (f ∙ ap Says e), is_few l c)

-- the mark of the last run
unfoldable pub ends : Track → Bool
ends Nothing = false
ends (One r) = r.mark
ends (Many l m t) = t.mark

module _ (n p : ℕ) where
  -- a run behind a track
  pub push_valid : (i : ℕ) (a : Track) (r : Run) → TrackValid n p i a → RunValid p r → TrackValid n p (i + r.len) (push n p a r)
  unfolding TrackValid push
  push_valid i Nothing r v w = (w, omega arith)
  push_valid i (One t) r v w = by (same t r) refl
    where
      by : (b : Bool) → same t r ≡ b → TrackValid n p (i + r.len) (cond (same t r) (One (glue p t r)) (Many t unit r))
      by true e = rw e (glue_valid p t r (agree t r e) v.0 w, omega (arith, glue_len p t r, v.1))
      by false e =
          rw e
          (record {
            size = 0;
            first = v.0;
            middle = unit_valid n p;
            last = w;
            lengths = omega (arith, v.1);
            adjoining = λ z. differ t r e;
            around = λ z. absurd (omega arith);
            spread = omega (arith, busy_unit, one_of_two t.mark r.mark (differ t r e));
            labelled = λ c z. inherits_never c (sym unit_label ∙ z);
          })
  push_valid i (Many l m t) r v w = by (same t r) refl
    where
      by : (b : Bool) → same t r ≡ b → TrackValid n p (i + r.len) (cond (same t r) (Many l m (glue p t r)) (Many l (times m (shut n p t)) r))
      by true e =
          rw e
          (record {
            size = v.size;
            first = v.first;
            middle = v.middle;
            last = glue_valid p t r (agree t r e) v.last w;
            lengths = omega (arith, glue_len p t r, v.lengths);
            adjoining = λ z. v.adjoining z ∙ ap not (sym (glue_mark p t r));
            around = λ z. v.around z ∙ sym (glue_mark p t r);
            spread = rw (glue_mark p t r) v.spread;
            labelled = λ c z. rw (glue_mark p t r) (v.labelled c z);
          })
      by false e =
          rw e
          (record {
            size = v.size + t.len;
            first = v.first;
            middle = times_valid n p v.size t.len m (shut n p t) v.middle (shut_valid n p t v.last);
            last = w;
            lengths = omega (arith, v.lengths);
            adjoining = λ z. absurd (omega (arith, v.last.some));
            around = λ z. between l.mark t.mark r.mark (v.adjoining (omega (arith, v.last.some))) (differ t r e);
            spread =
                omega
                (arith, v.spread, busy_times m (shut n p t), busy_shut n p t v.last, one_of_two t.mark r.mark (differ t r e));
            labelled = λ c z.
                omega (
                  arith,
                  label_shut n p v.size 0 l.mark r.mark m t v.last.some v.adjoining (λ y. turn_not t.mark r.mark (differ t r e)) v.labelled c z,
                );
          })

  push_ends : (a : Track) (r : Run) → ends (push n p a r) ≡ r.mark
  unfolding ends push
  push_ends Nothing r = refl
  push_ends (One t) r = by (same t r) refl
    where
      by : (b : Bool) → same t r ≡ b → ends (cond (same t r) (One (glue p t r)) (Many t unit r)) ≡ r.mark
      by true e = rw e (glue_mark p t r ∙ agree t r e)
      by false e = rw e
  push_ends (Many l m t) r = by (same t r) refl
    where
      by : (b : Bool) → same t r ≡ b → ends (cond (same t r) (Many l m (glue p t r)) (Many l (times m (shut n p t)) r)) ≡ r.mark
      by true e = rw e (glue_mark p t r ∙ agree t r e)
      by false e = rw e

  -- a middle and a last run behind a track that holds a run
  pub graft_valid : (i j : ℕ) (a : Track) (m : Middle) (t : Run) → 1 ≤ i → TrackValid n p i a → MiddleValid n p j m → RunValid p t
      → (j ≡ 0 → ends a ≡ not t.mark) → (j ≡ 1 → ends a ≡ t.mark)
      → busy m + one (ends a) + one t.mark ≤ j + 1
      → ((c : Bool) → m.label ≡ Says c → n + is t.mark c + is (ends a) c ≤ j)
      → TrackValid n p (i + (j + t.len)) (graft n p a m t)
  unfolding TrackValid graft ends
  graft_valid i j Nothing m t o v w u x y b g = absurd (omega arith)
  graft_valid i j (One l) m t o v w u x y b g =
      record { size = j; first = v.0; middle = w; last = u; lengths = omega (arith, v.1); adjoining = x; around = y; spread = b; labelled = g }
  graft_valid i j (Many l m₀ t₀) m t o v w u x y b g =
      record {
        size = v.size + (t₀.len + j);
        first = v.first;
        middle = times_valid n p v.size (t₀.len + j) m₀ (times (shut n p t₀) m) v.middle (times_valid n p t₀.len j (shut n p t₀) m (shut_valid n p t₀ v.last) w);
        last = u;
        lengths = omega (arith, v.lengths);
        adjoining = λ z. absurd (omega (arith, v.last.some));
        around = λ z. between l.mark t₀.mark t.mark (v.adjoining (omega (arith, v.last.some))) (x (omega (arith, v.last.some)));
        spread =
            omega
            (arith, v.spread, b, busy_times m₀ (times (shut n p t₀) m), busy_times (shut n p t₀) m, busy_shut n p t₀ v.last);
        labelled =
            label_graft n p v.size j l.mark t.mark m₀ t₀ m v.last.some v.adjoining (λ z. turn_not t₀.mark t.mark (x z)) v.labelled g;
      }

  -- a join meets the rules
  pub join_valid : (i j : ℕ) (a b : Track) → TrackValid n p i a → TrackValid n p j b → TrackValid n p (i + j) (join n p a b)
  unfolding TrackValid join
  join_valid i j a Nothing v w = let e : i + j ≡ i = omega arith in rw e v
  join_valid i j a (One r) v w = subst (λ k. TrackValid n p (i + k) (push n p a r)) w.1 (push_valid i a r v w.0)
  join_valid i j a (Many l m t) v w =
      let e : i + l.len + (w.size + t.len) ≡ i + j = omega (arith, w.lengths) in
      subst (λ k. TrackValid n p k (graft n p (push n p a l) m t)) e
      (graft_valid (i + l.len) w.size (push n p a l) m t (omega (arith, w.first.some)) (push_valid i a l v w.first) w.middle w.last
      (λ z. push_ends a l ∙ w.adjoining z)
      (λ z. push_ends a l ∙ w.around z)
      (rw (push_ends a l) w.spread)
      (λ c z. rw (push_ends a l) (w.labelled c z)))

  push_all_valid : (i : ℕ) (a : Track) (xs : List Marked) → TrackValid n p i a → AllSound xs → TrackValid n p (i + length xs) (push_all n p a xs)
  unfolding push_all AllSound single
  push_all_valid i a [] v s = rw add-zero v
  push_all_valid i a (x ∷ xs) v s =
      let e : i + 1 + length xs ≡ i + suc (length xs) = omega arith in
      subst (λ k. TrackValid n p k (push_all n p (push n p a (single x)) xs)) e
      (push_all_valid (i + 1) (push n p a (single x)) xs (push_valid i a (single x) v (single_valid p x s.0)) s.1)

  -- a made track meets the rules
  pub made_valid : (xs : List Marked) → AllSound xs → TrackValid n p (length xs) (summary n p xs)
  unfolding summary TrackValid
  made_valid xs s = rw zero-add at (push_all_valid 0 Nothing xs refl s)

-- a track in maintenance meets the rules
pub quiet_valid : (n p i : ℕ) (a : Track) → TrackValid n p i a → TrackValid n p i (quiet a)
unfolding TrackValid quiet quiet_run quiet_middle busy none
quiet_valid n p i Nothing v = v
quiet_valid n p i (One r) v = (quiet_run_valid p r v.0, v.1)
quiet_valid n p i (Many l m t) v =
    record {
      size = v.size;
      first = quiet_run_valid p l v.first;
      middle = quiet_middle_valid n p v.size m v.middle;
      last = quiet_run_valid p t v.last;
      lengths = v.lengths;
      adjoining = v.adjoining;
      around = v.around;
      spread = omega (arith, v.spread);
      labelled = v.labelled;
    }
