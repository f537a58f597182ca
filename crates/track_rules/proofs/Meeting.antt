-- The tests hold exactly where the rules do.
use mathlib.Core.Path.{◌≡◌, refl, subst}
use mathlib.Core.Bool.{Bool, true, false, cond, not, ◌&&◌, ◌||◌, beq, and-eq-true_iff}
use mathlib.Core.List.{List, [], ◌∷◌}
use Prim.Native.Nat.{ℕ, ◌+◌, ◌-◌, ◌*◌, ◌≤◌, ◌<◌}
use native.Mathlib.Omega.{arith}
use native.Mathlib.Decide.{dec_lt}
use lib.Dec.{leb, ltb, eqb}
use borrow.Author.Tests.{leb-true, ltb-true, eqb-true, eqb-false, not-true, le-leb, lt-ltb, eq-eqb, ne_eqb}
use Rattle.numbers.specs.Limits.{intervals, largest_delay}
use Rattle.numbers.specs.Rules.{met_by}
use Rattle.runs.specs.declared.figures.Load.{Load}
use Rattle.runs.specs.declared.figures.Figures.{Figures}
use Rattle.runs.specs.declared.run.Edges.{Edges}
use Rattle.runs.specs.declared.run.Edges.TheVariants.{Solid, Split}
use Rattle.runs.specs.declared.run.Run.{Run}
use Rattle.runs.specs.declared.middles.Label.{Label}
use Rattle.runs.specs.declared.middles.Label.TheVariants.{Inherits, Says}
use Rattle.runs.specs.declared.middles.Middle.{Middle}
use Rattle.runs.specs.Figures.{idle, none}
use Rattle.runs.specs.Runs.{one}
use Rattle.tracks.specs.declared.Track.{Track}
use Rattle.tracks.specs.declared.Track.TheVariants.{Nothing, One, Many}
use Rattle.tracks.specs.Valid.{ManyValid, TrackValid}
use Rattle.runs.specs.Valid.{LoadValid, FiguresValid, EdgesValid, EdgesFor, RunValid, LabelValid, MiddleValid}
use Rattle.tracks.proofs.Deciding.{beq_yes, other}
use Rattle.track_rules.specs.Meets.{load_rules, load_meets, figures_rules, figures_meet, high_meets, low_meets, run_rules, run_meets, idle_rules, idle_load, no_figures, label_meets, middle_rules, middle_meets, ends_meet, many_rules, many_meets, track_meets}

-- every rule of a list is met
unfoldable pub Met : List Bool → Type 0
Met [] = Unit {0}
Met (r ∷ rs) = (r ≡ true) × Met rs

pub met_all : (first : Bool) (rules : List Bool) → met_by first rules ≡ true → (first ≡ true) × Met rules
unfolding Met
met_all first [] e = (e, tt)
met_all first (r ∷ rs) e =
    let h : ((first && r) ≡ true) × Met rs = met_all (first && r) rs e in
    let g : (first ≡ true) × (r ≡ true) = (and-eq-true_iff first r).0 h.0 in
    (g.0, (g.1, h.1))

all_met_lem : (first : Bool) (rules : List Bool) → first ≡ true → Met rules → met_by first rules ≡ true
unfolding Met
all_met_lem first [] e h = e
all_met_lem first (r ∷ rs) e h = all_met_lem (first && r) rs ((and-eq-true_iff first r).1 (e, h.0)) h.1

-- a rule that is asked only where a test holds
unless : (a b : Bool) → (not a || b) ≡ true → a ≡ true → b ≡ true
unless true b e f = e
unless false b e f = cc

unless_met : (a b : Bool) → (a ≡ true → b ≡ true) → (not a || b) ≡ true
unless_met true b h = h refl
unless_met false b h = refl

-- a rule that is asked only where a test fails
or_else : (a b : Bool) → (a || b) ≡ true → a ≡ false → b ≡ true
or_else true b e f = cc
or_else false b e f = e

or_met : (a b : Bool) → (a ≡ false → b ≡ true) → (a || b) ≡ true
or_met true b h = refl
or_met false b h = h refl

heard : (sent lost : ℕ) → lost ≤ sent → eqb (sent - lost) 0 ≡ false → lost < sent
heard sent lost p z = elim (dec_lt lost sent) [
  | yes q ↦ q
  | no q ↦ absurd (eqb-false (sent - lost) 0 z (omega arith))
]

pub load_met : (l : Load) → load_meets l ≡ true → LoadValid l × (l.count ≤ intervals)
unfolding load_meets Met
load_met l e =
    let d : ℕ = l.sent - l.lost in
    let h : (leb l.count intervals ≡ true) × Met (load_rules l) = met_all (leb l.count intervals) (load_rules l) e in (
      record {
        few = leb-true _ _ h.1.0;
        within = leb-true _ _ h.1.1.0;
        lost_of_sent = leb-true _ _ h.1.1.1.0;
        silent = λ q.
            let z : (eqb l.most 0 ≡ true) × (eqb l.headroom 0 ≡ true) = (and-eq-true_iff _ _).0 (unless (eqb d 0) (eqb l.most 0 && eqb l.headroom 0) h.1.1.1.1.0 (eq-eqb d 0 (omega arith))) in
            (eqb-true _ _ z.0, eqb-true _ _ z.1);
        roomy = leb-true _ _ h.1.1.1.1.1.0;
        ordered = λ q. leb-true _ _ (or_else (eqb d 0) (leb largest_delay (l.most + l.headroom)) h.1.1.1.1.1.1.0 (ne_eqb d 0 (λ z. omega arith)));
        from = leb-true _ _ h.1.1.1.1.1.1.1.0;
        to = leb-true _ _ h.1.1.1.1.1.1.1.1.0;
      },
      leb-true _ _ h.0,
    )

pub load_meets_lem : (l : Load) → LoadValid l → l.count ≤ intervals → load_meets l ≡ true
unfolding load_meets Met
load_meets_lem l v c =
    all_met_lem (leb l.count intervals) (load_rules l) (le-leb _ _ c) (
      le-leb _ _ v.few,
      (
        le-leb _ _ v.within,
        (
          le-leb _ _ v.lost_of_sent,
          (
            unless_met _ _ (λ z.
                let q : l.sent ≡ l.lost = omega (arith, eqb-true (l.sent - l.lost) 0 z, v.lost_of_sent) in
                (and-eq-true_iff _ _).1 (eq-eqb _ _ (v.silent q).0, eq-eqb _ _ (v.silent q).1)),
            (
              le-leb _ _ v.roomy,
              (
                or_met _ _ (λ z. le-leb _ _ (v.ordered (heard l.sent l.lost v.lost_of_sent z))),
                (
                  le-leb _ _ v.from,
                  (le-leb _ _ v.to, tt),
                ),
              ),
            ),
          ),
        ),
      ),
    )

pub figures_met : (p : ℕ) (f : Figures) → figures_meet p f ≡ true → FiguresValid p f
unfolding figures_meet Met
figures_met p f e =
    let h : (load_meets f.load ≡ true) × Met (figures_rules p f) = met_all (load_meets f.load) (figures_rules p f) e in
    record {
      load = (load_met f.load h.0).0;
      high = leb-true _ _ h.1.0;
      runs = leb-true _ _ h.1.1.0;
      unasked = λ z. eqb-true _ _ (unless (eqb p 0) (eqb f.runs 0) h.1.1.1.0 (eq-eqb p 0 z));
    }

pub figures_meet_lem : (p : ℕ) (f : Figures) → FiguresValid p f → f.load.count ≤ intervals → figures_meet p f ≡ true
unfolding figures_meet Met
figures_meet_lem p f v c =
    all_met_lem (load_meets f.load) (figures_rules p f) (load_meets_lem f.load v.load c)
    (le-leb _ _ v.high, (le-leb _ _ v.runs, (unless_met _ _ (λ z. eq-eqb _ _ (v.unasked (eqb-true p 0 z))), tt)))

high_met : (p len count : ℕ) (e : Edges) → high_meets p len count e ≡ true → EdgesValid p len count e
unfolding high_meets EdgesValid Met
high_met p len count (Solid k) h =
    let g : (eqb k len ≡ true) × (eqb count len ≡ true) = (and-eq-true_iff (eqb k len) (eqb count len)).0 h in
    (eqb-true _ _ g.0, eqb-true _ _ g.1)
high_met p len count (Split x y z) h =
    let rest : List Bool = leb (x + z + p * y) count ∷ (not (eqb p 0) || eqb y 0) ∷ [] in
    let g : (ltb (y + count) len ≡ true) × Met rest = met_all (ltb (y + count) len) rest h in
    (ltb-true _ _ g.0, leb-true _ _ g.1.0, λ q. eqb-true _ _ (unless (eqb p 0) (eqb y 0) g.1.1.0 (eq-eqb p 0 q)))

high_meets_lem : (p len count : ℕ) (e : Edges) → EdgesValid p len count e → high_meets p len count e ≡ true
unfolding high_meets EdgesValid Met
high_meets_lem p len count (Solid k) v = (and-eq-true_iff (eqb k len) (eqb count len)).1 (eq-eqb _ _ v.0, eq-eqb _ _ v.1)
high_meets_lem p len count (Split x y z) v =
    let rest : List Bool = leb (x + z + p * y) count ∷ (not (eqb p 0) || eqb y 0) ∷ [] in
    all_met_lem (ltb (y + count) len) rest (lt-ltb _ _ v.0)
    (le-leb _ _ v.1, (unless_met (eqb p 0) (eqb y 0) (λ q. eq-eqb _ _ (v.2 (eqb-true p 0 q))), tt))

low_met : (e : Edges) → low_meets e ≡ true → e ≡ Split 0 0 0
unfolding low_meets Met
low_met (Solid k) h = cc
low_met (Split x y z) h =
    let g : (eqb x 0 ≡ true) × Met (eqb y 0 ∷ eqb z 0 ∷ []) = met_all (eqb x 0) (eqb y 0 ∷ eqb z 0 ∷ []) h in
    rw (eqb-true x 0 g.0, eqb-true y 0 g.1.0, eqb-true z 0 g.1.1.0)

low_meets_lem : (e : Edges) → e ≡ Split 0 0 0 → low_meets e ≡ true
unfolding low_meets
low_meets_lem e h = rw h

edges_met : (b : Bool) (p len count : ℕ) (e : Edges) → cond b (high_meets p len count e) (low_meets e) ≡ true → EdgesFor b p len count e
unfolding EdgesFor
edges_met true p len count e h = high_met p len count e h
edges_met false p len count e h = low_met e h

edges_meet : (b : Bool) (p len count : ℕ) (e : Edges) → EdgesFor b p len count e → cond b (high_meets p len count e) (low_meets e) ≡ true
unfolding EdgesFor
edges_meet true p len count e v = high_meets_lem p len count e v
edges_meet false p len count e v = low_meets_lem e v

pub run_met : (p : ℕ) (r : Run) → run_meets p r ≡ true → RunValid p r
unfolding run_meets Met
run_met p r e =
    let h : (leb 1 r.len ≡ true) × Met (run_rules p r) = met_all (leb 1 r.len) (run_rules p r) e in
    record {
      some = leb-true _ _ h.0;
      counted = leb-true _ _ h.1.0;
      load = (load_met r.load h.1.1.0).0;
      edges = edges_met r.mark p r.len r.load.count r.edges h.1.1.1.0;
    }

pub run_meets_lem : (p : ℕ) (r : Run) → RunValid p r → r.len ≤ intervals → run_meets p r ≡ true
unfolding run_meets Met
run_meets_lem p r v c =
    all_met_lem (leb 1 r.len) (run_rules p r) (le-leb _ _ v.some) (
      le-leb _ _ v.counted,
      (
        load_meets_lem r.load v.load (omega (arith, v.counted)),
        (edges_meet r.mark p r.len r.load.count r.edges v.edges, tt),
      ),
    )

idle_met : (l : Load) → idle_load l ≡ true → l ≡ idle
unfolding idle_load Met idle
idle_met l e =
    let h : (eqb l.count 0 ≡ true) × Met (idle_rules l) = met_all (eqb l.count 0) (idle_rules l) e in
    λ i. record {
      count = eqb-true l.count 0 h.0 i;
      sent = eqb-true l.sent 0 h.1.0 i;
      lost = eqb-true l.lost 0 h.1.1.0 i;
      sum = eqb-true l.sum 0 h.1.1.1.0 i;
      most = eqb-true l.most 0 h.1.1.1.1.0 i;
      headroom = eqb-true l.headroom 0 h.1.1.1.1.1.0 i;
    }

none_met : (f : Figures) → no_figures f ≡ true → f ≡ none
unfolding no_figures Met none
none_met f e =
    let h : (idle_load f.load ≡ true) × Met (eqb f.high 0 ∷ eqb f.runs 0 ∷ []) = met_all (idle_load f.load) (eqb f.high 0 ∷ eqb f.runs 0 ∷ []) e in
    λ i. record { load = idle_met f.load h.0 i; high = eqb-true f.high 0 h.1.0 i; runs = eqb-true f.runs 0 h.1.1.0 i }

none_meets : (f : Figures) → f ≡ none → no_figures f ≡ true
unfolding no_figures idle_load none idle
none_meets f e = rw e

label_met : (n size : ℕ) (l : Label) (m : Middle) → label_meets n size l m ≡ true → LabelValid n size l m
unfolding label_meets LabelValid
label_met n size Inherits m e =
    let h : (no_figures m.available ≡ true) × (eqb m.unavailable 0 ≡ true) = (and-eq-true_iff (no_figures m.available) (eqb m.unavailable 0)).0 e in
    (none_met m.available h.0, eqb-true _ _ h.1)
label_met n size (Says b) m e = leb-true _ _ e

label_meets_lem : (n size : ℕ) (l : Label) (m : Middle) → LabelValid n size l m → label_meets n size l m ≡ true
unfolding label_meets LabelValid
label_meets_lem n size Inherits m v = (and-eq-true_iff (no_figures m.available) (eqb m.unavailable 0)).1 (none_meets m.available v.0, eq-eqb _ _ v.1)
label_meets_lem n size (Says b) m v = le-leb _ _ v

pub middle_met : (n p size : ℕ) (m : Middle) → middle_meets n p size m ≡ true → MiddleValid n p size m
unfolding middle_meets Met
middle_met n p size m e =
    let h : (figures_meet p m.inherited ≡ true) × Met (middle_rules n p size m) = met_all (figures_meet p m.inherited) (middle_rules n p size m) e in
    record {
      figures = record {
        inherited = figures_met p m.inherited h.0;
        available = figures_met p m.available h.1.0;
        counted = leb-true _ _ h.1.1.0;
      };
      labelled = label_met n size m.label m h.1.1.1.0;
    }

pub middle_meets_lem : (n p size : ℕ) (m : Middle) → MiddleValid n p size m → size ≤ intervals → middle_meets n p size m ≡ true
unfolding middle_meets Met
middle_meets_lem n p size m v c =
    all_met_lem (figures_meet p m.inherited) (middle_rules n p size m)
    (figures_meet_lem p m.inherited v.figures.inherited (omega (arith, v.figures.counted))) (
      figures_meet_lem p m.available v.figures.available (omega (arith, v.figures.counted)),
      (le-leb _ _ v.figures.counted, (label_meets_lem n size m.label m v.labelled, tt)),
    )

not_beq : (a b : Bool) → not (beq a b) ≡ true → a ≡ not b
not_beq a b e = other a b (not-true (beq a b) e)

beq_not : (a b : Bool) → a ≡ not b → not (beq a b) ≡ true
beq_not a true e = rw e
beq_not a false e = rw e

beq_same : (a b : Bool) → a ≡ b → beq a b ≡ true
beq_same a true e = rw e
beq_same a false e = rw e

ends_met : (n size : ℕ) (l : Label) (a b : Bool) → ends_meet n size l a b ≡ true
    → (c : Bool) → l ≡ Says c → n + one (beq b c) + one (beq a c) ≤ size
unfolding ends_meet
ends_met n size l a b e c q = leb-true _ _ (subst (λ z. ends_meet n size z a b ≡ true) q e)

ends_meet_lem : (n size : ℕ) (l : Label) (a b : Bool) → ((c : Bool) → l ≡ Says c → n + one (beq b c) + one (beq a c) ≤ size)
    → ends_meet n size l a b ≡ true
unfolding ends_meet
ends_meet_lem n size Inherits a b h = refl
ends_meet_lem n size (Says c) a b h = le-leb _ _ (h c refl)

many_met : (n p size len : ℕ) (l : Run) (m : Middle) (t : Run) → l.len + (size + t.len) ≡ len → many_meets n p size l m t ≡ true → ManyValid n p len l m t
unfolding many_meets Met
many_met n p size len l m t q e =
    let h : (run_meets p l ≡ true) × Met (many_rules n p size l m t) = met_all (run_meets p l) (many_rules n p size l m t) e in
    record {
      size = size;
      first = run_met p l h.0;
      middle = middle_met n p size m h.1.0;
      last = run_met p t h.1.1.0;
      lengths = q;
      adjoining = λ z. not_beq l.mark t.mark (unless (eqb size 0) (not (beq l.mark t.mark)) h.1.1.1.0 (eq-eqb size 0 z));
      around = λ z. beq_yes l.mark t.mark (unless (eqb size 1) (beq l.mark t.mark) h.1.1.1.1.0 (eq-eqb size 1 z));
      spread = leb-true _ _ h.1.1.1.1.1.0;
      labelled = ends_met n size m.label l.mark t.mark h.1.1.1.1.1.1.0;
    }

many_meets_lem : (n p len : ℕ) (l : Run) (m : Middle) (t : Run) (v : ManyValid n p len l m t) → len ≤ intervals → many_meets n p v.size l m t ≡ true
unfolding many_meets Met
many_meets_lem n p len l m t v c =
    all_met_lem (run_meets p l) (many_rules n p v.size l m t) (run_meets_lem p l v.first (omega (arith, v.lengths))) (
      middle_meets_lem n p v.size m v.middle (omega (arith, v.lengths)),
      (
        run_meets_lem p t v.last (omega (arith, v.lengths)),
        (
          unless_met (eqb v.size 0) (not (beq l.mark t.mark)) (λ z. beq_not l.mark t.mark (v.adjoining (eqb-true v.size 0 z))),
          (unless_met (eqb v.size 1) (beq l.mark t.mark) (λ z. beq_same l.mark t.mark (v.around (eqb-true v.size 1 z))), (le-leb _ _ v.spread, (ends_meet_lem n v.size m.label l.mark t.mark v.labelled, tt))),
        ),
      ),
    )

-- a track that passes the tests meets the rules
pub track_met : (n p len : ℕ) (t : Track) → track_meets n p len t ≡ true → TrackValid n p len t
unfolding track_meets TrackValid
track_met n p len Nothing e = eqb-true len 0 e
track_met n p len (One r) e =
    let h : (eqb r.len len ≡ true) × (run_meets p r ≡ true) = (and-eq-true_iff (eqb r.len len) (run_meets p r)).0 e in
    (run_met p r h.1, eqb-true _ _ h.0)
track_met n p len (Many l m t) e =
    let h : (leb (l.len + t.len) len ≡ true) × (many_meets n p (len - (l.len + t.len)) l m t ≡ true) = (and-eq-true_iff (leb (l.len + t.len) len) (many_meets n p (len - (l.len + t.len)) l m t)).0 e in
    many_met n p (len - (l.len + t.len)) len l m t (omega (arith, leb-true (l.len + t.len) len h.0)) h.1

-- and one of no more intervals than there are that meets the rules passes them
pub track_meets_lem : (n p len : ℕ) (t : Track) → TrackValid n p len t → len ≤ intervals → track_meets n p len t ≡ true
unfolding track_meets TrackValid
track_meets_lem n p len Nothing v c = eq-eqb len 0 v
track_meets_lem n p len (One r) v c = (and-eq-true_iff (eqb r.len len) (run_meets p r)).1 (eq-eqb _ _ v.1, run_meets_lem p r v.0 (omega (arith, v.1)))
track_meets_lem n p len (Many l m t) v c =
    let q : v.size ≡ len - (l.len + t.len) = omega (arith, v.lengths) in
    (and-eq-true_iff (leb (l.len + t.len) len) (many_meets n p (len - (l.len + t.len)) l m t)).1 (
      le-leb (l.len + t.len) len (omega (arith, v.lengths)),
      subst (λ k. many_meets n p k l m t ≡ true) q (many_meets_lem n p len l m t v c),
    )
