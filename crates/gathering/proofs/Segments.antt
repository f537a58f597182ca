-- A segment: intervals in a row in which neither mark changes. Both tracks have it in common but for its mark, and for its edges, which a run of
-- low marks has not; it is kept as a run of high marks. An interval more makes it longer, or is the first of the next.
-- Assumes nothing.
use mathlib.Core.Path.{◌≡◌, refl, ap, sym, ◌∙◌}
use mathlib.Core.Bool.{Bool, true, false, cond, ◌&&◌, beq, and-eq-true_iff}
use mathlib.Core.List.{List}
use Prim.Native.Nat.{ℕ, ◌+◌, ◌-◌, ◌≤◌, ◌<◌}
use native.Mathlib.Omega.{arith}
use Rattle.std.specs.Prelude.{Some, Result, Bool}
use Rattle.numbers.specs.Limits.{intervals}
use Rattle.numbers.specs.Many.{record_at}
use Rattle.settings.specs.declared.LabelSettings.{LabelSettings}
use Rattle.intervals.specs.Interval.{interval_of}
use Rattle.intervals.specs.Sequence.{reads_from}
use Rattle.intervals.specs.declared.Interval.{Interval}
use Rattle.intervals.proofs.IntervalRecord.{IntervalValid, interval_valid}
use Rattle.labels.specs.Marked.{counts_of, loss_mark, composite_mark, both_high}
use Rattle.runs.specs.declared.middles.Middle.{Middle}
use Rattle.runs.specs.declared.run.Run.{Run}
use Rattle.runs.specs.Runs.{single, load_of, gross, glue, same}
use Rattle.runs.specs.Middles.{shut, times}
use Rattle.runs.specs.Valid.{RunValid, RunsFit, EdgesFor}
use Rattle.runs.proofs.Fitting.{runs_fit}
use Rattle.runs.proofs.Keeping.{single_valid, glue_valid}
use Rattle.runs.proofs.Tying.{split_tie}
use Rattle.tallies.specs.Seen.{marked_as, loss_seen, composite_seen}
use Rattle.track_rules.proofs.Marking.{marked_sound}
use Rattle.tracks.specs.declared.Track.{Track}
use Rattle.tracks.specs.declared.Track.TheVariants.{Nothing, One, Many}
use Rattle.tracks.specs.Tracks.{push}
use Rattle.tracks.specs.Valid.{TrackValid, PushFits}
use Rattle.tracks.proofs.Deciding.{beq_yes}
use Rattle.tracks.proofs.Joining.{push_glue, push_many}
use Rattle.tracks.proofs.Keeping.{push_valid}
use Rattle.gathering.specs.Gathering.{onwards, toned, Held, Begun}
use Rattle.gathering.proofs.Gathering.{on_next}
use Rattle.numbers.specs.declared.refusal.Refusal.{Refusal}
use Rattle.summaries.specs.declared.Summary.{Summary}
use Rattle.rule.specs.declared.Both.{Both}

-- an interval as a segment

pub seen_valid : (p : ℕ) (v : Interval) → IntervalValid v → RunValid p (single (marked_as true v))
seen_valid p v valid = single_valid p (marked_as true v) (marked_sound true v valid)

pub seen_one : (v : Interval) → (single (marked_as true v)).len ≡ 1
unfolding single
seen_one v = refl

pub seen_high : (v : Interval) → (single (marked_as true v)).mark ≡ true
unfolding single marked_as
seen_high v = refl

glued_one : (p : ℕ) (g : Run) (v : Interval) → (glue p g (single (marked_as true v))).len ≡ g.len + 1
unfolding glue single
glued_one p g v = refl

glued_high : (p : ℕ) (g : Run) (v : Interval) → g.mark ≡ true → (glue p g (single (marked_as true v))).mark ≡ true
unfolding glue
glued_high p g v e = e

-- a segment as a run of a track

toned_single : (m : Bool) (v : Interval) → toned m (single (marked_as true v)) ≡ single (marked_as m v)
unfolding toned single load_of gross marked_as
toned_single true v = refl
toned_single false v = refl

pub toned_to : (m : Bool) {h : Bool} (v : Interval) {x : Run} → x ≡ single (marked_as true v) → h ≡ m → toned h x ≡ single (marked_as m v)
toned_to m v ex eh = rw (ex, eh) (toned_single m v)

toned_glue : (p : ℕ) (m : Bool) (g : Run) (v : Interval) → toned m (glue p g (single (marked_as true v))) ≡ glue p (toned m g) (single (marked_as m v))
unfolding toned glue single load_of gross marked_as
toned_glue p true g v = refl
toned_glue p false g v = rw split_tie

toned_same : (m : Bool) (g : Run) (v : Interval) → same (toned m g) (single (marked_as m v)) ≡ true
unfolding toned same single marked_as
toned_same true g v = refl
toned_same false g v = refl

pub toned_valid : (p : ℕ) (m : Bool) (g : Run) → g.mark ≡ true → RunValid p g → RunValid p (toned m g)
unfolding toned EdgesFor
toned_valid p true g e w = record { some = w.some; counted = w.counted; load = w.load; edges = rw e at w.edges }
toned_valid p false g e w = record { some = w.some; counted = w.counted; load = w.load; edges = refl }

pub toned_len : (m : Bool) (g : Run) → (toned m g).len ≡ g.len
unfolding toned
toned_len m g = refl

-- a track before a segment, and the segment behind it

pub segment_longer :
    (n p : ℕ) (a : Track) (m : Bool) (g : Run) (v : Interval) →
    push n p a (toned m (glue p g (single (marked_as true v)))) ≡ push n p (push n p a (toned m g)) (single (marked_as m v))
segment_longer n p a m g v =
    ap (push n p a) (toned_glue p m g v) ∙ sym (push_glue n p a (toned m g) (single (marked_as m v)) (toned_same m g v))

pub segment_next :
    (n p : ℕ) (a : Track) (m h : Bool) (g : Run) (v : Interval) →
    push n p (push n p a (toned h g)) (toned m (single (marked_as true v))) ≡ push n p (push n p a (toned h g)) (single (marked_as m v))
segment_next n p a m h g v = ap (push n p (push n p a (toned h g))) (toned_single m v)

pub held_begun : (l : LabelSettings) (first : ℕ) (g : Run) → Begun l first g → Held l Nothing Nothing g 1
unfolding TrackValid
held_begun l first g w = record { before = 0; lengths = omega (arith, w.one); loss = refl; composite = refl; segment = w.segment; high = w.high }

module _ (l : LabelSettings) (a b : Track) (g : Run) (k : ℕ) (w : Held l a b g k) where
  pub loss_fits : (m : Bool) → k ≤ intervals → PushFits l.n l.p a (toned m g)
  loss_fits m room =
      record { i = w.before; left = w.loss; right = toned_valid l.p m g w.high w.segment; room = omega (arith, w.lengths, toned_len m g) }

  pub composite_fits : (m : Bool) → k ≤ intervals → PushFits l.n l.p b (toned m g)
  composite_fits m room =
      record { i = w.before; left = w.composite; right = toned_valid l.p m g w.high w.segment; room = omega (arith, w.lengths, toned_len m g) }

  module _ (v : Interval) (valid : IntervalValid v) where
    pub longer_fits : k < intervals → RunsFit g (single (marked_as true v))
    longer_fits room =
        runs_fit l.p g (single (marked_as true v)) w.segment (seen_valid l.p v valid) (omega (arith, w.lengths, seen_one v))

    pub held_longer : Held l a b (glue l.p g (single (marked_as true v))) (k + 1)
    held_longer =
        record {
          before = w.before;
          lengths = omega (arith, w.lengths, glued_one l.p g v);
          loss = w.loss;
          composite = w.composite;
          segment = glue_valid l.p g (single (marked_as true v)) (w.high ∙ sym (seen_high v)) w.segment (seen_valid l.p v valid);
          high = glued_high l.p g v w.high;
        }

    pub held_next : (h j : Bool) → Held l (push l.n l.p a (toned h g)) (push l.n l.p b (toned j g)) (single (marked_as true v)) (k + 1)
    unfolding toned
    held_next h j =
        record {
          before = w.before + g.len;
          lengths = omega (arith, w.lengths, seen_one v);
          loss = push_valid l.n l.p w.before a (toned h g) w.loss (toned_valid l.p h g w.high w.segment);
          composite = push_valid l.n l.p w.before b (toned j g) w.composite (toned_valid l.p j g w.high w.segment);
          segment = seen_valid l.p v valid;
          high = seen_high v;
        }

-- a track of several runs that stays, and with a run behind it

pub several_kept : (f : Run) {m m' : Middle} {t t' : Run} → m' ≡ m → t' ≡ t → Many f m' t' ≡ Many f m t
several_kept f em et = cc

pub several_next :
    (n p : ℕ) (f : Run) (m : Middle) (t r : Run) {m' : Middle} {t' : Run} →
    m' ≡ cond (same t r) m (times m (shut n p t)) → t' ≡ cond (same t r) (glue p t r) r → Many f m' t' ≡ push n p (Many f m t) r
several_next n p f m t r em et = cc (push_many n p f m t r)

-- the marks have not changed
pub kept_marks :
    (m h : Both Bool) → beq m.loss h.loss && beq m.composite h.composite ≡ true → (m.loss ≡ h.loss) × (m.composite ≡ h.composite)
kept_marks m h e =
    let f = (and-eq-true_iff (beq m.loss h.loss) (beq m.composite h.composite)).0 e in
    (beq_yes m.loss h.loss f.0, beq_yes m.composite h.composite f.1)

-- a track with the segment behind it, after an interval that makes the segment longer, and after one that begins the next

longer_to :
    (n p : ℕ) (a : Track) {a' : Track} (g : Run) {g' x : Run} (h : Bool) {h' : Bool} (m : Bool) (v : Interval) →
    a' ≡ a → g' ≡ glue p g x → x ≡ single (marked_as true v) → h' ≡ h → h ≡ m →
    push n p a' (toned h' g') ≡ push n p (push n p a (toned h g)) (single (marked_as m v))
longer_to n p a g h m v ea eg ex eh em = cc (segment_longer n p a h g v)

next_to :
    (n p : ℕ) (a : Track) {a' : Track} (g : Run) {g' t : Run} (h m : Bool) {h' : Bool} (v : Interval) →
    a' ≡ push n p a t → t ≡ toned h g → g' ≡ single (marked_as true v) → h' ≡ m →
    push n p a' (toned h' g') ≡ push n p (push n p a (toned h g)) (single (marked_as m v))
next_to n p a g h m v ea et eg eh = cc (segment_next n p a m h g v)

-- what is made of n records, the first of which is the segment `start` with these marks
abbrev pub of_first : LabelSettings → List ℕ → ℕ → ℕ → Run → Both Bool → Result Summary Refusal
of_first l s n first start begun =
    onwards l first (first + 1) 1 (One (toned begun.loss start)) (One (toned begun.composite start)) (reads_from (n - 1) s 1)

-- what is made of the records from the k-th on, behind two tracks and a segment with these marks
abbrev pub of_rest : LabelSettings → List ℕ → ℕ → ℕ → Track → Track → Run → Both Bool → ℕ → ℕ → Result Summary Refusal
of_rest l s n first a b g h next k =
    onwards l first next k (push l.n l.p a (toned h.loss g)) (push l.n l.p b (toned h.composite g)) (reads_from (n - k) s k)

-- the loop over the records before the k-th: what is made of all, x, is what is made of the rest
pub record Going (l : LabelSettings) (s : List ℕ) (n first : ℕ) (x : Result Summary Refusal) (a b : Track) (g : Run) (h : Both Bool) (next k : ℕ) : Type 0 where
  pub numbered : next ≡ first + k
  pub few : next ≤ intervals
  pub held : Held l a b g k
  pub goes_on : x ≡ of_rest l s n first a b g h next k

pub going_begun :
    (l : LabelSettings) (s : List ℕ) (n first : ℕ) (start : Run) (begun : Both Bool) → Begun l first start → Going l s n first (of_first l s n first start begun) Nothing Nothing start begun (first + 1) 1
unfolding push
going_begun l s n first start begun w =
    record { numbered = refl; few = omega (arith, w.known); held = held_begun l first start w; goes_on = refl }

module _
    (l : LabelSettings) (s : List ℕ) (n first : ℕ) (x : Result Summary Refusal) (a b : Track) (g : Run) (h : Both Bool) (next k : ℕ)
    (w : Going l s n first x a b g h next k)
    (v : Interval) (more : k < n) (e : interval_of (record_at s 48 k) ≡ Some v) (due : v.number ≡ next)
  where
    pub going_valid : IntervalValid v
    going_valid = interval_valid (record_at s 48 k) v e

    pub going_room : next < intervals
    going_room = omega (arith, going_valid.number_fact, due)

    stepped :
        x
        ≡ onwards l first (next + 1) (k + 1)
        (push l.n l.p (push l.n l.p a (toned h.loss g)) (single (loss_seen l v)))
        (push l.n l.p (push l.n l.p b (toned h.composite g)) (single (composite_seen l v)))
        (reads_from (n - (k + 1)) s (k + 1))
    stepped =
        w.goes_on
        ∙ on_next l first n k next s (push l.n l.p a (toned h.loss g)) (push l.n l.p b (toned h.composite g)) v more e due

    module _ {a' b' : Track} {g' y : Run} {h' m : (Both Bool)} (ey : y ≡ single (marked_as true v)) (em : m ≡ both_high l (counts_of v)) where
      pub going_longer :
          beq m.loss h.loss && beq m.composite h.composite ≡ true →
          a' ≡ a → b' ≡ b → g' ≡ glue l.p g y → h' ≡ h → Going l s n first x a' b' g' h' (next + 1) (k + 1)
      going_longer same ea eb eg eh =
          let f = kept_marks m h same in
          let p = longer_to l.n l.p a g h.loss (loss_mark l v) v ea eg ey (ap (λ c. c.loss) eh) (sym f.0 ∙ ap (λ c. c.loss) em) in
          let q = longer_to l.n l.p b g h.composite (composite_mark l v) v eb eg ey (ap (λ c. c.composite) eh) (sym f.1 ∙ ap (λ c. c.composite) em) in
          record {
            numbered = omega (arith, w.numbered);
            few = omega (arith, going_room);
            held = rw (ea, eb, eg, ey) (held_longer l a b g k w.held v going_valid);
            goes_on = rw (p, q) stepped;
          }

      pub going_next :
          {t u : Run} → a' ≡ push l.n l.p a t → t ≡ toned h.loss g → b' ≡ push l.n l.p b u → u ≡ toned h.composite g →
          g' ≡ y → h' ≡ m → Going l s n first x a' b' g' h' (next + 1) (k + 1)
      going_next ea et eb eu eg eh =
          let p = next_to l.n l.p a g h.loss (loss_mark l v) v ea et (eg ∙ ey) (ap (λ c. c.loss) (eh ∙ em)) in
          let q = next_to l.n l.p b g h.composite (composite_mark l v) v eb eu (eg ∙ ey) (ap (λ c. c.composite) (eh ∙ em)) in
          record {
            numbered = omega (arith, w.numbered);
            few = omega (arith, going_room);
            held = rw (ea, et, eb, eu, eg, ey) (held_next l a b g k w.held v going_valid h.loss h.composite);
            goes_on = rw (p, q) stepped;
          }
