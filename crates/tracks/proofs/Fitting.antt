-- What the operations on tracks ask of those below them follows from the rules, where both together are no more intervals than there are.
use mathlib.Core.Path.{◌≡◌, subst}
use mathlib.Core.Bool.{false}
use Prim.Native.Nat.{ℕ, ◌+◌, ◌<◌}
use native.Mathlib.Omega.{arith}
use Rattle.runs.specs.declared.run.Run.{Run}
use Rattle.runs.specs.declared.middles.Label.TheVariants.{Says}
use Rattle.runs.specs.declared.middles.Middle.{Middle}
use Rattle.runs.specs.Figures.{none, idle}
use Rattle.runs.specs.Middles.{shut, times}
use Rattle.runs.specs.Valid.{RunValid, MiddleFits, span_of, RunsFit, MiddlesFit, ShutFits}
use Rattle.runs.proofs.Keeping.{none_valid, placed_fits, shut_valid, times_fits}
use Rattle.runs.proofs.Fitting.{runs_fit, middles_fit, span_fits, shut_fits}
use Rattle.tracks.specs.declared.Track.{Track}
use Rattle.tracks.specs.declared.Track.TheVariants.{One, Many}
use Rattle.tracks.specs.Tracks.{push, start}
use Rattle.tracks.specs.Valid.{ManyValid, TrackValid, PushFits, GraftFits, JoinFits, FinishFits, TrackFits}
use Rattle.tracks.proofs.Keeping.{push_valid}

pub start_fits : (p : ℕ) → MiddleFits p 0 start
unfolding start none idle
start_fits p = placed_fits p 0 (Says false) none (none_valid p) (omega arith)

-- what `finish` asks
pub finish_shuts : (p : ℕ) (m : Middle) (t : Run) → FinishFits p m t → span_of t.edges < 4294967294
finish_shuts p m t h = span_fits p t h.right (omega (arith, h.room))

module _ (n p : ℕ) where
  one_of : (i : ℕ) (a : Track) (t : Run) → TrackValid n p i a → a ≡ One t → RunValid p t × (t.len ≡ i)
  unfolding TrackValid
  one_of i a t v e = subst (TrackValid n p i) e v

  many_of : (i : ℕ) (a : Track) (l : Run) (m : Middle) (t : Run) → TrackValid n p i a → a ≡ Many l m t → ManyValid n p i l m t
  unfolding TrackValid
  many_of i a l m t v e = subst (TrackValid n p i) e v

  -- what `push` asks: of a run behind one run, and behind several
  pub push_one : (a : Track) (r t : Run) → PushFits n p a r → a ≡ One t → RunsFit t r
  push_one a r t h e =
      let v : RunValid p t × (t.len ≡ h.i) = one_of h.i a t h.left e in
      runs_fit p t r v.0 h.right (omega (arith, v.1, h.room))

  pub push_glues : (a : Track) (r l : Run) (m : Middle) (t : Run) → PushFits n p a r → a ≡ Many l m t → RunsFit t r
  push_glues a r l m t h e =
      let v : ManyValid n p h.i l m t = many_of h.i a l m t h.left e in
      runs_fit p t r v.last h.right (omega (arith, v.lengths, h.room))

  pub push_shuts : (a : Track) (r l : Run) (m : Middle) (t : Run) → PushFits n p a r → a ≡ Many l m t → ShutFits p m t
  push_shuts a r l m t h e =
      let v : ManyValid n p h.i l m t = many_of h.i a l m t h.left e in
      shut_fits p v.size m t v.middle.figures v.last (omega (arith, v.lengths, h.room))

  -- what `graft` asks
  pub graft_shuts : (a : Track) (k : Middle) (l : Run) (m : Middle) (t : Run) → GraftFits n p a k → a ≡ Many l m t → span_of t.edges < 4294967294
  graft_shuts a k l m t h e =
      let v : ManyValid n p h.i l m t = many_of h.i a l m t h.left e in
      span_fits p t v.last (omega (arith, v.lengths, h.room))

  pub graft_times : (a : Track) (k : Middle) (l : Run) (m : Middle) (t : Run) → GraftFits n p a k → a ≡ Many l m t → MiddlesFit (shut n p t) k
  graft_times a k l m t h e =
      let v : ManyValid n p h.i l m t = many_of h.i a l m t h.left e in
      middles_fit p t.len h.j (shut n p t) k (shut_valid n p t v.last).figures h.right.figures (omega (arith, v.lengths, h.room))

  pub graft_times_2 : (a : Track) (k : Middle) (l : Run) (m : Middle) (t : Run) → GraftFits n p a k → a ≡ Many l m t → MiddlesFit m (times (shut n p t) k)
  graft_times_2 a k l m t h e =
      let v : ManyValid n p h.i l m t = many_of h.i a l m t h.left e in
      middles_fit p v.size (t.len + h.j) m (times (shut n p t) k) v.middle.figures
      (times_fits p t.len h.j (shut n p t) k (shut_valid n p t v.last).figures h.right.figures)
      (omega (arith, v.lengths, h.room))

  -- what `join` asks
  pub join_one : (a b : Track) (r : Run) → JoinFits n p a b → b ≡ One r → PushFits n p a r
  join_one a b r h e =
      let v : RunValid p r × (r.len ≡ h.j) = one_of h.j b r h.right e in
      record { i = h.i; left = h.left; right = v.0; room = omega (arith, v.1, h.room) }

  pub join_first : (a b : Track) (l : Run) (m : Middle) (t : Run) → JoinFits n p a b → b ≡ Many l m t → PushFits n p a l
  join_first a b l m t h e =
      let v : ManyValid n p h.j l m t = many_of h.j b l m t h.right e in
      record { i = h.i; left = h.left; right = v.first; room = omega (arith, v.lengths, h.room) }

  pub join_rest : (a b : Track) (l : Run) (m : Middle) (t : Run) → JoinFits n p a b → b ≡ Many l m t → GraftFits n p (push n p a l) m
  join_rest a b l m t h e =
      let v : ManyValid n p h.j l m t = many_of h.j b l m t h.right e in
      record {
        i = h.i + l.len;
        j = v.size;
        left = push_valid n p h.i a l h.left v.first;
        right = v.middle;
        room = omega (arith, v.lengths, h.room);
      }

  pub finish_times : (m : Middle) (t : Run) → FinishFits p m t → MiddlesFit m (shut n p t)
  finish_times m t h = middles_fit p h.i t.len m (shut n p t) h.left (shut_valid n p t h.right).figures h.room

  -- what `sorted` asks
  pub whole_one : (a : Track) (t : Run) → TrackFits n p a → a ≡ One t → FinishFits p start t
  whole_one a t h e =
      let v : RunValid p t × (t.len ≡ h.i) = one_of h.i a t h.valid e in
      record { i = 0; left = start_fits p; right = v.0; room = omega (arith, v.1, h.room) }

  pub whole_shuts : (a : Track) (l : Run) (m : Middle) (t : Run) → TrackFits n p a → a ≡ Many l m t → span_of l.edges < 4294967294
  whole_shuts a l m t h e =
      let v : ManyValid n p h.i l m t = many_of h.i a l m t h.valid e in
      span_fits p l v.first (omega (arith, v.lengths, h.room))

  pub whole_times : (a : Track) (l : Run) (m : Middle) (t : Run) → TrackFits n p a → a ≡ Many l m t → MiddlesFit start (shut n p l)
  whole_times a l m t h e =
      let v : ManyValid n p h.i l m t = many_of h.i a l m t h.valid e in
      middles_fit p 0 l.len start (shut n p l) (start_fits p) (shut_valid n p l v.first).figures (omega (arith, v.lengths, h.room))

  pub begun_fits : (l : Run) → RunValid p l → MiddleFits p (0 + l.len) (times start (shut n p l))
  begun_fits l v = times_fits p 0 l.len start (shut n p l) (start_fits p) (shut_valid n p l v).figures

  pub whole_times_2 : (a : Track) (l : Run) (m : Middle) (t : Run) → TrackFits n p a → a ≡ Many l m t → MiddlesFit (times start (shut n p l)) m
  whole_times_2 a l m t h e =
      let v : ManyValid n p h.i l m t = many_of h.i a l m t h.valid e in
      middles_fit p (0 + l.len) v.size (times start (shut n p l)) m (begun_fits l v.first) v.middle.figures (omega (arith, v.lengths, h.room))

  pub whole_many : (a : Track) (l : Run) (m : Middle) (t : Run) → TrackFits n p a → a ≡ Many l m t → FinishFits p (times (times start (shut n p l)) m) t
  whole_many a l m t h e =
      let v : ManyValid n p h.i l m t = many_of h.i a l m t h.valid e in
      record {
        i = 0 + l.len + v.size;
        left = times_fits p (0 + l.len) v.size (times start (shut n p l)) m (begun_fits l v.first) v.middle.figures;
        right = v.last;
        room = omega (arith, v.lengths, h.room);
      }
