-- The join is associative for all tracks, made or not: a run pushed behind a join goes on its right part, and so does a graft. Hence
-- the track of a stretch is the join of its parts' tracks, however it is cut.
use mathlib.Core.Path.{◌≡◌, refl, sym, ap, ◌∙◌}
use mathlib.Core.Bool.{Bool, true, false, cond, and-false}
use mathlib.Core.List.{List, [], ◌∷◌, ◌++◌, map}
use Prim.Native.Nat.{ℕ}
use Rattle.tallies.specs.declared.Marked.{Marked}
use Rattle.runs.specs.declared.run.Run.{Run}
use Rattle.runs.specs.declared.middles.Middle.{Middle}
use Rattle.tracks.specs.declared.Track.{Track}
use Rattle.tracks.specs.declared.Track.TheVariants.{Nothing, One, Many}
use Rattle.runs.specs.Runs.{single, load_of, maintained, glue, same, quiet_run}
use Rattle.runs.specs.Middles.{unit, shut, times, quiet_middle}
use Rattle.tracks.specs.Tracks.{push, graft, join, push_all, summary, quiet}
use Rattle.runs.proofs.Tying.{glue_assoc, same_glue_left, same_glue_right, same_trans, quiet_glue, quiet_same}
use Rattle.runs.proofs.Placing.{times_unit, times_assoc, quiet_shut, quiet_times}

-- the track holds a run
abbrev pub Holds : Track → Type 0
Holds Nothing = ⊥
Holds (One r) = Unit {0}
Holds (Many l m t) = Unit {0}

quiet_unit : quiet_middle unit ≡ unit
unfolding quiet_middle unit
quiet_unit = refl

quiet_single : (x : Marked) → quiet_run (single x) ≡ single (maintained x)
unfolding quiet_run single maintained load_of
quiet_single x = rw and-false

module _ (n p : ℕ) where
  pub push_holds : (a : Track) (r : Run) → Holds (push n p a r)
  unfolding push
  push_holds Nothing r = tt
  push_holds (One t) r = by (same t r)
    where
      by : (b : Bool) → Holds (cond b (One (glue p t r)) (Many t unit r))
      by true = tt
      by false = tt
  push_holds (Many l m t) r = by (same t r)
    where
      by : (b : Bool) → Holds (cond b (Many l m (glue p t r)) (Many l (times m (shut n p t)) r))
      by true = tt
      by false = tt

  -- a run behind several: the first run stays
  pub push_many : (l : Run) (m : Middle) (t r : Run) → push n p (Many l m t) r ≡ Many l (cond (same t r) m (times m (shut n p t))) (cond (same t r) (glue p t r) r)
  unfolding push
  push_many l m t r = by (same t r)
    where
      by : (b : Bool) → cond b (Many l m (glue p t r)) (Many l (times m (shut n p t)) r) ≡ Many l (cond b m (times m (shut n p t))) (cond b (glue p t r) r)
      by true = refl
      by false = refl

  -- a run and one of its mark behind it may be glued first
  pub push_glue : (a : Track) (s r : Run) → same s r ≡ true → push n p (push n p a s) r ≡ push n p a (glue p s r)
  unfolding push
  push_glue Nothing s r e = rw e
  push_glue (One t) s r e = by (same t s) refl
    where
      by : (b : Bool) → same t s ≡ b → push n p (push n p (One t) s) r ≡ push n p (One t) (glue p s r)
      by true f = simp (f, same_glue_left, same_glue_right, same_trans t s r f, e, glue_assoc)
      by false f = simp (f, same_glue_right, e)
  push_glue (Many l m t) s r e = by (same t s) refl
    where
      by : (b : Bool) → same t s ≡ b → push n p (push n p (Many l m t) s) r ≡ push n p (Many l m t) (glue p s r)
      by true f = simp (f, same_glue_left, same_glue_right, same_trans t s r f, e, glue_assoc)
      by false f = simp (f, same_glue_right, e)

  -- a run and one of the other mark behind it: the first is shut
  push_turn : (a : Track) (s r : Run) → same s r ≡ false → push n p (push n p a s) r ≡ graft n p (push n p a s) unit r
  unfolding push graft
  push_turn Nothing s r e = rw e
  push_turn (One t) s r e = by (same t s) refl
    where
      by : (b : Bool) → same t s ≡ b → push n p (push n p (One t) s) r ≡ graft n p (push n p (One t) s) unit r
      by true f = simp (f, same_glue_left, same_trans t s r f, e)
      by false f = simp (f, e, times_unit)
  push_turn (Many l m t) s r e = by (same t s) refl
    where
      by : (b : Bool) → same t s ≡ b → push n p (push n p (Many l m t) s) r ≡ graft n p (push n p (Many l m t) s) unit r
      by true f = simp (f, same_glue_left, same_trans t s r f, e, times_unit)
      by false f = simp (f, e, times_unit)

  graft_glue : (x : Track) → Holds x → (m : Middle) (t r : Run) → same t r ≡ true → push n p (graft n p x m t) r ≡ graft n p x m (glue p t r)
  unfolding push graft
  graft_glue Nothing h m t r e = absurd h
  graft_glue (One l) h m t r e = rw e
  graft_glue (Many l k s) h m t r e = rw e

  graft_turn : (x : Track) → Holds x → (m : Middle) (t r : Run) → same t r ≡ false → push n p (graft n p x m t) r ≡ graft n p x (times m (shut n p t)) r
  unfolding push graft
  graft_turn Nothing h m t r e = absurd h
  graft_turn (One l) h m t r e = rw e
  graft_turn (Many l k s) h m t r e = simp (e, times_assoc)

  graft_graft : (x : Track) → Holds x → (m : Middle) (t : Run) (m' : Middle) (t' : Run)
      → graft n p (graft n p x m t) m' t' ≡ graft n p x (times m (times (shut n p t) m')) t'
  unfolding graft
  graft_graft Nothing h m t m' t' = absurd h
  graft_graft (One l) h m t m' t' = refl
  graft_graft (Many l k s) h m t m' t' = simp times_assoc

  -- a run behind a join goes on its right part
  pub push_join : (a b : Track) (r : Run) → push n p (join n p a b) r ≡ join n p a (push n p b r)
  unfolding join push
  push_join a Nothing r = refl
  push_join a (One s) r = by (same s r) refl
    where
      by : (b : Bool) → same s r ≡ b → push n p (push n p a s) r ≡ join n p a (cond (same s r) (One (glue p s r)) (Many s unit r))
      by true e = rw e (push_glue a s r e)
      by false e = rw e (push_turn a s r e)
  push_join a (Many l m t) r = by (same t r) refl
    where
      by : (b : Bool) → same t r ≡ b
          → push n p (graft n p (push n p a l) m t) r ≡ join n p a (cond (same t r) (Many l m (glue p t r)) (Many l (times m (shut n p t)) r))
      by true e = rw e (graft_glue (push n p a l) (push_holds a l) m t r e)
      by false e = rw e (graft_turn (push n p a l) (push_holds a l) m t r e)

  -- and so does a graft
  graft_join : (a b : Track) → Holds b → (m : Middle) (t : Run) → graft n p (join n p a b) m t ≡ join n p a (graft n p b m t)
  unfolding join graft
  graft_join a Nothing h m t = absurd h
  graft_join a (One s) h m t = refl
  graft_join a (Many l m₀ t₀) h m t = graft_graft (push n p a l) (push_holds a l) m₀ t₀ m t

  pub join_assoc : (a b c : Track) → join n p (join n p a b) c ≡ join n p a (join n p b c)
  unfolding join
  join_assoc a b Nothing = refl
  join_assoc a b (One r) = push_join a b r
  join_assoc a b (Many l m t) = rw (push_join a b l) (graft_join a (push n p b l) (push_holds b l) m t)

  pub join_nothing : (a : Track) → join n p a Nothing ≡ a
  unfolding join
  join_nothing a = refl

  pub nothing_join : (a : Track) → join n p Nothing a ≡ a
  unfolding join push graft
  nothing_join Nothing = refl
  nothing_join (One r) = refl
  nothing_join (Many l m t) = refl

  pub push_all_join : (a b : Track) (xs : List Marked) → push_all n p (join n p a b) xs ≡ join n p a (push_all n p b xs)
  unfolding push_all
  push_all_join a b [] = refl
  push_all_join a b (x ∷ xs) = rw (push_join a b (single x)) (push_all_join a (push n p b (single x)) xs)

  pub push_all_append : (a : Track) (xs ys : List Marked) → push_all n p a (xs ++ ys) ≡ push_all n p (push_all n p a xs) ys
  unfolding push_all
  push_all_append a [] ys = refl
  push_all_append a (x ∷ xs) ys = push_all_append (push n p a (single x)) xs ys

  -- the track of two stretches, one after the other, is the join of theirs
  pub summary_append : (xs ys : List Marked) → summary n p (xs ++ ys) ≡ join n p (summary n p xs) (summary n p ys)
  unfolding summary
  summary_append xs ys = rw push_all_append (ap (λ a. push_all n p a ys) (sym (join_nothing (push_all n p Nothing xs))) ∙ push_all_join (push_all n p Nothing xs) Nothing ys)

  pub quiet_push : (a : Track) (r : Run) → quiet (push n p a r) ≡ push n p (quiet a) (quiet_run r)
  unfolding quiet push
  quiet_push Nothing r = refl
  quiet_push (One t) r = by (same t r) refl
    where
      by : (b : Bool) → same t r ≡ b → quiet (push n p (One t) r) ≡ push n p (One (quiet_run t)) (quiet_run r)
      by true e = simp (quiet_same, e, quiet_glue)
      by false e = simp (quiet_same, e, quiet_unit)
  quiet_push (Many l m t) r = by (same t r) refl
    where
      by : (b : Bool) → same t r ≡ b → quiet (push n p (Many l m t) r) ≡ push n p (Many (quiet_run l) (quiet_middle m) (quiet_run t)) (quiet_run r)
      by true e = simp (quiet_same, e, quiet_glue)
      by false e = simp (quiet_same, e, quiet_times, quiet_shut)

  quiet_graft : (a : Track) (m : Middle) (t : Run) → quiet (graft n p a m t) ≡ graft n p (quiet a) (quiet_middle m) (quiet_run t)
  unfolding quiet graft
  quiet_graft Nothing m t = refl
  quiet_graft (One l) m t = refl
  quiet_graft (Many l k s) m t = simp (quiet_times, quiet_shut)

  -- a join in maintenance is the join of its parts in maintenance
  pub quiet_join : (a b : Track) → quiet (join n p a b) ≡ join n p (quiet a) (quiet b)
  unfolding join quiet
  quiet_join a Nothing = refl
  quiet_join a (One r) = quiet_push a r
  quiet_join a (Many l m t) = quiet_graft (push n p a l) m t ∙ ap (λ x. graft n p x (quiet_middle m) (quiet_run t)) (quiet_push a l)

  quiet_push_all : (a : Track) (xs : List Marked) → quiet (push_all n p a xs) ≡ push_all n p (quiet a) (map maintained xs)
  unfolding push_all
  quiet_push_all a [] = refl
  quiet_push_all a (x ∷ xs) =
      quiet_push_all (push n p a (single x)) xs
      ∙ ap (λ t. push_all n p t (map maintained xs)) (quiet_push a (single x) ∙ ap (push n p (quiet a)) (quiet_single x))

  -- the quieted track of a stretch is that of the same stretch all in maintenance
  pub quiet_summary : (xs : List Marked) → quiet (summary n p xs) ≡ summary n p (map maintained xs)
  unfolding summary quiet
  quiet_summary xs = quiet_push_all Nothing xs
