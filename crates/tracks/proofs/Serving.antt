-- What a track counts: a join counts what both parts do, a made track counts the intervals that are not in maintenance, and a track that
-- meets the rules counts no more than it has.
use mathlib.Core.Path.{◌≡◌, refl, sym, ap, ◌∙◌}
use mathlib.Core.Bool.{Bool, true, false, cond}
use mathlib.Core.List.{List, [], ◌∷◌}
use Prim.Native.Nat.{ℕ, suc, ◌+◌, ◌≤◌}
use native.Mathlib.Omega.{arith}
use native.Mathlib.Nat.{add-zero, zero-add}
use Rattle.runs.specs.declared.figures.Figures.{Figures}
use Rattle.tallies.specs.declared.Marked.{Marked}
use Rattle.runs.specs.declared.run.Run.{Run}
use Rattle.runs.specs.declared.middles.Label.{Label}
use Rattle.runs.specs.declared.middles.Label.TheVariants.{Inherits, Says}
use Rattle.runs.specs.declared.middles.Middle.{Middle}
use Rattle.runs.specs.Figures.{idle, both, none, plus}
use Rattle.runs.specs.Runs.{gross, load_of, single, glue, same, figures_of, quiet_run}
use Rattle.runs.specs.Middles.{unit, placed, verdict, shut, times_by, times, quiet_middle}
use Rattle.tracks.specs.declared.Track.{Track}
use Rattle.tracks.specs.declared.Track.TheVariants.{Nothing, One, Many}
use Rattle.tracks.specs.Tracks.{push, graft, join, push_all, summary, quiet, count_between, count_in}
use Rattle.tallies.specs.Tally.{serving}
use Rattle.tracks.specs.Valid.{TrackValid}
use Rattle.tracks.proofs.Joining.{Holds, push_holds}

count_placed : (v : Label) (f : Figures) → count_between (placed v f) ≡ f.load.count
unfolding count_between placed none idle
count_placed Inherits f = omega arith
count_placed (Says true) f = omega arith
count_placed (Says false) f = omega arith

pub count_shut : (n p : ℕ) (r : Run) → count_between (shut n p r) ≡ r.load.count
unfolding shut figures_of
count_shut n p r = count_placed (verdict n r) (figures_of p r)

count_times_by : (l : Label) (a b : Middle) → count_between (times_by l a b) ≡ count_between a + count_between b
unfolding count_between times_by plus both
count_times_by Inherits a b = omega arith
count_times_by (Says true) a b = omega arith
count_times_by (Says false) a b = omega arith

pub count_times : (a b : Middle) → count_between (times a b) ≡ count_between a + count_between b
unfolding times
count_times a b = count_times_by a.label a b

count_glue : (p : ℕ) (a b : Run) → (glue p a b).load.count ≡ a.load.count + b.load.count
unfolding glue both
count_glue p a b = refl

count_unit : count_between unit ≡ 0
unfolding count_between unit none idle
count_unit = refl

count_quiet : (x : Marked) → x.maintenance ≡ true → (single x).load.count ≡ 0
unfolding single load_of idle
count_quiet x e = rw e

count_one : (x : Marked) → x.maintenance ≡ false → (single x).load.count ≡ 1
unfolding single load_of gross
count_one x e = rw e

module _ (n p : ℕ) where
  count_push : (a : Track) (r : Run) → count_in (push n p a r) ≡ count_in a + r.load.count
  unfolding count_in push
  count_push Nothing r = omega arith
  count_push (One t) r = by (same t r) refl
    where
      by : (b : Bool) → same t r ≡ b → count_in (push n p (One t) r) ≡ t.load.count + r.load.count
      by true e = rw e (count_glue p t r)
      by false e = rw (e, count_unit) (omega arith)
  count_push (Many l m t) r = by (same t r) refl
    where
      by : (b : Bool) → same t r ≡ b → count_in (push n p (Many l m t) r) ≡ l.load.count + (count_between m + t.load.count) + r.load.count
      by true e = rw (e, count_glue p t r) (omega arith)
      by false e = rw (e, count_times, count_shut) (omega arith)

  count_graft : (a : Track) → Holds a → (m : Middle) (t : Run) → count_in (graft n p a m t) ≡ count_in a + (count_between m + t.load.count)
  unfolding count_in graft
  count_graft Nothing h m t = absurd h
  count_graft (One l) h m t = refl
  count_graft (Many l k s) h m t = rw (count_times k (times (shut n p s) m), count_times (shut n p s) m, count_shut) (omega arith)

  -- a join counts what both parts do
  pub count_join : (a b : Track) → count_in (join n p a b) ≡ count_in a + count_in b
  unfolding join count_in
  count_join a Nothing = sym (add-zero (count_in a))
  count_join a (One r) = count_push a r
  count_join a (Many l m t) = omega (arith, count_graft (push n p a l) (push_holds n p a l) m t, count_push a l)

  count_push_all : (a : Track) (xs : List Marked) → count_in (push_all n p a xs) ≡ count_in a + serving xs
  unfolding push_all serving
  count_push_all a [] = sym (add-zero (count_in a))
  count_push_all a (x ∷ xs) = by x.maintenance refl (count_push_all (push n p a (single x)) xs) (count_push a (single x))
    where
      by : (m : Bool) → x.maintenance ≡ m → count_in (push_all n p (push n p a (single x)) xs) ≡ count_in (push n p a (single x)) + serving xs
          → count_in (push n p a (single x)) ≡ count_in a + (single x).load.count
          → count_in (push_all n p (push n p a (single x)) xs) ≡ count_in a + cond x.maintenance (serving xs) (suc (serving xs))
      by true e f g = omega (arith, ap (λ b. cond b (serving xs) (suc (serving xs))) e, count_quiet x e)
      by false e f g = omega (arith, ap (λ b. cond b (serving xs) (suc (serving xs))) e, count_one x e)

  -- a made track counts the intervals that are not in maintenance
  pub count_summary : (xs : List Marked) → count_in (summary n p xs) ≡ serving xs
  unfolding summary count_in
  count_summary xs = count_push_all Nothing xs ∙ zero-add (serving xs)

  -- a track that meets the rules counts no more than it has
  pub count_valid : (i : ℕ) (a : Track) → TrackValid n p i a → count_in a ≤ i
  unfolding TrackValid count_in count_between
  count_valid i Nothing v = omega arith
  count_valid i (One r) v = omega (arith, v.0.counted, v.1)
  count_valid i (Many l m t) v = omega (arith, v.first.counted, v.middle.figures.counted, v.last.counted, v.lengths)

-- in maintenance as a whole, it counts none
pub count_none : (a : Track) → count_in (quiet a) ≡ 0
unfolding count_in count_between quiet quiet_run quiet_middle none idle
count_none Nothing = refl
count_none (One r) = refl
count_none (Many l m t) = refl
