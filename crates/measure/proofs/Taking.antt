-- What one frame record does to the frames that are taken, as a loop over them at k uses it; and a tally of frames within the limits stays small.
-- Assumes nothing.
use mathlib.Core.Path.{◌≡◌, refl}
use mathlib.Core.Bool.{Bool, true, false, cond, ◌&&◌, not}
use mathlib.Core.List.{List}
use Prim.Native.Nat.{ℕ, suc, ◌+◌, ◌-◌, ◌≤◌, ◌<◌}
use native.Mathlib.Omega.{arith}
use lib.Dec.{ltb}
use borrow.Author.Tests.{lt-ltb, le-ltb, le-leb, lt-leb}
use Rattle.std.specs.Prelude.{Some, None, Ok, Err}
use Rattle.numbers.specs.Limits.{largest_delay}
use Rattle.numbers.specs.Many.{record_at}
use Rattle.numbers.specs.Refusals.{refusal}
use Rattle.numbers.specs.declared.refusal.Fault.{Fault}
use Rattle.numbers.proofs.Parts.{each_next, each_done}
use Rattle.frames.specs.Frame.{frame_of}
use Rattle.frames.specs.declared.Frame.{Frame}
use Rattle.measure.specs.Measured.{apart}
use Rattle.measure.specs.Outcome.{Frames, sound, faulty, with, frames_in, reads_from}
use Rattle.measure.specs.Running.{nothing, added, added_all, taken_of, Small}
use Rattle.measure.specs.declared.Tally.{Tally}

-- a small tally stays small

at_most : (b : Bool) (x : ℕ) → cond b x 0 ≤ x
at_most true x = omega arith
at_most false x = omega arith

pub small_nothing : Small nothing
small_nothing =
    record { lost_few = omega arith; late_few = omega arith; pairs_few = omega arith; jumpy_few = omega arith; sum_small = omega arith }

pub small_more : (dl jt : ℕ) (t : Tally) (f : Frame) → Small t → f.delay ≤ largest_delay → Small (added dl jt t f)
unfolding added largest_delay
small_more dl jt t f s h =
    let got = not f.lost in
    let pair = t.delivered && got in
    record {
      lost_few = omega (arith, s.lost_few, at_most f.lost 1);
      late_few = omega (arith, s.late_few, at_most (got && ltb dl f.delay) 1);
      pairs_few = omega (arith, s.pairs_few, at_most pair 1);
      jumpy_few = omega (arith, s.jumpy_few, at_most (pair && ltb jt (apart t.delay f.delay)) 1);
      sum_small = omega (arith, s.sum_small, at_most got f.delay);
    }

pub sent_more : (dl jt : ℕ) (t : Tally) (f : Frame) → (added dl jt t f).sent ≡ t.sent + 1
unfolding added
sent_more dl jt t f = refl

with_taken : (dl jt : ℕ) (t : Tally) (f : Frame) (rest : Frames) → taken_of dl jt t (with f rest) ≡ taken_of dl jt (added dl jt t f) rest
unfolding added_all
with_taken dl jt t f (sound fs) = refl
with_taken dl jt t f (faulty r) = refl

module _ (dl jt from to n k earliest : ℕ) (s : List ℕ) (t : Tally) where
  pub take_done : n ≤ k → taken_of dl jt t (frames_in from to k earliest (reads_from (n - k) s k)) ≡ Ok t
  unfolding frames_in added_all
  take_done h = rw (each_done frame_of 16 s n k h)

  pub take_invalid :
      k < n → frame_of (record_at s 16 k) ≡ None →
      taken_of dl jt t (frames_in from to k earliest (reads_from (n - k) s k)) ≡ Err (refusal Fault.Field k)
  unfolding frames_in
  take_invalid h e = rw (each_next frame_of 16 s n k h, e)

  module _ (f : Frame) (h : k < n) (e : frame_of (record_at s 16 k) ≡ Some f) where
    pub take_early : f.time < from → taken_of dl jt t (frames_in from to k earliest (reads_from (n - k) s k)) ≡ Err (refusal Fault.Outside k)
    unfolding frames_in
    take_early early = rw (each_next frame_of 16 s n k h, e, lt-leb from f.time early)

    pub take_beyond :
        from ≤ f.time → to ≤ f.time → taken_of dl jt t (frames_in from to k earliest (reads_from (n - k) s k)) ≡ Err (refusal Fault.Outside k)
    unfolding frames_in
    take_beyond low beyond = rw (each_next frame_of 16 s n k h, e, le-leb from f.time low, le-ltb f.time to beyond)

    pub take_disordered :
        from ≤ f.time → f.time < to → f.time < earliest → taken_of dl jt t (frames_in from to k earliest (reads_from (n - k) s k)) ≡ Err (refusal Fault.Order k)
    unfolding frames_in
    take_disordered low high late =
        rw (each_next frame_of 16 s n k h, e, le-leb from f.time low, lt-ltb f.time to high, lt-leb earliest f.time late)

    pub take_next :
        from ≤ f.time → f.time < to → earliest ≤ f.time →
        taken_of dl jt t (frames_in from to k earliest (reads_from (n - k) s k))
        ≡ taken_of dl jt (added dl jt t f) (frames_in from to (k + 1) (f.time + 1) (reads_from (n - (k + 1)) s (k + 1)))
    unfolding frames_in
    take_next low high ordered =
        let g : k + 1 ≡ suc k = omega arith in
        rw (each_next frame_of 16 s n k h, e, le-leb from f.time low, lt-ltb f.time to high, le-leb earliest f.time ordered, g)
        (with_taken dl jt t f (frames_in from to (suc k) (f.time + 1) (reads_from (n - suc k) s (suc k))))

-- the loop as it begins, and each way out of it
pub ruleset take_ends = (small_nothing, take_done, take_invalid, take_early, take_beyond, take_disordered)
