-- A tally that takes one frame after the other. Its law (proofs/Tallies.antt): after frames fs it holds what `measured` says of fs.
use Rattle.std.specs.Prelude.{ℕ, ◌+◌, ◌*◌, ◌≤◌, min, max, Bool, false, ◌&&◌, not, cond, List, [], ◌∷◌, eqb, ltb, Result, Ok, Err}
use Rattle.numbers.specs.Limits.{largest_delay}
use Rattle.frames.specs.declared.Frame.{Frame}
use Rattle.intervals.specs.declared.Interval.{Interval}
use Rattle.measure.specs.Measured.{apart}
use Rattle.measure.specs.Outcome.{Frames, sound, faulty}
use Rattle.measure.specs.declared.Tally.{Tally}
use Rattle.numbers.specs.declared.refusal.Refusal.{Refusal}

-- nothing taken yet
abbrev pub nothing : Tally
nothing =
    record { sent = 0; lost = 0; late = 0; pairs = 0; jumpy = 0; sum = 0; least = 0; most = 0; delivered = false; delay = 0 }

-- one frame more
unfoldable pub added : ℕ → ℕ → Tally → Frame → Tally
added dl jt t f =
    let got = not f.lost in
    let pair = t.delivered && got in
    record {
      sent = t.sent + 1;
      lost = t.lost + cond f.lost 1 0;
      late = t.late + cond (got && ltb dl f.delay) 1 0;
      pairs = t.pairs + cond pair 1 0;
      jumpy = t.jumpy + cond (pair && ltb jt (apart t.delay f.delay)) 1 0;
      sum = t.sum + cond got f.delay 0;
      least = cond got (cond (eqb t.sent t.lost) f.delay (min t.least f.delay)) t.least;
      most = cond got (max t.most f.delay) t.most;
      delivered = got;
      delay = f.delay;
    }

-- the interval of what was taken
unfoldable pub finished : ℕ → Bool → Tally → Interval
finished number maintenance t =
    record {
      number = number;
      sent = t.sent;
      lost = t.lost;
      late = t.late;
      pairs = t.pairs;
      jumpy = t.jumpy;
      sum = t.sum;
      least = t.least;
      most = t.most;
      maintenance = maintenance;
    }

-- one frame after the other
unfoldable pub added_all : ℕ → ℕ → Tally → List Frame → Tally
added_all dl jt t [] = t
added_all dl jt t (f ∷ fs) = added_all dl jt (added dl jt t f) fs

-- the tally that goes on from t
abbrev pub taken_of : ℕ → ℕ → Tally → Frames → Result Tally Refusal
taken_of dl jt t (sound fs) = Ok (added_all dl jt t fs)
taken_of dl jt t (faulty r) = Err r

-- what a tally of frames within the limits can hold: no sum outgrows its field
pub record Small (t : Tally) : Type 0 where
  pub lost_few : t.lost ≤ t.sent
  pub late_few : t.late ≤ t.sent
  pub pairs_few : t.pairs ≤ t.sent
  pub jumpy_few : t.jumpy ≤ t.sent
  pub sum_small : t.sum ≤ t.sent * largest_delay
