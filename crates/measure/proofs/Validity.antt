-- The interval of sound frames meets every rule of an interval record, so that what is written is read back as the values of the definition.
-- Each rule is shown of the list of frames by induction on it.
-- Assumes nothing.
use mathlib.Core.Path.{◌≡◌, refl, ap, subst}
use mathlib.Core.Bool.{Bool, true, false, cond, ◌&&◌, ◌||◌, not}
use mathlib.Core.List.{List, [], ◌∷◌}
use Prim.Native.Nat.{ℕ, zero, suc, ◌+◌, ◌-◌, ◌*◌, ◌≤◌, ◌<◌, min, max}
use native.Mathlib.Nat.{mul-suc}
use native.Mathlib.Decide.{dec_lt}
use native.Mathlib.Omega.{arith}
use lib.ListN.{length}
use lib.Dec.{leb, ltb, eqb}
use borrow.Author.Tests.{lt-ltb, le-ltb, le-leb, leb-false, ltb-false, eq-eqb, ne_eqb}
use Rattle.std.specs.Prelude.{Option, Some, None, Result, Ok}
use Rattle.numbers.specs.Limits.{intervals, frames, largest_delay}
use Rattle.numbers.specs.Many.{count_of, record_at, read_each}
use Rattle.numbers.specs.Room.{has_room}
use Rattle.numbers.specs.declared.refusal.Fault.{Fault}
use Rattle.numbers.specs.declared.refusal.Refusal.{Refusal}
use Rattle.settings.specs.Settings.{settings_of}
use Rattle.settings.specs.declared.Settings.{Settings}
use Rattle.frames.specs.Frame.{frame_of}
use Rattle.frames.specs.declared.Frame.{Frame}
use Rattle.intervals.specs.Interval.{interval_of, interval_bytes, count_rules, counts_meet, no_delay_rules, delay_rules, delays_meet}
use Rattle.intervals.specs.declared.Interval.{Interval}
use Rattle.settings.specs.declared.LabelSettings.{LabelSettings}
use Rattle.intervals.proofs.RoundTrip.{read_write}
use Rattle.measure.specs.Measured.{count_if, pairs_if, is_lost, is_late, is_pair, is_jumpy, apart, delays_of, sum_of, least_of, most_of, measured}
use Rattle.measure.specs.Outcome.{Frames, sound, faulty, with, unless, frames_in, reads_from, length_of, judged_of, refuse_if, judged_frames, judged_count, judged_settings, judged}
use Rattle.frames.proofs.FrameRecord.{frame_valid}
use Rattle.measure.proofs.Tallies.{lost_or_delivered}

-- counts

late_few : (dl : ℕ) (fs : List Frame) → count_if (is_late dl) fs ≤ length (delays_of fs)
unfolding count_if is_late delays_of
late_few dl [] = omega arith
late_few dl (f ∷ fs) = by f.lost (ltb dl f.delay) (late_few dl fs)
  where
    by : (lost late : Bool) {k : ℕ} → k ≤ length (delays_of fs) → cond (not lost && late) 1 0 + k ≤ length (cond lost (delays_of fs) (f.delay ∷ delays_of fs))
    by true late h = omega arith
    by false true h = omega arith
    by false false h = omega arith

jumpy_few : (jt : ℕ) (fs : List Frame) → pairs_if (is_jumpy jt) fs ≤ pairs_if is_pair fs
unfolding pairs_if is_jumpy
jumpy_few jt [] = omega arith
jumpy_few jt (f ∷ []) = omega arith
jumpy_few jt (f ∷ g ∷ fs) = by (is_pair f g) (ltb jt (apart f.delay g.delay)) (jumpy_few jt (g ∷ fs))
  where
    by : (pair jump : Bool) {j k : ℕ} → j ≤ k → cond (pair && jump) 1 0 + j ≤ cond pair 1 0 + k
    by true true h = omega arith
    by true false h = omega arith
    by false jump h = omega arith

-- a pair takes two that are delivered
pairs_few : (fs : List Frame) → pairs_if is_pair fs ≤ length (delays_of fs) - 1
unfolding pairs_if is_pair delays_of
pairs_few [] = omega arith
pairs_few (f ∷ []) = omega arith
pairs_few (f ∷ g ∷ fs) = by f.lost g.lost (pairs_few (g ∷ fs))
  where
    by :
        (a b : Bool) {k : ℕ} →
        k ≤ length (cond b (delays_of fs) (g.delay ∷ delays_of fs)) - 1 →
        cond (not a && not b) 1 0 + k
        ≤ length (cond a (cond b (delays_of fs) (g.delay ∷ delays_of fs)) (f.delay ∷ cond b (delays_of fs) (g.delay ∷ delays_of fs))) - 1
    by true b h = omega arith
    by false true h = omega arith
    by false false h = omega arith

-- delays: from the least to the most

pub AllDelays : (ℕ → Type 0) → List Frame → Type 0
AllDelays P [] = Unit {0}
AllDelays P (f ∷ fs) = P f.delay × AllDelays P fs

AtLeast : ℕ → List ℕ → Type 0
AtLeast x [] = Unit {0}
AtLeast x (d ∷ ds) = (x ≤ d) × AtLeast x ds

AtMost : ℕ → List ℕ → Type 0
AtMost x [] = Unit {0}
AtMost x (d ∷ ds) = (d ≤ x) × AtMost x ds

lower : (x y : ℕ) (ds : List ℕ) → x ≤ y → AtLeast y ds → AtLeast x ds
unfolding AtLeast
lower x y [] h a = tt
lower x y (d ∷ ds) h a = (omega (arith, a.0), lower x y ds h a.1)

higher : (x y : ℕ) (ds : List ℕ) → x ≤ y → AtMost x ds → AtMost y ds
unfolding AtMost
higher x y [] h a = tt
higher x y (d ∷ ds) h a = (omega (arith, a.0), higher x y ds h a.1)

least_below : (ds : List ℕ) → AtLeast (least_of ds) ds
unfolding AtLeast least_of
least_below [] = tt
least_below (d ∷ []) = (omega arith, tt)
least_below (d ∷ e ∷ ds) = (omega arith, lower (min d (least_of (e ∷ ds))) (least_of (e ∷ ds)) (e ∷ ds) (omega arith) (least_below (e ∷ ds)))

most_above : (ds : List ℕ) → AtMost (most_of ds) ds
unfolding AtMost most_of
most_above [] = tt
most_above (d ∷ ds) = (omega arith, higher (most_of ds) (max d (most_of ds)) ds (omega arith) (most_above ds))

sum_low : (x : ℕ) (ds : List ℕ) → AtLeast x ds → x * length ds ≤ sum_of ds
unfolding AtLeast sum_of
sum_low x [] a = omega arith
sum_low x (d ∷ ds) a = rw mul-suc (omega (arith, sum_low x ds a.1, a.0))

sum_high : (x : ℕ) (ds : List ℕ) → AtMost x ds → sum_of ds ≤ x * length ds
unfolding AtMost sum_of
sum_high x [] a = omega arith
sum_high x (d ∷ ds) a = rw mul-suc (omega (arith, sum_high x ds a.1, a.0))

least_most : (ds : List ℕ) → least_of ds ≤ most_of ds
unfolding least_of most_of
least_most [] = omega arith
least_most (d ∷ []) = omega arith
least_most (d ∷ e ∷ ds) = omega (arith, least_most (e ∷ ds))

most_small : (x : ℕ) (fs : List Frame) → AllDelays (λ d. d ≤ x) fs → most_of (delays_of fs) ≤ x
unfolding AllDelays most_of delays_of
most_small x [] a = omega arith
most_small x (f ∷ fs) a = by f.lost (most_small x fs a.1) a.0
  where
    by : (lost : Bool) → most_of (delays_of fs) ≤ x → f.delay ≤ x → most_of (cond lost (delays_of fs) (f.delay ∷ delays_of fs)) ≤ x
    by true h k = h
    by false h k = omega arith

-- the rules

few_or_none : (q d : ℕ) → q ≤ d - 1 → ltb q d || (eqb d 0 && eqb q 0) ≡ true
few_or_none q d h =
    elim (dec_lt q d) [
      | yes few ↦ rw (lt-ltb q d few)
      | no many ↦ rw (le-ltb q d (omega arith), eq-eqb d 0 (omega arith), eq-eqb q 0 (omega arith))
    ]

delays_meet_lem :
    (ds : List ℕ) →
    most_of ds ≤ largest_delay →
    cond (eqb (length ds) 0) (eqb (sum_of ds) 0 && eqb (least_of ds) 0 && eqb (most_of ds) 0)
    (leb (least_of ds) (most_of ds) && leb (most_of ds) largest_delay && leb (least_of ds * length ds) (sum_of ds) && leb (sum_of ds) (most_of ds * length ds))
    ≡ true
unfolding sum_of least_of most_of
delays_meet_lem [] h = refl
delays_meet_lem (d ∷ ds) h =
    let all = d ∷ ds in
    rw (ne_eqb (length all) 0 (λ e. omega arith), le-leb (least_of all) (most_of all) (least_most all), le-leb (most_of all) largest_delay h, le-leb (least_of all * length all) (sum_of all) (sum_low (least_of all) all (least_below all)), le-leb (sum_of all) (most_of all * length all) (sum_high (most_of all) all (most_above all)))

module _ (l : LabelSettings) (number : ℕ) (maintenance : Bool) (fs : List Frame) (known : number < intervals) (few : length fs ≤ frames) (small : AllDelays (λ d. d ≤ largest_delay) fs) where
  delivered_is : length fs - count_if is_lost fs ≡ length (delays_of fs)
  delivered_is = let e = lost_or_delivered fs in omega arith

  pub measured_counts : counts_meet (measured l number maintenance fs) ≡ true
  unfolding counts_meet count_rules measured
  measured_counts =
      let e = lost_or_delivered fs in
      rw (lt-ltb number intervals known, le-leb (length fs) frames few, le-leb (count_if is_lost fs) (length fs) (omega arith), delivered_is, le-leb (count_if (is_late l.dl) fs) (length (delays_of fs)) (late_few l.dl fs), le-leb (pairs_if (is_jumpy l.jt) fs) (pairs_if is_pair fs) (jumpy_few l.jt fs))
      (few_or_none (pairs_if is_pair fs) (length (delays_of fs)) (pairs_few fs))

  pub measured_delays : delays_meet (measured l number maintenance fs) ≡ true
  unfolding delays_meet no_delay_rules delay_rules measured
  measured_delays = rw delivered_is (delays_meet_lem (delays_of fs) (most_small largest_delay fs small))

  pub measured_reads_back : interval_of (interval_bytes (measured l number maintenance fs)) ≡ Some (measured l number maintenance fs)
  measured_reads_back = read_write (measured l number maintenance fs) measured_counts measured_delays

-- frames that are sound are as many as were read, and no delay of theirs is too large

Sound : ℕ → List Frame → Type 0
Sound n fs = (length fs ≡ n) × AllDelays (λ d. d ≤ largest_delay) fs

guarded : (b : Bool) (r : Refusal) (rest : Frames) (fs : List Frame) → unless b r rest ≡ sound fs → rest ≡ sound fs
guarded true r rest fs e = e
guarded false r rest fs e = absurd cc

one_more :
    (f : Frame) (n : ℕ) (rest : Frames) (fs : List Frame) →
    f.delay ≤ largest_delay → ((gs : List Frame) → rest ≡ sound gs → Sound n gs) → with f rest ≡ sound fs → Sound (suc n) fs
unfolding Sound AllDelays
one_more f n (sound gs) fs h more e =
    let q : f ∷ gs ≡ fs = cc in
    subst (λ l. Sound (suc n) l) q (ap suc (more gs refl).0, (h, (more gs refl).1))
one_more f n (faulty r) fs h more e = absurd cc

sound_frames :
    (from to n place earliest k : ℕ) (s : List ℕ) (fs : List Frame) → frames_in from to place earliest (reads_from n s k) ≡ sound fs → Sound n fs
unfolding frames_in read_each Sound AllDelays
sound_frames from to zero place earliest k s fs e = let q : [] ≡ fs = cc in subst (λ l. Sound 0 l) q (refl, tt)
sound_frames from to (suc n) place earliest k s fs e =
    by (frame_of (record_at s 16 k)) refl e (λ time gs. sound_frames from to n (suc place) time (suc k) s gs)
  where
    by :
        (r : Option Frame) →
        frame_of (record_at s 16 k) ≡ r →
        frames_in from to place earliest (r ∷ reads_from n s (suc k)) ≡ sound fs →
        ((time : ℕ) (gs : List Frame) → frames_in from to (suc place) time (reads_from n s (suc k)) ≡ sound gs → Sound n gs) →
        Sound (suc n) fs
    by None read h more = absurd cc
    by (Some f) read h more =
        one_more f n (frames_in from to (suc place) (f.time + 1) (reads_from n s (suc k))) fs (frame_valid (record_at s 16 k) f read).delay_fact (more (f.time + 1))
        (guarded (leb earliest f.time) _ _ fs (guarded (leb from f.time && ltb f.time to) _ _ fs h))

-- so what the operation writes is read back as the interval that it writes

ReadsBack : Interval → Type 0
ReadsBack i = interval_of (interval_bytes i) ≡ Some i

passed : (b : Bool) (f : Fault) (j : Result Interval Refusal) (i : Interval) → refuse_if b f j ≡ Ok i → (b ≡ false) × (j ≡ Ok i)
passed true f j i e = absurd cc
passed false f j i e = (refl, e)

frames_read_back :
    (l : LabelSettings) (number : ℕ) (flag : Bool) (n : ℕ) (s : List ℕ) (i : Interval) (fs : Frames) (from to : ℕ) →
    number < intervals → n ≤ frames → frames_in from to 0 0 (reads_from n s 0) ≡ fs → judged_of l number flag fs ≡ Ok i → ReadsBack i
unfolding ReadsBack Sound
frames_read_back l number flag n s i (sound fs) from to known few read e =
    let q : measured l number flag fs ≡ i = cc in
    let f = sound_frames from to n 0 0 0 s fs read in
    subst (λ v. ReadsBack v) q (measured_reads_back l number flag fs known (omega (arith, f.0)) f.1)
frames_read_back l number flag n s i (faulty r) from to known few read e = absurd cc

judged_frames_read_back : (l : LabelSettings) (n number maintenance : ℕ) (s : List ℕ) (i : Interval) → judged_frames l n number maintenance s ≡ Ok i → ReadsBack i
unfolding judged_frames
judged_frames_read_back l n number maintenance s i e =
    let a = passed (ltb frames n) Fault.Full _ i e in
    let b = passed (leb intervals number) Fault.Field _ i a.1 in
    let c = passed (ltb 1 maintenance) Fault.Field _ i b.1 in
    frames_read_back l number (eqb maintenance 1) n s i _ (number * length_of l) ((number + 1) * length_of l) (leb-false intervals number b.0) (ltb-false frames n a.0) refl c.1

pub interval_reads_back :
    (settings s : List ℕ) (number maintenance len at : ℕ) (i : Interval) →
    judged settings s number maintenance len at ≡ Ok i → interval_of (interval_bytes i) ≡ Some i
unfolding judged ReadsBack
interval_reads_back settings s number maintenance len at i e = by_settings (settings_of settings) e
  where
    by_count : (v : Settings) (n : Option ℕ) (room : Bool) → judged_count v.label n room number maintenance s ≡ Ok i → ReadsBack i
    by_count v None room h = absurd cc
    by_count v (Some n) false h = absurd cc
    by_count v (Some n) true h = judged_frames_read_back v.label n number maintenance s i h

    by_settings : (r : Option Settings) → judged_settings r (has_room len at 48) number maintenance s ≡ Ok i → ReadsBack i
    by_settings None h = absurd cc
    by_settings (Some v) h = by_count v (count_of (length s) 16) (has_room len at 48) h
