-- A tally that takes one frame after the other ends in what `measured` says of all of them. After frames xs it is `tally_of xs`, which is shown by what
-- each definition gives of one frame more at the end.
-- Assumes nothing.
use mathlib.Core.Path.{◌≡◌, refl, ap, sym, ◌∙◌}
use mathlib.Core.Bool.{Bool, true, false, cond, ◌&&◌, not}
use mathlib.Core.List.{List, [], ◌∷◌, ◌++◌, append_assoc, append-nil}
use Prim.Native.Nat.{ℕ, suc, ◌+◌, min, max}
use native.Mathlib.Omega.{arith}
use lib.ListN.{length, length-append}
use lib.Dec.{eqb, ltb}
use borrow.Author.Tests.{eq-eqb, ne_eqb}
use Rattle.settings.specs.declared.LabelSettings.{LabelSettings}
use Rattle.frames.specs.declared.Frame.{Frame}
use Rattle.measure.specs.Measured.{count_if, pairs_if, is_lost, is_late, is_pair, is_jumpy, apart, delays_of, sum_of, least_of, most_of, measured}
use Rattle.measure.specs.Running.{nothing, added, added_all, finished}
use Rattle.measure.specs.declared.Tally.{Tally}

-- the last frame

last_delivered : List Frame → Bool
last_delivered [] = false
last_delivered (f ∷ []) = not f.lost
last_delivered (f ∷ g ∷ fs) = last_delivered (g ∷ fs)

last_delay : List Frame → ℕ
last_delay [] = 0
last_delay (f ∷ []) = f.delay
last_delay (f ∷ g ∷ fs) = last_delay (g ∷ fs)

-- what the last frame and a new one add to the pairs
with_last : (Frame → Frame → Bool) → List Frame → Frame → ℕ
with_last have [] f = 0
with_last have (g ∷ []) f = cond (have g f) 1 0
with_last have (g ∷ h ∷ fs) f = with_last have (h ∷ fs) f

-- one frame more at the end

count_more : (has : Frame → Bool) (fs : List Frame) (f : Frame) → count_if has (fs ++ (f ∷ [])) ≡ count_if has fs + cond (has f) 1 0
unfolding count_if
count_more has [] f = omega arith
count_more has (g ∷ fs) f = let e = count_more has fs f in omega arith

pairs_more : (have : Frame → Frame → Bool) (fs : List Frame) (f : Frame) → pairs_if have (fs ++ (f ∷ [])) ≡ pairs_if have fs + with_last have fs f
unfolding pairs_if with_last
pairs_more have [] f = refl
pairs_more have (g ∷ []) f = omega arith
pairs_more have (g ∷ h ∷ fs) f = let e = pairs_more have (h ∷ fs) f in omega arith

pair_with_last : (fs : List Frame) (f : Frame) → with_last is_pair fs f ≡ cond (last_delivered fs && not f.lost) 1 0
unfolding with_last is_pair last_delivered
pair_with_last [] f = refl
pair_with_last (g ∷ []) f = refl
pair_with_last (g ∷ h ∷ fs) f = pair_with_last (h ∷ fs) f

jump_with_last :
    (jt : ℕ) (fs : List Frame) (f : Frame) →
    with_last (is_jumpy jt) fs f ≡ cond ((last_delivered fs && not f.lost) && ltb jt (apart (last_delay fs) f.delay)) 1 0
unfolding with_last is_jumpy is_pair last_delivered last_delay
jump_with_last jt [] f = refl
jump_with_last jt (g ∷ []) f = refl
jump_with_last jt (g ∷ h ∷ fs) f = jump_with_last jt (h ∷ fs) f

last_delivered_lem : (fs : List Frame) (f : Frame) → last_delivered (fs ++ (f ∷ [])) ≡ not f.lost
unfolding last_delivered
last_delivered_lem [] f = refl
last_delivered_lem (g ∷ []) f = refl
last_delivered_lem (g ∷ h ∷ fs) f = last_delivered_lem (h ∷ fs) f

last_delay_lem : (fs : List Frame) (f : Frame) → last_delay (fs ++ (f ∷ [])) ≡ f.delay
unfolding last_delay
last_delay_lem [] f = refl
last_delay_lem (g ∷ []) f = refl
last_delay_lem (g ∷ h ∷ fs) f = last_delay_lem (h ∷ fs) f

-- the delays of the delivered

sum_more : (ds : List ℕ) (d : ℕ) → sum_of (ds ++ (d ∷ [])) ≡ sum_of ds + d
unfolding sum_of
sum_more [] d = omega arith
sum_more (e ∷ ds) d = let h = sum_more ds d in omega arith

most_more : (ds : List ℕ) (d : ℕ) → most_of (ds ++ (d ∷ [])) ≡ max (most_of ds) d
unfolding most_of
most_more [] d = omega arith
most_more (e ∷ ds) d = let h = most_more ds d in omega arith

is_none : List ℕ → Bool
is_none [] = true
is_none (d ∷ ds) = false

least_more : (ds : List ℕ) (d : ℕ) → least_of (ds ++ (d ∷ [])) ≡ cond (is_none ds) d (min (least_of ds) d)
unfolding least_of is_none
least_more [] d = refl
least_more (e ∷ []) d = refl
least_more (e ∷ g ∷ ds) d = let h = least_more (g ∷ ds) d in omega arith

-- lost and delivered are all frames, so none is delivered when as many are lost as sent

split_lost :
    (ds : List ℕ) (d n k : ℕ) (lost : Bool) → n ≡ k + length ds → suc n ≡ (cond lost 1 0 + k) + length (cond lost ds (d ∷ ds))
split_lost ds d n k true e = omega arith
split_lost ds d n k false e = omega arith

pub lost_or_delivered : (fs : List Frame) → length fs ≡ count_if is_lost fs + length (delays_of fs)
unfolding count_if is_lost delays_of
lost_or_delivered [] = refl
lost_or_delivered (f ∷ fs) = split_lost (delays_of fs) f.delay (length fs) (count_if is_lost fs) f.lost (lost_or_delivered fs)

none_left : (ds : List ℕ) (n k : ℕ) → n ≡ k + length ds → is_none ds ≡ eqb n k
unfolding is_none
none_left [] n k e = sym (eq-eqb n k (omega arith))
none_left (d ∷ ds) n k e = sym (ne_eqb n k (λ same. omega arith))

delays_more : (fs : List Frame) (f : Frame) → delays_of (fs ++ (f ∷ [])) ≡ cond f.lost (delays_of fs) (delays_of fs ++ (f.delay ∷ []))
unfolding delays_of
delays_more [] f = refl
delays_more (g ∷ fs) f = carried g.lost f.lost (delays_more fs f)
  where
    carried :
        (a b : Bool) {r : List ℕ} →
        r ≡ cond b (delays_of fs) (delays_of fs ++ (f.delay ∷ [])) →
        cond a r (g.delay ∷ r) ≡ cond b (cond a (delays_of fs) (g.delay ∷ delays_of fs)) (cond a (delays_of fs) (g.delay ∷ delays_of fs) ++ (f.delay ∷ []))
    carried true true e = e
    carried true false e = e
    carried false true e = ap (λ l. g.delay ∷ l) e
    carried false false e = ap (λ l. g.delay ∷ l) e

-- what a frame that is lost or not does to the sum, the least and the most

module _ (ds : List ℕ) (d : ℕ) where
  sum_with : (lost : Bool) → sum_of (cond lost ds (ds ++ (d ∷ []))) ≡ sum_of ds + cond (not lost) d 0
  sum_with true = omega arith
  sum_with false = sum_more ds d

  least_with : (lost : Bool) → least_of (cond lost ds (ds ++ (d ∷ []))) ≡ cond (not lost) (cond (is_none ds) d (min (least_of ds) d)) (least_of ds)
  least_with true = refl
  least_with false = least_more ds d

  most_with : (lost : Bool) → most_of (cond lost ds (ds ++ (d ∷ []))) ≡ cond (not lost) (max (most_of ds) d) (most_of ds)
  most_with true = refl
  most_with false = most_more ds d

-- the tally of frames, as the definitions give it
pub tally_of : ℕ → ℕ → List Frame → Tally
tally_of dl jt fs =
    record {
      sent = length fs;
      lost = count_if is_lost fs;
      late = count_if (is_late dl) fs;
      pairs = pairs_if is_pair fs;
      jumpy = pairs_if (is_jumpy jt) fs;
      sum = sum_of (delays_of fs);
      least = least_of (delays_of fs);
      most = most_of (delays_of fs);
      delivered = last_delivered fs;
      delay = last_delay fs;
    }

pub tally_more : (dl jt : ℕ) (fs : List Frame) (f : Frame) → added dl jt (tally_of dl jt fs) f ≡ tally_of dl jt (fs ++ (f ∷ []))
unfolding added tally_of is_lost is_late
tally_more dl jt fs f =
    let none : is_none (delays_of fs) ≡ eqb (length fs) (count_if is_lost fs) = none_left (delays_of fs) (length fs) (count_if is_lost fs) (lost_or_delivered fs) in
    λ i.
    record {
      sent = sym (length-append fs (f ∷ [])) i;
      lost = sym (count_more is_lost fs f) i;
      late = sym (count_more (is_late dl) fs f) i;
      pairs = sym (pairs_more is_pair fs f ∙ ap (λ k. pairs_if is_pair fs + k) (pair_with_last fs f)) i;
      jumpy = sym (pairs_more (is_jumpy jt) fs f ∙ ap (λ k. pairs_if (is_jumpy jt) fs + k) (jump_with_last jt fs f)) i;
      sum = sym (ap sum_of (delays_more fs f) ∙ sum_with (delays_of fs) f.delay f.lost) i;
      least =
          sym (ap least_of (delays_more fs f)
          ∙ least_with (delays_of fs) f.delay f.lost
          ∙ ap (λ b. cond (not f.lost) (cond b f.delay (min (least_of (delays_of fs)) f.delay)) (least_of (delays_of fs))) none) i;
      most = sym (ap most_of (delays_more fs f) ∙ most_with (delays_of fs) f.delay f.lost) i;
      delivered = sym (last_delivered_lem fs f) i;
      delay = sym (last_delay_lem fs f) i;
    }

tally_all : (dl jt : ℕ) (done rest : List Frame) → added_all dl jt (tally_of dl jt done) rest ≡ tally_of dl jt (done ++ rest)
unfolding added_all
tally_all dl jt done [] = ap (tally_of dl jt) (sym (append-nil done))
tally_all dl jt done (f ∷ rest) =
    ap (λ t. added_all dl jt t rest) (tally_more dl jt done f)
    ∙ tally_all dl jt (done ++ (f ∷ [])) rest
    ∙ ap (tally_of dl jt) (append_assoc done (f ∷ []) rest)

-- one frame after the other, from nothing, is what the definition measures
pub tally_measured :
    (l : LabelSettings) (number : ℕ) (maintenance : Bool) (fs : List Frame) → finished number maintenance (added_all l.dl l.jt nothing fs) ≡ measured l number maintenance fs
unfolding finished measured tally_of count_if pairs_if delays_of sum_of least_of most_of last_delivered last_delay
tally_measured l number maintenance fs = ap (finished number maintenance) (tally_all l.dl l.jt [] fs)
