-- What the whole of a made track reports is the tally by the labels: the figures are read off as 01's counts and sums, the least delay
-- from the headroom. And the report of a period: what lies before and after it is put in maintenance, which changes no label and takes
-- it out of the tally.
use mathlib.Core.Path.{◌≡◌, refl, ap, ◌∙◌}
use mathlib.Core.Bool.{Bool, true, false, cond, and-false}
use mathlib.Core.List.{List, [], ◌∷◌, ◌++◌, map, map-append, append_assoc, append-nil}
use Prim.Native.Nat.{ℕ, suc, ◌+◌, ◌-◌, ◌≤◌, ◌<◌, max}
use native.Mathlib.Omega.{arith}
use native.Mathlib.Nat.{add-zero, zero-add}
use lib.Dec.{ltb}
use lib.ListN.{length, length-map}
use borrow.Author.Tests.{ltb-true, ltb-false}
use Rattle.rule.specs.Labels.{Label, settled, undecided}
use Rattle.numbers.specs.Limits.{largest_delay}
use Rattle.tallies.specs.declared.Marked.{Marked}
use Rattle.runs.specs.Figures.{turned, idle, both, reported}
use Rattle.runs.specs.Runs.{gross, maintained}
use Rattle.runs.specs.Sound.{Sound, AllSound}
use Rattle.tallies.specs.Tally.{counts, those, highs, total, delivering, smallest, greatest, totalled, tally, Labels, marks}
use Rattle.tracks.specs.Tracks.{tallied, whole, summary, join, quiet}
use Rattle.runs.proofs.Headroom.{turned_heard, turned_silent}
use Rattle.tracks.proofs.Joining.{summary_append, quiet_summary}
use Rattle.tracks.proofs.Counting.{NoneOf, number_append, number_none, runs_after, runs_before}
use Rattle.tracks.proofs.Spanning.{loads, figures, those_append, highs_append}
use Rattle.tracks.proofs.Tallying.{reckon, sorted_reckons}

-- the sums are the loads'
count_read : (xs : List Marked) → (loads xs).count ≡ length xs
unfolding loads both idle gross
count_read [] = refl
count_read (x ∷ xs) = omega (arith, count_read xs)

sent_read : (xs : List Marked) → (loads xs).sent ≡ total (λ x. x.sent) xs
unfolding loads both idle gross total
sent_read [] = refl
sent_read (x ∷ xs) = rw (sent_read xs)

lost_read : (xs : List Marked) → (loads xs).lost ≡ total (λ x. x.lost) xs
unfolding loads both idle gross total
lost_read [] = refl
lost_read (x ∷ xs) = rw (lost_read xs)

sum_read : (xs : List Marked) → (loads xs).sum ≡ total (λ x. x.sum) xs
unfolding loads both idle gross total
sum_read [] = refl
sum_read (x ∷ xs) = rw (sum_read xs)

-- the most delay is that of what delivered something
most_read : (xs : List Marked) → AllSound xs → (loads xs).most ≡ greatest (map (λ x. x.most) (delivering xs))
unfolding loads both idle gross greatest delivering AllSound
most_read [] s = refl
most_read (x ∷ xs) s = by (ltb x.lost x.sent) refl (most_read xs s.1)
  where
    by : (b : Bool) → ltb x.lost x.sent ≡ b → (loads xs).most ≡ greatest (map (λ y. y.most) (delivering xs))
        → (loads (x ∷ xs)).most ≡ greatest (map (λ y. y.most) (delivering (x ∷ xs)))
    by true e rest = rw e (ap (max x.most) rest)
    by false e rest =
        let q : x.most ≡ 0 = s.0.silent (omega (arith, s.0.lost_of_sent, ltb-false x.lost x.sent e)) in
        rw e (omega (arith, rest, q))

-- the headroom of what delivered something: none did, or it is that of the least delay
data Heard (xs : List Marked) : Type 0 where
  none_did : delivering xs ≡ [] → (loads xs).sent ≡ (loads xs).lost → (loads xs).headroom ≡ 0 → Heard xs
  some_did : (y : Marked) (ys : List Marked) → delivering xs ≡ y ∷ ys → (loads xs).lost < (loads xs).sent
      → (loads xs).headroom ≡ largest_delay - smallest (map (λ x. x.least) (y ∷ ys)) → smallest (map (λ x. x.least) (y ∷ ys)) ≤ largest_delay → Heard xs

heard_more : (x : Marked) (xs : List Marked) → Sound x → Heard xs → (b : Bool) → ltb x.lost x.sent ≡ b → Heard (x ∷ xs)
unfolding loads both gross delivering smallest
heard_more x xs s (none_did a b c) true e =
    let h : x.lost < x.sent = ltb-true x.lost x.sent e in
    some_did x [] (rw (e, a)) (omega arith) (omega (arith, turned_heard x.sent x.lost x.least h)) (omega (arith, s.ordered, s.within))
heard_more x xs s (none_did a b c) false e =
    let h : x.sent ≡ x.lost = omega (arith, s.lost_of_sent, ltb-false x.lost x.sent e) in
    none_did (rw (e, a)) (omega arith) (omega (arith, turned_silent x.sent x.lost x.least h, s.ordered, s.silent h))
heard_more x xs s (some_did y ys a b c d) true e =
    let h : x.lost < x.sent = ltb-true x.lost x.sent e in
    some_did x (y ∷ ys) (rw (e, a)) (omega arith) (omega (arith, turned_heard x.sent x.lost x.least h, s.ordered, s.within)) (omega (arith, s.ordered, s.within))
heard_more x xs s (some_did y ys a b c d) false e =
    let h : x.sent ≡ x.lost = omega (arith, s.lost_of_sent, ltb-false x.lost x.sent e) in
    some_did y ys (rw (e, a)) (omega arith) (omega (arith, turned_silent x.sent x.lost x.least h, s.ordered, s.silent h)) d

heard : (xs : List Marked) → AllSound xs → Heard xs
unfolding AllSound loads idle delivering
heard [] s = none_did refl refl refl
heard (x ∷ xs) s = heard_more x xs s.0 (heard xs s.1) (ltb x.lost x.sent) refl

least_read : (xs : List Marked) → AllSound xs
    → turned (loads xs).sent (loads xs).lost (loads xs).headroom ≡ smallest (map (λ x. x.least) (delivering xs))
unfolding smallest
least_read xs s = by (heard xs s)
  where
    by : Heard xs → turned (loads xs).sent (loads xs).lost (loads xs).headroom ≡ smallest (map (λ x. x.least) (delivering xs))
    by (none_did a b c) = rw (a, turned_silent (loads xs).sent (loads xs).lost (loads xs).headroom b) c
    by (some_did y ys a b c d) = rw (a, turned_heard (loads xs).sent (loads xs).lost (loads xs).headroom b) (omega arith)

cond_list : {A : Type 0} (P : List A → Type 0) (b : Bool) (x : A) (xs : List A) → P (x ∷ xs) → P xs → P (cond b (x ∷ xs) xs)
cond_list P true x xs p q = p
cond_list P false x xs p q = q

those_sound : (want : Label) (at : ℕ → Label) (k : ℕ) (xs : List Marked) → AllSound xs → AllSound (those want at k xs)
unfolding those AllSound
those_sound want at k [] s = tt
those_sound want at k (x ∷ xs) s = cond_list AllSound (counts want (at k) x) x (those want at (suc k) xs) (s.0, those_sound want at (suc k) xs s.1) (those_sound want at (suc k) xs s.1)

-- figures read off as 01's
reported_read : (p : ℕ) (want : Label) (at : ℕ → Label) (k : ℕ) (xs : List Marked) → AllSound xs → reported (figures p want at k xs) ≡ totalled p want at k xs
unfolding reported figures totalled
reported_read p want at k xs s =
    let t : AllSound (those want at k xs) = those_sound want at k xs s in
    rw (count_read (those want at k xs), least_read (those want at k xs) t, sent_read (those want at k xs), lost_read (those want at k xs), sum_read (those want at k xs), most_read (those want at k xs) t)

tallied_read : (p : ℕ) (at : ℕ → Label) (k : ℕ) (xs : List Marked) → AllSound xs → tallied (reckon p at k xs) ≡ tally p at k xs
unfolding tallied reckon tally figures
tallied_read p at k xs s =
    rw (reported_read p (settled false) at k xs s, reported_read p undecided at k xs s, count_read (those (settled true) at k xs))

-- the whole of a made track is the tally of its intervals by their labels
pub whole_tally : (n p : ℕ) → 1 ≤ n → (xs : List Marked) → AllSound xs → (at : ℕ → Label) → Labels n (marks xs) at → whole n p (summary n p xs) ≡ tally p at 0 xs
unfolding whole
whole_tally n p some xs s at known = ap tallied (sorted_reckons n p some xs at known) ∙ tallied_read p at 0 xs s

-- what is in maintenance is in no tally
those_quiet : (want : Label) (at : ℕ → Label) (k : ℕ) (xs : List Marked) → those want at k (map maintained xs) ≡ []
unfolding those counts maintained
those_quiet want at k [] = refl
those_quiet want at k (x ∷ xs) = rw and-false (those_quiet want at (suc k) xs)

highs_quiet : (want : Label) (at : ℕ → Label) (k : ℕ) (xs : List Marked) → NoneOf (highs want at k (map maintained xs))
unfolding highs counts maintained NoneOf
highs_quiet want at k [] = tt
highs_quiet want at k (x ∷ xs) = (rw and-false, highs_quiet want at (suc k) xs)

-- so it may stand in front of a stretch, or behind it
figures_after : (p : ℕ) (want : Label) (at : ℕ → Label) (k : ℕ) (xs ys : List Marked)
    → figures p want at k (map maintained xs ++ ys) ≡ figures p want at (k + length xs) ys
unfolding figures
figures_after p want at k xs ys =
    let h : NoneOf (highs want at k (map maintained xs)) = highs_quiet want at k xs in
    rw (
      those_append want at k (map maintained xs) ys,
      those_quiet want at k xs,
      highs_append want at k (map maintained xs) ys,
      number_append,
      number_none (highs want at k (map maintained xs)) h,
      zero-add,
      runs_after p (highs want at k (map maintained xs)) (highs want at (k + length (map maintained xs)) ys) h,
      length-map,
    )

figures_before : (p : ℕ) (want : Label) (at : ℕ → Label) (k : ℕ) (xs ys : List Marked)
    → figures p want at k (xs ++ map maintained ys) ≡ figures p want at k xs
unfolding figures
figures_before p want at k xs ys =
    let h : NoneOf (highs want at (k + length xs) (map maintained ys)) = highs_quiet want at (k + length xs) ys in
    rw (
      those_append want at k xs (map maintained ys),
      those_quiet want at (k + length xs) ys,
      append-nil,
      highs_append want at k xs (map maintained ys),
      number_append,
      number_none (highs want at (k + length xs) (map maintained ys)) h,
      add-zero,
      runs_before p (highs want at k xs) (highs want at (k + length xs) (map maintained ys)) h,
    )

figures_between : (p : ℕ) (want : Label) (at : ℕ → Label) (before period after : List Marked)
    → figures p want at 0 ((map maintained before ++ period) ++ map maintained after) ≡ figures p want at (length before) period
figures_between p want at before period after = rw (figures_before, figures_after, zero-add)

reckon_between : (p : ℕ) (at : ℕ → Label) (before period after : List Marked)
    → reckon p at 0 ((map maintained before ++ period) ++ map maintained after) ≡ reckon p at (length before) period
unfolding reckon
reckon_between p at before period after = rw (
  figures_between p (settled false) at before period after,
  figures_between p (settled true) at before period after,
  figures_between p undecided at before period after,
)

-- maintenance changes no mark
marks_quiet : (xs : List Marked) → marks (map maintained xs) ≡ marks xs
unfolding maintained
marks_quiet [] = refl
marks_quiet (x ∷ xs) = rw (marks_quiet xs)

marks_between : (before period after : List Marked) → marks ((map maintained before ++ period) ++ map maintained after) ≡ marks (before ++ (period ++ after))
marks_between before period after = simp (map-append, marks_quiet, append_assoc)

-- The report of a period between two stretches: the tally of its intervals by the labels of all that is known.
pub period_tally : (n p : ℕ) → 1 ≤ n → (before period after : List Marked) → AllSound period → (at : ℕ → Label) → Labels n (marks (before ++ (period ++ after))) at
    → whole n p (join n p (join n p (quiet (summary n p before)) (summary n p period)) (quiet (summary n p after))) ≡ tally p at (length before) period
unfolding whole
period_tally n p some before period after s at known =
    rw (quiet_summary n p before, quiet_summary n p after, ← summary_append n p (map maintained before) period, ← summary_append n p (map maintained before ++ period) (map maintained after))
    (ap tallied (sorted_reckons n p some ((map maintained before ++ period) ++ map maintained after) at (rw (marks_between before period after) known) ∙ reckon_between p at before period after)
    ∙ tallied_read p at (length before) period s)
