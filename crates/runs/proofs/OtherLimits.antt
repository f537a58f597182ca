-- What a load says goes by no limit. Its bytes hold the least delay; only its value holds a headroom, reckoned from the largest delay. By the least delay a
-- limit is an upper bound, of the most delay and of the frames sent, and stands in no other rule (`by_least`, `by_headroom`). So a load that met the
-- rules under any other limits meets those that stand, where it is within the two bounds (`other_limits`). And the least delay of two loads together
-- is told from theirs alone (`lesser_of_both`, `other_of_both`). No proof here looks at the number of a limit.
-- Assumes nothing.
use mathlib.Core.Path.{◌≡◌, ◌∙◌}
use Prim.Native.Nat.{ℕ, ◌-◌, ◌*◌, ◌≤◌, ◌<◌, min}
use native.Mathlib.Omega.{arith}
use native.Mathlib.Decide.{dec_lt}
use Rattle.numbers.specs.Limits.{frames, largest_delay}
use Rattle.runs.specs.declared.figures.Load.{Load}
use Rattle.runs.specs.Figures.{turned, both}
use Rattle.runs.specs.Valid.{LoadValid}
use Rattle.runs.proofs.Headroom.{turned_heard, turned_silent}

-- the rules by the least delay, where an interval has at most `each` frames and a delay is at most `largest`
pub record ByLeast (each largest : ℕ) (l : Load) (least : ℕ) : Type 0 where
  pub few : l.sent ≤ each * l.count
  pub lost_of_sent : l.lost ≤ l.sent
  pub silent : l.sent ≡ l.lost → (l.most ≡ 0) × (least ≡ 0)
  pub within : l.most ≤ largest
  pub ordered : least ≤ l.most
  pub from : least * (l.sent - l.lost) ≤ l.sum
  pub to : l.sum ≤ l.most * (l.sent - l.lost)

-- a load that holds the headroom of this least delay
module _ (l : Load) (least : ℕ) (held : l.headroom ≡ turned l.sent l.lost least) where
  pub by_least : least ≤ largest_delay → LoadValid l → ByLeast frames largest_delay l least
  by_least small v = by (dec_lt l.lost l.sent)
    where
      by : Dec (l.lost < l.sent) → ByLeast frames largest_delay l least
      by (yes q) =
          let room : largest_delay - l.headroom ≡ least = omega (arith, held, turned_heard l.sent l.lost least q) in
          record {
            few = v.few;
            lost_of_sent = v.lost_of_sent;
            silent = λ e. absurd (omega arith);
            within = v.within;
            ordered = omega (arith, v.ordered q);
            from = rw room at v.from;
            to = v.to;
          }
      by (no q) =
          let e : l.sent ≡ l.lost = omega (arith, v.lost_of_sent) in
          let none : least ≡ 0 = omega (arith, held, turned_silent l.sent l.lost least e, (v.silent e).1) in
          record {
            few = v.few;
            lost_of_sent = v.lost_of_sent;
            silent = λ s. ((v.silent s).0, none);
            within = v.within;
            ordered = omega arith;
            from = rw none (omega arith);
            to = v.to;
          }

  pub by_headroom : ByLeast frames largest_delay l least → LoadValid l
  by_headroom v = by (dec_lt l.lost l.sent)
    where
      by : Dec (l.lost < l.sent) → LoadValid l
      by (yes q) =
          let turned_is : l.headroom ≡ largest_delay - least = omega (arith, held, turned_heard l.sent l.lost least q) in
          let room : largest_delay - l.headroom ≡ least = omega (arith, v.ordered, v.within) in
          record {
            few = v.few;
            lost_of_sent = v.lost_of_sent;
            silent = λ e. absurd (omega arith);
            within = v.within;
            roomy = omega arith;
            ordered = λ s. omega (arith, v.ordered);
            from = rw room v.from;
            to = v.to;
          }
      by (no q) =
          let e : l.sent ≡ l.lost = omega (arith, v.lost_of_sent) in
          let none : l.headroom ≡ 0 = omega (arith, held, turned_silent l.sent l.lost least e, (v.silent e).1) in
          let nobody : l.sent - l.lost ≡ 0 = omega arith in
          record {
            few = v.few;
            lost_of_sent = v.lost_of_sent;
            silent = λ s. ((v.silent s).0, none);
            within = v.within;
            roomy = omega arith;
            ordered = λ s. absurd (omega arith);
            from = rw nobody (omega arith);
            to = v.to;
          }

  -- what met the rules under other limits meets those that stand, where it is within their two bounds
  pub other_limits : (each largest : ℕ) → ByLeast each largest l least → l.sent ≤ frames * l.count → l.most ≤ largest_delay → LoadValid l
  other_limits each largest v few within =
      by_headroom
      (record {
        few = few;
        lost_of_sent = v.lost_of_sent;
        silent = v.silent;
        within = within;
        ordered = v.ordered;
        from = v.from;
        to = v.to;
      })

-- the least delay that a load is reported with
abbrev least_of : Load → ℕ
least_of l = turned l.sent l.lost l.headroom

-- two loads that hold the headrooms of these least delays
module _ (a b : Load) (x y : ℕ) (x_held : a.headroom ≡ turned a.sent a.lost x) (y_held : b.headroom ≡ turned b.sent b.lost y) (x_small : x ≤ largest_delay) (y_small : y ≤ largest_delay) where
  -- where both have delivered frames, the lesser
  pub lesser_of_both : a.lost < a.sent → b.lost < b.sent → least_of (both a b) ≡ min x y
  unfolding both
  lesser_of_both p q =
      let x_turned : a.headroom ≡ largest_delay - x = x_held ∙ turned_heard a.sent a.lost x p in
      let y_turned : b.headroom ≡ largest_delay - y = y_held ∙ turned_heard b.sent b.lost y q in
      turned_heard _ _ _ (omega arith) ∙ omega arith

  -- where one has none, the other's; `both` is the same the other way round
  pub other_of_both : a.sent ≡ a.lost → x ≡ 0 → b.lost < b.sent → least_of (both a b) ≡ y
  unfolding both
  other_of_both p none q =
      let x_turned : a.headroom ≡ x = x_held ∙ turned_silent a.sent a.lost x p in
      let y_turned : b.headroom ≡ largest_delay - y = y_held ∙ turned_heard b.sent b.lost y q in
      turned_heard _ _ _ (omega arith) ∙ omega arith
