-- `survey` meets its contract. The invariant: each count of the delays passed, and that of those left, make up the whole.
use Rattle.std.proofs.Common.{◌≡◌, ℕ, ◌+◌, Bool, ltb, leb, length, get_or, drop, lt_of_le_of_lt, List, ◌<◌, ◌^◌, w32, Fits}
use Rattle.percentile.specs.Percentile.{hit, how_many}
use Rattle.percentile.proofs.Survey.{seen_start, seen_step, seen_end, counted_fits}
use Rattle.percentile.proofs.few.survey.Goals as goal

-- a count fits, since it is at most the length
sum_fits : (f : ℕ → Bool) (n i : ℕ) (xs : List ℕ) → i < length xs → length xs < 2 ^ 32
    → n + how_many f (drop i xs) ≡ how_many f xs → Fits w32 (n + hit (f (get_or xs i 0)))
sum_fits f n i xs h room e = record { fits = lt_of_le_of_lt (counted_fits f _ _ n h e) room }

pub loop-x-init : goal.loop-x-init
loop-x-init c = seen_start _ _ _ _ c.requires.0

pub overflow_add-s : goal.overflow_add-s
overflow_add-s c = sum_fits (λ x. leb x c.args.largest) _ _ _ c.loop-x-test.true c.requires.1 c.loop-x.invariant.all

pub overflow_add-s-in-loop-x : goal.overflow_add-s-in-loop-x
overflow_add-s-in-loop-x c = sum_fits (λ x. ltb x c.args.p.lo) _ _ _ c.loop-x-test.true c.requires.1 c.loop-x.invariant.before_lo

pub overflow_add-s-in-loop-x-2 : goal.overflow_add-s-in-loop-x-2
overflow_add-s-in-loop-x-2 c = sum_fits (λ x. leb x c.args.p.lo) _ _ _ c.loop-x-test.true c.requires.1 c.loop-x.invariant.upto_lo

pub overflow_add-s-in-loop-x-3 : goal.overflow_add-s-in-loop-x-3
overflow_add-s-in-loop-x-3 c = sum_fits (λ x. ltb x c.args.p.hi) _ _ _ c.loop-x-test.true c.requires.1 c.loop-x.invariant.before_hi

pub overflow_add-s-in-loop-x-4 : goal.overflow_add-s-in-loop-x-4
overflow_add-s-in-loop-x-4 c = sum_fits (λ x. leb x c.args.p.hi) _ _ _ c.loop-x-test.true c.requires.1 c.loop-x.invariant.upto_hi

pub loop-x-preserved : goal.loop-x-preserved
loop-x-preserved c =
    seen_step _ _ _ _ _ _ _ c.loop-x-test.true c.min.ensures c.loop-x.invariant

pub returns : goal.returns
returns c = seen_end _ _ _ _ _ _ c.loop-x-test.false c.loop-x.invariant
