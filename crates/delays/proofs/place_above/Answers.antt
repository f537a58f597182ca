-- `place_above` meets its contract: the first delay that the search stops at is the first above, and the length stands for none.
use Rattle.std.proofs.Common.{◌<◌, ◌≤◌, refl, sym, ◌∙◌, rules, arith}
use Rattle.std.proofs.lemmas.Iterator.{YieldsList-from_slice, IsFirst-from_position, index_from_first}
use borrow.Author.Tests.{tests, le-leb, lt-leb}
use Rattle.percentile.specs.Percentile.{place_above}
use Rattle.delays.proofs.place_above.Goals as goal

pub returns : goal.returns
unfolding place_above
returns c = let m = c.args.largest in let xs = c.args.list.now in
    let first = IsFirst-from_position _ _ c.position.result (λ x. m < x) (λ x. x ≤ m) c.position.ensures.ran (YieldsList-from_slice xs cc) (λ x q k. search (rules, tests)) (λ x q k. search (rules, tests)) in
    c.unwrap_or.ensures ∙ sym (index_from_first (place_above m) (λ x. m < x) (λ x. x ≤ m) refl
    (λ x ys h. rw (lt-leb x m h) refl) (λ x ys h. rw (le-leb x m h) (omega arith)) xs c.position.result first)
