-- `numbers::bytes::put` meets its contract: each turn puts one byte more.
use Rattle.std.proofs.Common.{◌≡◌, ◌+◌, ◌-◌, ◌^◌, [], ◌∷◌, get_or, set, take, length, length-take-le, ap, sym, ◌∙◌, arith}
use Rattle.std.proofs.lemmas.List.{take_more}
use lib.Seq.{sets, length-sets}
use Rattle.numbers.proofs.Numbers.{set_far, sets_append}
use Rattle.numbers.proofs.bytes.put.Goals as goal

pub loop-k-preserved : goal.loop-k-preserved
loop-k-preserved g c = let a = c.args in let l = c.loop-k in
    let x = get_or a.all l.k 0 in
    let long : length l.out ≡ length a.out.now = ap length l.invariant ∙ length-sets a.out.now a.i (take l.k a.all) in
    let far = set_far l.out (a.i + l.k) (2 ^ 64 - 1) x (omega (arith, c.well_formed.0.0)) in
    let there : length (take l.k a.all) ≡ l.k = length-take-le l.k a.all (omega arith) in
    c.put_u8.ensures
    ∙ ap (λ j. set l.out j x) c.saturating_add.ensures
    ∙ far
    ∙ ap (λ o. set o (a.i + l.k) x) l.invariant
    ∙ ap (λ k. set (sets a.out.now a.i (take l.k a.all)) (a.i + k) x) (sym there)
    ∙ sym (sets_append (take l.k a.all) (x ∷ []) a.out.now a.i)
    ∙ ap (sets a.out.now a.i) (sym (take_more a.all l.k 0 (omega arith)))
