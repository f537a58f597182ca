-- `numbers::known::are_zero` meets its contract: each turn asks one byte more.
use Rattle.std.proofs.Common.{◌≡◌, ◌+◌, ◌-◌, ◌<◌, get_or, take, drop, sym, ◌∙◌, arith}
use Rattle.std.proofs.lemmas.List.{get_or-take, get_or-drop}
use Rattle.numbers.proofs.Zeros.{zero_last}
use Rattle.numbers.proofs.known.are_zero.Goals as goal

pub loop-b-preserved : goal.loop-b-preserved
loop-b-preserved c = let a = c.args in let l = c.loop-b in
    let k = a.i + a.count - a.i in
    let here : l.b-index < k = omega arith in
    let read : get_or (take k (drop a.i a.s.now)) l.b-index 0 ≡ get_or a.s.now (a.i + l.b-index) 0 =
    get_or-take k (drop a.i a.s.now) l.b-index 0 here ∙ get_or-drop a.i a.s.now l.b-index 0 in
    rw (l.invariant, read) (sym (zero_last l.b-index a.s.now a.i))
