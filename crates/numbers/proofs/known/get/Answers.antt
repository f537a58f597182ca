-- `numbers::known::get` meets its contract: what is read is the first `N` bytes of the part from `i` on.
use Rattle.std.proofs.Common.{◌-◌, ◌<◌, length, take, drop, MatchOption, subst, ap, ◌∙◌}
use Rattle.std.proofs.lemmas.List.{take_rest}
use Rattle.std.specs.Array.{IsFirstChunk}
use Rattle.numbers.proofs.Numbers.{part_take}
use Rattle.numbers.proofs.known.get.Goals as goal

pub returns : goal.returns
returns g c = let a = c.args in
    let rest = take (length a.s.now - a.i) (drop a.i a.s.now) in
    let first : IsFirstChunk rest c.unwrap.result.now g.row.N =
    subst (λ r. MatchOption r (length rest < g.row.N) (λ y. IsFirstChunk rest y.now g.row.N)) c.unwrap.ensures c.first_chunk.ensures.cases in
    first.same ∙ ap (take g.row.N) (take_rest a.s.now a.i) ∙ part_take g.row.N a.s.now a.i c.requires
