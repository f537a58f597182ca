-- `input::read_full`: the bytes so far and those that a read put behind them are the bytes that both took from the input.
use Rattle.std.proofs.Common.{◌≡◌, ℕ, ◌+◌, ◌-◌, ◌≤◌, List, ◌++◌, length, take, sym, ap, ◌∙◌, subst, length-take-le, rules}
use Rattle.std.specs.Io.KnownBytes.{Consumes}
use Rattle.std.proofs.KnownBytes.{Consumes-trans}
use borrow.Rule.Slice.PartMut.{put_mid, post_of}
use lib.Seq.{take-append-add, take-append-le}
use Rattle.input.proofs.read_full.Goals as goal

-- the first bytes once a part behind the first `d` was read into
take_read :
    (d k n : ℕ) (text part : List ℕ) → d ≤ length text → n ≤ length part → take d text ++ take n part ≡ take (d + n) (put_mid d k text part)
take_read d k n text part within fits =
    sym
    (ap (λ j. take (j + n) (put_mid d k text part)) (sym (length-take-le d text within))
    ∙ take-append-add (take d text) (part ++ post_of d k text) n
    ∙ ap (λ l. take d text ++ l) (take-append-le n part (post_of d k text) fits))

pub loop-preserved : goal.loop-preserved
loop-preserved g c =
    let before = c.loop.invariant in
    let whole = take_read c.loop.done (length c.loop.text - c.loop.done) c.in-Ok.n c.loop.text c.read.new.buf before.0 c.in-Ok.ensures.bound.0 in
    (search rules, subst (Consumes _ _) whole (Consumes-trans _ _ _ _ _ before.1 c.in-Ok.ensures.bytes.0))
