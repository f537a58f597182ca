-- `gathering::gather` meets its contract: the first record makes the first runs, and the rest goes on from them.
use mathlib.Core.Path.{◌≡◌, ap, sym, ◌∙◌}
use Prim.Native.Nat.{◌/◌, ◌<◌}
use native.Mathlib.Omega.{arith}
use lib.ListN.{length}
use Rattle.std.specs.Prelude.{Err}
use Rattle.intervals.proofs.IntervalRecord.{interval_valid}
use Rattle.labels.specs.Marked.{loss_mark, composite_mark}
use Rattle.runs.specs.Runs.{single}
use Rattle.tracks.specs.declared.Track.TheVariants.{Nothing}
use Rattle.tallies.specs.Seen.{loss_seen, composite_seen}
use Rattle.gathering.specs.Gathering.{toned}
use Rattle.gathering.proofs.Gathering.{from_first, from_second, on_done, on_invalid, on_disordered}
use Rattle.gathering.proofs.Segments.{seen_valid, seen_one, seen_high, toned_to}
use Rattle.gathering.proofs.gather.Goals as goal

pub returns-then-n-eq0 : goal.returns-then-n-eq0
returns-then-n-eq0 c = let a = c.args in
    sym (from_first a.l a.first a.s.now ∙ on_done a.l a.first (length a.s.now / 48) 0 a.first a.s.now Nothing Nothing (omega (arith, c.if-n-eq0.true)))

pub returns-in_default : goal.returns-in_default
returns-in_default c = let a = c.args in
    let some : 0 < (length a.s.now / 48) = omega (arith, c.if-n-eq0.false) in
    ap Err c.at.ensures ∙ sym (from_first a.l a.first a.s.now ∙ on_invalid a.l a.first (length a.s.now / 48) 0 a.first a.s.now Nothing Nothing some (sym c.read_at.ensures ∙ c.in_default.is))

pub returns-then-v-first : goal.returns-then-v-first
returns-then-v-first c = let a = c.args in
    let some : 0 < (length a.s.now / 48) = omega (arith, c.if-n-eq0.false) in
    ap Err c.at-then-v-first.ensures ∙ sym (from_first a.l a.first a.s.now ∙ on_disordered a.l a.first (length a.s.now / 48) 0 a.first a.s.now Nothing Nothing c.in-Some.v some (sym c.read_at.ensures ∙ c.in-Some.is) c.if-v-first.true)

pub go_on-requires : goal.go_on-requires
go_on-requires c =
    let a = c.args in
    let v = c.in-Some.v in
    let f = interval_valid _ v (sym c.read_at.ensures ∙ c.in-Some.is) in
    rw c.run_of.ensures
    record {
      valid = c.requires.0;
      known = omega (arith, f.number_fact, c.if-v-first.false);
      segment = seen_valid a.l.p v f;
      one = seen_one v;
      high = seen_high v;
    }

pub returns : goal.returns
returns c =
    let a = c.args in
    let v = c.in-Some.v in
    let some : 0 < (length a.s.now / 48) = omega (arith, c.if-n-eq0.false) in
    let p : toned c.marks.result.loss c.run_of.result ≡ single (loss_seen a.l v) =
    toned_to (loss_mark a.l v) v c.run_of.ensures (ap (λ m. m.loss) c.marks.ensures) in
    let q : toned c.marks.result.composite c.run_of.result ≡ single (composite_seen a.l v) =
    toned_to (composite_mark a.l v) v c.run_of.ensures (ap (λ m. m.composite) c.marks.ensures) in
    rw (c.go_on.ensures, p, q) (sym (from_second a.l a.first a.s.now v some (sym c.read_at.ensures ∙ c.in-Some.is) c.if-v-first.false))
