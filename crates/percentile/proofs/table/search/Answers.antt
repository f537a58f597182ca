-- `search` narrows three times: all u32 lie in 2,048 buckets of width 2^21, those of one in as many of width 2^10, and those of
-- one of these in 1,024 of width 1.
use Rattle.std.proofs.Common.{◌*◌, ◌^◌, arith, lit≤, rules}
use Rattle.percentile.proofs.Buckets.{front_start, front_wider, front_end}
use Rattle.percentile.proofs.table.search.Goals as goal

pub narrow-a-requires : goal.narrow-a-requires
narrow-a-requires c = (
  search rules,
  c.requires.2,
  front_start _ _ (2048 * 2 ^ 21) c.requires.0 c.requires.1 (λ i p. omega (arith, c.type_inv.list i)),
)

pub narrow-c-requires : goal.narrow-c-requires
narrow-c-requires c = (
  search rules,
  c.requires.2,
  front_wider _ _ (2 ^ 10) (2048 * 2 ^ 0) _ (lit≤ tt) c.narrow-b.ensures,
)

pub returns : goal.returns
returns c = front_end _ _ _ c.narrow-c.ensures
