-- The library's little-endian conversions are ours: what it reads of four or eight bytes is `number`, what it writes is `bytes_of`.
-- Assumes nothing.
use Rattle.std.specs.Int.{from_le_bytes, to_le_bytes, w32, w64}
use Rattle.std.proofs.Common.{◌≡◌, ℕ, ◌/◌, List, refl, arith}
use Rattle.numbers.specs.Bytes.{number, number_at, part, bytes_of}

pub from_four : (s : List ℕ) (i : ℕ) → from_le_bytes w32 (part 4 s i) ≡ number_at 4 s i
unfolding number_at number part
from_four s i = omega arith

pub from_eight : (s : List ℕ) (i : ℕ) → from_le_bytes w64 (part 8 s i) ≡ number_at 8 s i
unfolding number_at number part
from_eight s i = omega arith

-- byte by byte
pub to_four : (x : ℕ) → to_le_bytes w32 x ≡ bytes_of 4 x
unfolding bytes_of
to_four x =
    let b : x / 256 / 256 ≡ x / 65536 = omega arith in
    let c : x / 65536 / 256 ≡ x / 16777216 = omega arith in
    rw (b, c) refl

pub to_eight : (x : ℕ) → to_le_bytes w64 x ≡ bytes_of 8 x
unfolding bytes_of
to_eight x =
    let b : x / 256 / 256 ≡ x / 65536 = omega arith in
    let c : x / 65536 / 256 ≡ x / 16777216 = omega arith in
    let d : x / 16777216 / 256 ≡ x / 4294967296 = omega arith in
    let e : x / 4294967296 / 256 ≡ x / 1099511627776 = omega arith in
    let f : x / 1099511627776 / 256 ≡ x / 281474976710656 = omega arith in
    let g : x / 281474976710656 / 256 ≡ x / 72057594037927936 = omega arith in
    rw (b, c, d, e, f, g) refl
