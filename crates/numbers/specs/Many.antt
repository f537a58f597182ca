-- A slice of many records of one size.
use Rattle.std.specs.Prelude.{ℕ, zero, suc, ◌*◌, ◌/◌, ◌%◌, Bool, true, false, cond, ◌&&◌, List, [], ◌∷◌, length, take, drop, ltb, eqb, Option, Some, None}

abbrev pub whole_if : Bool → ℕ → Option ℕ
whole_if true n = Some n
whole_if false n = None

-- how many records of `size` bytes are `len` bytes
unfoldable pub count_of : ℕ → ℕ → Option ℕ
count_of len size = whole_if (ltb 0 size && eqb (len % size) 0) (len / size)

-- the k-th record of `size` bytes, or nothing where `s` does not hold it
unfoldable pub record_at : List ℕ → ℕ → ℕ → List ℕ
record_at s size k = cond (ltb 0 size && ltb k (length s / size)) (take size (drop (k * size) s)) []

-- what a reader of records of `size` bytes says of each of `n` of them, from the k-th on
unfoldable pub read_each : {A : Type 0} → (List ℕ → A) → ℕ → ℕ → List ℕ → ℕ → List A
read_each read size zero s k = []
read_each read size (suc n) s k = read (record_at s size k) ∷ read_each read size n s (suc k)
