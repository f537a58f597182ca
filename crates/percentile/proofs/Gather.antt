-- The loop of `gather`: what has been kept and what is left of the list to keep are all that is to be kept.
use Rattle.std.proofs.Common.{◌≡◌, ℕ, ◌+◌, ◌<◌, ◌≤◌, Bool, true, false, cond, List, [], ◌∷◌, ◌++◌, length, get_or, take, drop, set, sym, ap, ◌∙◌, append_assoc, append-nil, le_refl, add-zero, add-one, arith, length-set, drop-cons, take-suc-set}
use lib.Seq.{drop-length, take-set-le}
use Rattle.percentile.specs.Percentile.{hit, how_many, keep}
use Rattle.percentile.specs.Ranks.{Collected}
use Rattle.percentile.proofs.Counts.{count_step, count_none}

-- after the first i delays, the first n of `few` are those that pass
pub record Gathered (f : ℕ → Bool) (xs : List ℕ) (room n i : ℕ) (few : List ℕ) : Type 0 where
  pub within : i ≤ length xs
  pub long : length few ≡ room
  pub counted : n + how_many f (drop i xs) ≡ how_many f xs
  pub content : take n few ++ keep f (drop i xs) ≡ keep f xs

keep_step : (f : ℕ → Bool) (xs : List ℕ) (i : ℕ) → i < length xs
    → keep f (drop i xs) ≡ cond (f (get_or xs i 0)) (get_or xs i 0 ∷ keep f (drop (i + 1) xs)) (keep f (drop (i + 1) xs))
unfolding keep
keep_step f xs i h = rw (add-one, drop-cons xs i 0)

-- a delay is stored behind those kept; it stays if it passes
stored : (b : Bool) (few : List ℕ) (n x : ℕ) (rest : List ℕ) → n < length few
    → take (n + hit b) (set few n x) ++ rest ≡ take n few ++ cond b (x ∷ rest) rest
stored true few n x rest h = rw (add-one n, take-suc-set few n x h) (append_assoc (take n few) (x ∷ []) rest)
stored false few n x rest h = rw (add-zero n, take-set-le n few n x (le_refl n))

pub gathered_step : (f : ℕ → Bool) (xs : List ℕ) (room n i : ℕ) (few : List ℕ) → i < length xs → n < room
    → Gathered f xs room n i few
    → Gathered f xs room (n + hit (f (get_or xs i 0))) (i + 1) (set few n (get_or xs i 0))
gathered_step f xs room n i few h r v =
    record {
      within = omega arith;
      long = length-set few n (get_or xs i 0) ∙ v.long;
      counted = omega (arith, v.counted, count_step f xs i h);
      content =
          stored (f (get_or xs i 0)) few n (get_or xs i 0) (keep f (drop (i + 1) xs)) (omega (arith, v.long))
          ∙ ap (λ (l : List ℕ). take n few ++ l) (sym (keep_step f xs i h))
          ∙ v.content;
    }

-- there is room for one more than are kept
pub gathered_room_lem : (f : ℕ → Bool) (xs : List ℕ) (room n i : ℕ) (few : List ℕ) → how_many f xs < room
    → Gathered f xs room n i few → n < room
gathered_room_lem f xs room n i few h v = omega (arith, v.counted)

pub gathered_end : (f : ℕ → Bool) (xs : List ℕ) (room n i : ℕ) (few : List ℕ) → length xs ≤ i → Gathered f xs room n i few
    → Collected f xs few n
unfolding keep
gathered_end f xs room n i few h v =
    let e : i ≡ length xs = omega (arith, v.within) in
    let count : n + how_many f (drop (length xs) xs) ≡ how_many f xs = rw e at v.counted in
    let all : take n few ++ keep f (drop (length xs) xs) ≡ keep f xs = rw e at v.content in
    record {
      counted = omega (arith, count, count_none f xs);
      content = sym (append-nil (take n few)) ∙ (rw (drop-length xs) at all);
    }
