-- What stands in front of bytes moves the places in them on: each value that is read from n + i behind n bytes is the one that is read from i without them.
-- Assumes nothing.
use mathlib.Core.Path.{◌≡◌, refl, ap, sym, ◌∙◌}
use mathlib.Core.Bool.{Bool, true, false}
use mathlib.Core.List.{List, ◌++◌}
use Prim.Native.Nat.{ℕ, zero, suc, ◌+◌}
use native.Mathlib.Nat.{add_assoc}
use native.Mathlib.Omega.{arith}
use lib.ListN.{length, get_or}
use lib.Seq.{get_or-append-add}
use lib.Dec.{eqb}
use Rattle.numbers.specs.Bytes.{number, number_at, part, are_zero}
use Rattle.layout.specs.Reading.{load_in, figures_in, run_in, middle_in, track_by, track_in, load_words, run_words, middle_words, words_by, words_meet}

module _ (pre s : List ℕ) where
  get_or_behind : (i : ℕ) → get_or (pre ++ s) (length pre + i) 0 ≡ get_or s i 0
  get_or_behind i = get_or-append-add pre s i 0

  part_behind : (w i : ℕ) → part w (pre ++ s) (length pre + i) ≡ part w s i
  unfolding part
  part_behind zero i = refl
  part_behind (suc w) i =
      let e : suc (length pre + i) ≡ length pre + suc i = omega arith in
      let f = get_or_behind i in
      let r = part_behind w (suc i) in
      rw (e, f, r)

  pub number_behind : (w i : ℕ) → number_at w (pre ++ s) (length pre + i) ≡ number_at w s i
  unfolding number_at
  number_behind w i = ap number (part_behind w i)

  pub zeros_behind : (w i : ℕ) → are_zero w (pre ++ s) (length pre + i) ≡ are_zero w s i
  unfolding are_zero
  zeros_behind zero i = refl
  zeros_behind (suc w) i =
      let e : suc (length pre + i) ≡ length pre + suc i = omega arith in
      let f = get_or_behind i in
      let r = zeros_behind w (suc i) in
      rw (e, f, r)

  -- a field at k of what is read from i
  field : (w i k : ℕ) → number_at w (pre ++ s) (length pre + i + k) ≡ number_at w s (i + k)
  field w i k = ap (number_at w (pre ++ s)) (add_assoc (length pre) i k) ∙ number_behind w (i + k)

  zero_field : (w i k : ℕ) → are_zero w (pre ++ s) (length pre + i + k) ≡ are_zero w s (i + k)
  zero_field w i k = ap (are_zero w (pre ++ s)) (add_assoc (length pre) i k) ∙ zeros_behind w (i + k)

  pub load_behind : (i : ℕ) → load_in (pre ++ s) (length pre + i) ≡ load_in s i
  unfolding load_in
  load_behind i = rw (number_behind 4 i, field 8 i 12, field 8 i 20, field 8 i 28, field 4 i 4, field 4 i 8)

  load_field : (i k : ℕ) → load_in (pre ++ s) (length pre + i + k) ≡ load_in s (i + k)
  load_field i k = ap (load_in (pre ++ s)) (add_assoc (length pre) i k) ∙ load_behind (i + k)

  pub figures_behind : (i : ℕ) → figures_in (pre ++ s) (length pre + i) ≡ figures_in s i
  unfolding figures_in
  figures_behind i = rw (load_field i 8, number_behind 4 i, field 4 i 4)

  figures_field : (i k : ℕ) → figures_in (pre ++ s) (length pre + i + k) ≡ figures_in s (i + k)
  figures_field i k = ap (figures_in (pre ++ s)) (add_assoc (length pre) i k) ∙ figures_behind (i + k)

  pub run_behind : (i : ℕ) → run_in (pre ++ s) (length pre + i) ≡ run_in s i
  unfolding run_in
  run_behind i = rw (number_behind 4 i, field 4 i 4, load_field i 20, field 4 i 8, field 4 i 12, field 4 i 16)

  run_field : (i k : ℕ) → run_in (pre ++ s) (length pre + i + k) ≡ run_in s (i + k)
  run_field i k = ap (run_in (pre ++ s)) (add_assoc (length pre) i k) ∙ run_behind (i + k)

  pub middle_behind : (i : ℕ) → middle_in (pre ++ s) (length pre + i) ≡ middle_in s i
  unfolding middle_in
  middle_behind i = rw (number_behind 4 i, figures_field i 8, figures_field i 52, field 4 i 4)

  middle_field : (i k : ℕ) → middle_in (pre ++ s) (length pre + i + k) ≡ middle_in s (i + k)
  middle_field i k = ap (middle_in (pre ++ s)) (add_assoc (length pre) i k) ∙ middle_behind (i + k)

  by_kind : (nothing one : Bool) (i : ℕ) → track_by nothing one (pre ++ s) (length pre + i) ≡ track_by nothing one s i
  by_kind true one i = refl
  by_kind false true i = rw (run_field i 8)
  by_kind false false i = rw (run_field i 8, middle_field i 64, run_field i 160)

  pub track_behind : (i : ℕ) → track_in (pre ++ s) (length pre + i) ≡ track_in s i
  unfolding track_in
  track_behind i = rw (number_behind 8 i) (by_kind (eqb (number_at 8 s i) 0) (eqb (number_at 8 s i) 1) i)

  pub load_words_behind : (i : ℕ) → load_words (pre ++ s) (length pre + i) ≡ load_words s i
  unfolding load_words
  load_words_behind i = rw (field 4 i 8)

  load_words_field : (i k : ℕ) → load_words (pre ++ s) (length pre + i + k) ≡ load_words s (i + k)
  load_words_field i k = ap (load_words (pre ++ s)) (add_assoc (length pre) i k) ∙ load_words_behind (i + k)

  run_words_behind : (i k : ℕ) → run_words (pre ++ s) (length pre + i + k) ≡ run_words s (i + k)
  unfolding run_words
  run_words_behind i k =
      let e : length pre + i + k ≡ length pre + (i + k) = omega arith in
      rw (e, number_behind 4 (i + k), field 4 (i + k) 12, field 4 (i + k) 16, load_words_field (i + k) 20)

  middle_words_behind : (i k : ℕ) → middle_words (pre ++ s) (length pre + i + k) ≡ middle_words s (i + k)
  unfolding middle_words
  middle_words_behind i k =
      let e : length pre + i + k ≡ length pre + (i + k) = omega arith in
      rw (e, number_behind 4 (i + k), load_words_field (i + k) 16, load_words_field (i + k) 60)

  words_by_kind : (nothing one two : Bool) (i : ℕ) → words_by nothing one two (pre ++ s) (length pre + i) ≡ words_by nothing one two s i
  words_by_kind true one two i = zero_field 208 i 8
  words_by_kind false true two i = rw (run_words_behind i 8, zero_field 152 i 64)
  words_by_kind false false true i = rw (run_words_behind i 8, middle_words_behind i 64, run_words_behind i 160)
  words_by_kind false false false i = refl

  pub words_behind : (i : ℕ) → words_meet (pre ++ s) (length pre + i) ≡ words_meet s i
  unfolding words_meet
  words_behind i = rw (number_behind 8 i) (words_by_kind (eqb (number_at 8 s i) 0) (eqb (number_at 8 s i) 1) (eqb (number_at 8 s i) 2) i)

  -- at the place right behind what stands in front

  module _ (n : ℕ) (e : length pre ≡ n) where
    right_behind : length pre + 0 ≡ n
    right_behind = omega arith

    pub zeros_at : (w : ℕ) → are_zero w (pre ++ s) n ≡ are_zero w s 0
    zeros_at w = ap (are_zero w (pre ++ s)) (sym right_behind) ∙ zeros_behind w 0

    pub run_at : run_in (pre ++ s) n ≡ run_in s 0
    run_at = ap (run_in (pre ++ s)) (sym right_behind) ∙ run_behind 0

    pub middle_at : middle_in (pre ++ s) n ≡ middle_in s 0
    middle_at = ap (middle_in (pre ++ s)) (sym right_behind) ∙ middle_behind 0

    right_behind_twice : length pre + 0 + 0 ≡ n
    right_behind_twice = omega arith

    pub run_words_at : run_words (pre ++ s) n ≡ run_words s 0
    run_words_at = ap (run_words (pre ++ s)) (sym right_behind_twice) ∙ run_words_behind 0 0

    pub middle_words_at : middle_words (pre ++ s) n ≡ middle_words s 0
    middle_words_at = ap (middle_words (pre ++ s)) (sym right_behind_twice) ∙ middle_words_behind 0 0

    pub track_at : track_in (pre ++ s) n ≡ track_in s 0
    track_at = ap (track_in (pre ++ s)) (sym right_behind) ∙ track_behind 0

    pub words_at : words_meet (pre ++ s) n ≡ words_meet s 0
    words_at = ap (words_meet (pre ++ s)) (sym right_behind) ∙ words_behind 0
