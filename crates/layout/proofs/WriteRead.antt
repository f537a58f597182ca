-- Bytes whose words are in order are the bytes of the track that is read out of them: each field's bytes are those of its number, a form and a label
-- word have one track to tell, a least delay is that of its headroom, and what a track does not have is 0.
-- Assumes nothing.
use mathlib.Core.Path.{◌≡◌, refl, ap, sym, ◌∙◌}
use mathlib.Core.Bool.{Bool, true, false, ◌&&◌, ◌||◌, not, and-eq-true_iff}
use mathlib.Core.List.{List, ◌++◌}
use Prim.Native.Nat.{ℕ, zero, suc, ◌+◌, ◌≤◌}
use native.Mathlib.Nat.{add_assoc}
use native.Mathlib.Omega.{arith}
use lib.Dec.{leb, eqb}
use borrow.Author.Tests.{leb-true, eqb-true}
use Rattle.numbers.specs.Bytes.{number_at, part, bytes_of, are_zero, Bytes}
use Rattle.numbers.proofs.Numbers.{part_append, part_bytes}
use Rattle.numbers.proofs.Zeros.{zero_bytes}
use Rattle.runs.specs.Figures.{turned, idle, none}
use Rattle.runs.specs.Middles.{unit}
use Rattle.runs.proofs.Headroom.{turned_twice}
use Rattle.layout.specs.Bytes.{load_bytes, figures_bytes, form_of, pre_of, inner_of, post_of, shape_bytes, run_bytes, label_word, middle_bytes, blank_run, piece_bytes, track_bytes}
use Rattle.layout.specs.Reading.{load_in, figures_in, edges_in, run_in, label_in, middle_in, track_by, track_in, load_words, run_words, middle_words, words_by, words_meet}

-- a part in two, at k of what is read from i
next : (v w : ℕ) (s : List ℕ) (i k : ℕ) → part (v + w) s (i + k) ≡ part v s (i + k) ++ part w s (i + (k + v))
next v w s i k = part_append v w s (i + k) ∙ ap (λ j. part v s (i + k) ++ part w s j) (add_assoc i k v)

-- the words of a run tell its form and its edges
form_back :
    (form pre inner post : ℕ) →
    form ≤ 2 → not (eqb form 2) || (eqb inner 0 && eqb post 0) ≡ true →
    (form_of (not (eqb form 0)) (edges_in form pre inner post) ≡ form) × (pre_of (edges_in form pre inner post) ≡ pre) × (inner_of (edges_in form pre inner post) ≡ inner) × (post_of (edges_in form pre inner post) ≡ post)
unfolding edges_in
form_back zero pre inner post small h = (refl, refl, refl, refl)
form_back (suc zero) pre inner post small h = (refl, refl, refl, refl)
form_back (suc (suc zero)) pre inner post small h =
    let b = (and-eq-true_iff (eqb inner 0) (eqb post 0)).0 h in
    (refl, refl, sym (eqb-true inner 0 b.0), sym (eqb-true post 0 b.1))
form_back (suc (suc (suc k))) pre inner post small h = absurd (omega arith)

label_word_back : (w : ℕ) → w ≤ 2 → label_word (label_in w) ≡ w
unfolding label_in
label_word_back zero small = refl
label_word_back (suc zero) small = refl
label_word_back (suc (suc zero)) small = refl
label_word_back (suc (suc (suc k))) small = absurd (omega arith)

module _ (s : List ℕ) (h : Bytes s) where
  -- a least delay is that of its headroom
  least_write : (i : ℕ) → load_words s i ≡ true → turned (load_in s i).sent (load_in s i).lost (load_in s i).headroom ≡ number_at 4 s (i + 8)
  unfolding load_in load_words
  least_write i words = turned_twice (number_at 8 s (i + 12)) (number_at 8 s (i + 20)) (number_at 4 s (i + 8)) (leb-true _ _ words)

  load_write : (i : ℕ) → load_words s i ≡ true → load_bytes (load_in s i) ≡ part 36 s i
  unfolding load_bytes load_in
  load_write i words =
      rw (least_write i words, part_bytes 4 s i h, part_bytes 4 s (i + 4) h, part_bytes 4 s (i + 8) h, part_bytes 8 s (i + 12) h, part_bytes 8 s (i + 20) h, part_bytes 8 s (i + 28) h)
      (sym (part_append 4 32 s i ∙ rw (next 4 28 s i 4, next 4 24 s i 8, next 8 16 s i 12, next 8 8 s i 20)))

  figures_write : (i : ℕ) → load_words s (i + 8) ≡ true → figures_bytes (figures_in s i) ≡ part 44 s i
  unfolding figures_bytes figures_in
  figures_write i words =
      rw (part_bytes 4 s i h, part_bytes 4 s (i + 4) h, load_write (i + 8) words) (sym (part_append 4 40 s i ∙ rw (next 4 36 s i 4)))

  -- 20 bytes are five words
  in_words : (i : ℕ) → part 20 s i ≡ part 4 s i ++ (part 4 s (i + 4) ++ (part 4 s (i + 8) ++ (part 4 s (i + 12) ++ part 4 s (i + 16))))
  in_words i = part_append 4 16 s i ∙ rw (next 4 12 s i 4, next 4 8 s i 8, next 4 4 s i 12)

  run_write : (i : ℕ) → run_words s i ≡ true → run_bytes (run_in s i) ≡ part 56 s i
  unfolding run_bytes shape_bytes run_in run_words
  run_write i words =
      let w = (and-eq-true_iff (leb (number_at 4 s i) 2 && (not (eqb (number_at 4 s i) 2) || (eqb (number_at 4 s (i + 12)) 0 && eqb (number_at 4 s (i + 16)) 0))) (load_words s (i + 20))).0 words in
      let b = (and-eq-true_iff (leb (number_at 4 s i) 2) (not (eqb (number_at 4 s i) 2) || (eqb (number_at 4 s (i + 12)) 0 && eqb (number_at 4 s (i + 16)) 0))).0 w.0 in
      let f = form_back (number_at 4 s i) (number_at 4 s (i + 8)) (number_at 4 s (i + 12)) (number_at 4 s (i + 16)) (leb-true (number_at 4 s i) 2 b.0) b.1 in
      rw (f.0, f.1, f.2, f.3, part_bytes 4 s i h, part_bytes 4 s (i + 4) h, part_bytes 4 s (i + 8) h, part_bytes 4 s (i + 12) h, part_bytes 4 s (i + 16) h, load_write (i + 20) w.1)
      (sym (part_append 20 36 s i ∙ ap (λ l. l ++ part 36 s (i + 20)) (in_words i)))

  middle_write : (i : ℕ) → middle_words s i ≡ true → middle_bytes (middle_in s i) ≡ part 96 s i
  unfolding middle_bytes middle_in middle_words
  middle_write i words =
      let w = (and-eq-true_iff (leb (number_at 4 s i) 2 && load_words s (i + 16)) (load_words s (i + 60))).0 words in
      let v = (and-eq-true_iff (leb (number_at 4 s i) 2) (load_words s (i + 16))).0 w.0 in
      let a = ap (load_words s) (add_assoc i 8 8) ∙ v.1 in
      let b = ap (load_words s) (add_assoc i 52 8) ∙ w.1 in
      rw (label_word_back (number_at 4 s i) (leb-true (number_at 4 s i) 2 v.0), part_bytes 4 s i h, part_bytes 4 s (i + 4) h, figures_write (i + 8) a, figures_write (i + 52) b)
      (sym (part_append 4 92 s i ∙ rw (next 4 88 s i 4, next 44 44 s i 8)))

  -- 216 bytes are a kind, a run, a middle and a run
  in_pieces : (i : ℕ) → part 216 s i ≡ part 8 s i ++ (part 56 s (i + 8) ++ (part 96 s (i + 64) ++ part 56 s (i + 160)))
  in_pieces i = part_append 8 208 s i ∙ rw (next 56 152 s i 8, next 96 56 s i 64)

  kind_write : (i k : ℕ) → number_at 8 s i ≡ k → bytes_of 8 k ≡ part 8 s i
  kind_write i k e = ap (bytes_of 8) (sym e) ∙ part_bytes 8 s i h

  -- what is not there
  all_blank : run_bytes blank_run ++ (middle_bytes unit ++ run_bytes blank_run) ≡ bytes_of 208 0
  unfolding run_bytes shape_bytes middle_bytes figures_bytes load_bytes bytes_of unit none idle turned
  all_blank = refl

  rest_blank : middle_bytes unit ++ run_bytes blank_run ≡ bytes_of 152 0
  unfolding run_bytes shape_bytes middle_bytes figures_bytes load_bytes bytes_of unit none idle turned
  rest_blank = refl

  by_kind :
      (i : ℕ) (nothing one two : Bool) →
      eqb (number_at 8 s i) 0 ≡ nothing → eqb (number_at 8 s i) 1 ≡ one → eqb (number_at 8 s i) 2 ≡ two → words_by nothing one two s i ≡ true → track_bytes (track_by nothing one s i) ≡ part 216 s i
  unfolding track_bytes piece_bytes
  by_kind i true one two a b c words =
      rw (kind_write i 0 (eqb-true (number_at 8 s i) 0 a), all_blank, zero_bytes 208 s (i + 8) words) (sym (part_append 8 208 s i))
  by_kind i false true two a b c words =
      let w = (and-eq-true_iff (run_words s (i + 8)) (are_zero 152 s (i + 64))).0 words in
      rw (kind_write i 1 (eqb-true (number_at 8 s i) 1 b), run_write (i + 8) w.0, rest_blank, zero_bytes 152 s (i + 64) w.1)
      (sym (part_append 8 208 s i ∙ rw (next 56 152 s i 8)))
  by_kind i false false true a b c words =
      let w = (and-eq-true_iff (run_words s (i + 8) && middle_words s (i + 64)) (run_words s (i + 160))).0 words in
      let v = (and-eq-true_iff (run_words s (i + 8)) (middle_words s (i + 64))).0 w.0 in
      rw (kind_write i 2 (eqb-true (number_at 8 s i) 2 c), run_write (i + 8) v.0, middle_write (i + 64) v.1, run_write (i + 160) w.1) (sym (in_pieces i))
  by_kind i false false false a b c words = let z : ◌≡◌ {A = ℕ} 0 1 = cc in absurd (omega arith)

  pub track_write_read : (i : ℕ) → words_meet s i ≡ true → track_bytes (track_in s i) ≡ part 216 s i
  unfolding words_meet track_in
  track_write_read i words = by_kind i (eqb (number_at 8 s i) 0) (eqb (number_at 8 s i) 1) (eqb (number_at 8 s i) 2) refl refl refl words
