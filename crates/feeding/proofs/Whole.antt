-- Fed in pieces of any sizes, what is said at the end is what the operation `summary` says of all the bytes: growing by two parts is growing
-- by the whole, since a check goes on where it stood and a join of joins is the join; so a piece fed behind a piece is both fed at once, and
-- from the start on all of them are one.
-- Assumes nothing.
use mathlib.Core.Path.{◌≡◌, refl, ap, sym, ◌∙◌}
use mathlib.Core.Bool.{Bool, true, false}
use mathlib.Core.List.{List, [], ◌∷◌, ◌++◌, append_assoc, append-nil}
use Prim.Native.Nat.{ℕ, ◌+◌, ◌*◌, ◌/◌, ◌%◌}
use native.Mathlib.Nat.{mod-eq-sub-div-mul}
use native.Mathlib.Omega.{arith}
use lib.ListN.{length}
use lib.Seq.{length-take-le}
use lib.Dec.{eqb}
use Rattle.std.specs.Prelude.{Option, Some, None, Result, Ok, Err}
use Rattle.numbers.specs.Limits.{intervals}
use Rattle.numbers.specs.Many.{count_of, whole_if, read_each}
use Rattle.numbers.specs.Room.{has_room}
use Rattle.settings.specs.Settings.{settings_of}
use Rattle.settings.specs.declared.LabelSettings.{LabelSettings}
use Rattle.intervals.specs.Sequence.{intervals_in, checked}
use Rattle.labels.specs.Stretch.{intervals_of}
use Rattle.labels.proofs.Placing.{read_label}
use Rattle.summaries.specs.Stored.{summary_bytes}
use Rattle.summaries.specs.declared.Summary.{Summary}
use Rattle.summaries.specs.Made.{made_of}
use Rattle.summaries.proofs.Made.{made_reads_back}
use Rattle.gathering.specs.Gathering.{good_if, gathered}
use Rattle.making.specs.Making.{gathered_count, gathered_settings, made}
use Rattle.joining.proofs.Cut.{join_made}
use Rattle.joining.specs.Joining.{joined_of, Adjoining}
use Rattle.joining.proofs.Joins.{join_assoc, join_reads_back}
use Rattle.tallies.proofs.Valid.{AllValid}
use Rattle.summaries.proofs.Validity.{SummaryValid, summary_valid}
use Rattle.feeding.specs.Feeding.{Standing, held_if, behind, grown, grown_by, rest_of, filled, begun_by, begun, fed, fed_all, finished_by, finished, Known, Growing, Ready, joined, standing, Steps, done, next}
use Rattle.feeding.specs.declared.Held.{Held}
use Rattle.feeding.specs.declared.State.{State}
use Rattle.feeding.proofs.Pieces.{whole_of, cut, whole_length, rest_short, none_few, rest_length, records_both, rest_second}
use Rattle.feeding.proofs.Sound.{then_if, checked_both, intervals_both, SoundPart, sound_part}
use Rattle.settings.specs.declared.Settings.{Settings}
use Rattle.numbers.specs.declared.refusal.Refusal.{Refusal}

-- the records of a valid summary's next part, where they are sound
module _ (v : Summary) (k : Known v) (s : List ℕ) (sound : checked v.after v.after (intervals_in s) ≡ Ok tt) where
  v_valid : SummaryValid v
  v_valid = summary_valid k.bytes v k.read

  part : SoundPart v.after (intervals_in s)
  unfolding intervals_in
  part = sound_part v.after v.after (length s / 48) s 0 v_valid.within sound

  pub adjoins : Adjoining v (behind v s)
  unfolding made_of
  adjoins =
      record {
        left_bytes = k.bytes;
        right_bytes = summary_bytes (behind v s);
        left = k.read;
        right = made_reads_back v.label v.after (intervals_of (intervals_in s)) v_valid.settings part.valid (omega (arith, part.within, part.many));
        settings = refl;
        numbers = refl;
      }

-- growing keeps what is known
pub grown_known : (v : Summary) (s : List ℕ) → Known v → Growing (grown v s)
unfolding grown Growing
grown_known v s k = by (checked v.after v.after (intervals_in s)) refl
  where
    by : (x : Result (Unit {0}) Refusal) → checked v.after v.after (intervals_in s) ≡ x → Growing (held_if x (joined_of v (behind v s)))
    by (Ok tt) e = record { bytes = summary_bytes (joined_of v (behind v s)); read = join_reads_back v (behind v s) (adjoins v k s e) }
    by (Err r) e = tt

pub held_known : (h : Held) (s : List ℕ) → Growing h → Growing (grown_by h s)
unfolding Growing
held_known Held.Unset s k = tt
held_known (Held.Sound v) s k = grown_known v s k
held_known (Held.Faulty r) s k = tt

-- growing by a part of whole records and then by another is growing by both

by_parts : (v : Summary) (w x : List ℕ) (m : ℕ) → length w ≡ m * 48 → intervals_of (intervals_in (w ++ x)) ≡ intervals_of (intervals_in w) ++ intervals_of (intervals_in x)
by_parts v w x m e = ap intervals_of (records_both w m e x) ∙ intervals_both (intervals_in w) (intervals_in x)

joined_parts :
    (v : Summary) (w x : List ℕ) (m : ℕ) → length w ≡ m * 48 → length (intervals_of (intervals_in w)) ≡ length (intervals_in w) →
    joined_of (joined_of v (behind v w)) (made_of v.label (v.after + length (intervals_in w)) (intervals_of (intervals_in x))) ≡ joined_of v (behind v (w ++ x))
unfolding made_of
joined_parts v w x m e many =
    join_assoc v (made_of v.label v.after (intervals_of (intervals_in w))) (made_of v.label (v.after + length (intervals_in w)) (intervals_of (intervals_in x))) same
    ∙ ap (λ k. joined_of v (joined_of (made_of v.label v.after (intervals_of (intervals_in w))) (made_of v.label (v.after + k) (intervals_of (intervals_in x))))) (sym many)
    ∙ ap (joined_of v) (sym (join_made v.label v.after (intervals_of (intervals_in w)) (intervals_of (intervals_in x))))
    ∙ ap (λ vs. joined_of v (made_of v.label v.after vs)) (sym (by_parts v w x m e))
  where
    same : v.label ≡ (made_of v.label v.after (intervals_of (intervals_in w))).label
    same = refl

grown_parts :
    (v : Summary) (w x : List ℕ) (m : ℕ) → length w ≡ m * 48 → length (intervals_of (intervals_in w)) ≡ length (intervals_in w) →
    grown (joined_of v (behind v w)) x
    ≡ held_if (checked (v.after + length (intervals_in w)) (v.after + length (intervals_in w)) (intervals_in x)) (joined_of v (behind v (w ++ x)))
unfolding grown joined_of made_of
grown_parts v w x m e many =
    ap (λ k. held_if (checked (v.after + k) (v.after + k) (intervals_in x)) (joined_of (joined_of v (behind v w)) (made_of v.label (v.after + k) (intervals_of (intervals_in x))))) many
    ∙ ap (held_if (checked (v.after + length (intervals_in w)) (v.after + length (intervals_in w)) (intervals_in x))) (joined_parts v w x m e many)

pub grown_both : (v : Summary) (w x : List ℕ) (m : ℕ) → length w ≡ m * 48 → Known v → grown_by (grown v w) x ≡ grown v (w ++ x)
unfolding grown
grown_both v w x m e k =
    by (checked v.after v.after (intervals_in w)) refl
    ∙ ap (λ c. held_if c (joined_of v (behind v (w ++ x))))
    (sym (ap (checked v.after v.after) (records_both w m e x) ∙ checked_both v.after v.after (intervals_in w) (intervals_in x)))
  where
    by :
        (c : Result (Unit {0}) Refusal) → checked v.after v.after (intervals_in w) ≡ c →
        grown_by (held_if c (joined_of v (behind v w))) x
        ≡ held_if (then_if c (checked (v.after + length (intervals_in w)) (v.after + length (intervals_in w)) (intervals_in x))) (joined_of v (behind v (w ++ x)))
    by (Ok tt) f = grown_parts v w x m e (part v k w f).many
    by (Err r) f = refl

pub held_both : (h : Held) (w x : List ℕ) (m : ℕ) → length w ≡ m * 48 → Growing h → grown_by (grown_by h w) x ≡ grown_by h (w ++ x)
unfolding Growing
held_both Held.Unset w x m e k = refl
held_both (Held.Sound v) w x m e k = grown_both v w x m e k
held_both (Held.Faulty r) w x m e k = refl

-- the bytes behind the last whole record make no difference to what is held
pub held_whole : (h : Held) (s : List ℕ) → grown_by h (whole_of s) ≡ grown_by h s
unfolding grown
held_whole Held.Unset s = refl
held_whole (Held.Sound v) s =
    ap (λ xs. held_if (checked v.after v.after xs) (joined_of v (made_of v.label v.after (intervals_of xs)))) same
  where
    same : intervals_in (whole_of s) ≡ intervals_in s
    same =
        sym (append-nil (intervals_in (whole_of s)))
        ∙ ap (λ xs. intervals_in (whole_of s) ++ xs) (sym (none_few (rest_of s) (rest_short s)))
        ∙ sym (ap intervals_in (cut s) ∙ records_both (whole_of s) (length s / 48) (whole_length s) (rest_of s))
held_whole (Held.Faulty r) s = refl

-- bytes behind whole records that were taken in
pub filled_behind : (h : Held) (w x : List ℕ) (m : ℕ) → length w ≡ m * 48 → Growing h → filled (grown_by h w) x ≡ filled h (w ++ x)
unfolding filled
filled_behind h w x m e k = λ i. record { held = held_both h w x m e k i; tail = sym (rest_second w m e x) i }

-- a piece behind a piece is both at once

filled_more : (h : Held) (s x : List ℕ) → Growing h → filled (grown_by h s) (rest_of s ++ x) ≡ filled h (s ++ x)
filled_more h s x k =
    ap (λ g. filled g (rest_of s ++ x)) (sym (held_whole h s))
    ∙ filled_behind h (whole_of s) (rest_of s ++ x) (length s / 48) (whole_length s) k
    ∙ ap (filled h) (sym (ap (λ l. l ++ x) (cut s) ∙ append_assoc (whole_of s) (rest_of s) x))

pub fed_more : (x : Standing) (p q : List ℕ) → Growing x.held → fed (fed x p) q ≡ fed x (p ++ q)
unfolding fed filled
fed_more x p q k = filled_more x.held (x.tail ++ p) q k ∙ ap (filled x.held) (append_assoc x.tail p q)

pub fed_behind :
    (x : Standing) (p : List ℕ) (pieces : List (List ℕ)) → Growing x.held → fed_all (fed x p) pieces ≡ fed x (p ++ joined pieces)
unfolding fed_all joined
fed_behind x p [] k = ap (fed x) (sym (append-nil p))
fed_behind x p (q ∷ pieces) k =
    ap (λ y. fed_all y pieces) (fed_more x p q k) ∙ fed_behind x (p ++ q) pieces k ∙ ap (fed x) (append_assoc p q (joined pieces))

-- from the start

first_valid : (settings : List ℕ) → Growing (begun settings).held
unfolding begun Growing AllValid
first_valid settings = by (settings_of settings) refl
  where
    by : (r : Option Settings) → settings_of settings ≡ r → Growing (begun_by r)
    by None e = tt
    by (Some v) e =
        record {
          bytes = summary_bytes (made_of v.label 0 []);
          read = made_reads_back v.label 0 [] (read_label settings v e) tt (omega arith);
        }

pub ready_first : (settings tail : List ℕ) → length tail ≡ 48 → Ready (begun settings) tail
unfolding begun
ready_first settings tail room = record { room = room; few = omega arith; valid = first_valid settings }

-- an empty summary at 0 grown by records is their summary
from_nothing : (l : LabelSettings) (s : List ℕ) → grown (made_of l 0 []) s ≡ held_if (checked 0 0 (intervals_in s)) (made_of l 0 (intervals_of (intervals_in s)))
unfolding grown made_of
from_nothing l s = ap (held_if (checked 0 0 (intervals_in s))) (sym (join_made l 0 [] (intervals_of (intervals_in s))))

pub fed_nothing : (settings tail : List ℕ) → fed (standing (begun settings) tail) [] ≡ standing (begun settings) tail
unfolding fed filled begun rest_of intervals_in read_each checked intervals_of
fed_nothing settings tail = by (settings_of settings)
  where
    by : (r : Option Settings) → ◌≡◌ {A = Standing} (record { held = grown_by (begun_by r) []; tail = [] }) (record { held = begun_by r; tail = [] })
    by None = refl
    by (Some v) = ap (λ h. record { held = h; tail = [] }) (from_nothing v.label [])

-- the length before any record
at_end :
    (l : LabelSettings) (s : List ℕ) (b : Bool) (n : ℕ) (c : Result (Unit {0}) Refusal) (v : Summary) → eqb n 0 ≡ b → gathered l 0 s ≡ good_if c v →
    finished_by (held_if c v) n ≡ gathered_count l (whole_if b (length s / 48)) true 0 s
unfolding intervals
at_end l s true n (Ok tt) v e f = rw e (sym f)
at_end l s false n (Ok tt) v e f = rw e
at_end l s true n (Err r) v e f = rw e (sym f)
at_end l s false n (Err r) v e f = rw e

rest_modulo : (s : List ℕ) → length (rest_of s) ≡ length s % 48
rest_modulo s = rest_length s ∙ sym (mod-eq-sub-div-mul (length s) 48)

pub fed_once : (settings tail s : List ℕ) → finished (fed (standing (begun settings) tail) s) ≡ made settings 0 s 1024 0
unfolding fed filled begun made has_room count_of gathered
fed_once settings tail s = by (settings_of settings)
  where
    by : (r : Option Settings) → finished_by (grown_by (begun_by r) s) (length (rest_of s)) ≡ gathered_settings r true 0 s
    by None = refl
    by (Some v) =
        ap (λ h. finished_by h (length (rest_of s))) (from_nothing v.label s)
        ∙ at_end v.label s (eqb (length s % 48) 0) (length (rest_of s)) (checked 0 0 (intervals_in s)) (made_of v.label 0 (intervals_of (intervals_in s)))
        (ap (λ n. eqb n 0) (rest_modulo s)) refl

all_at_once :
    (settings tail : List ℕ) (pieces : List (List ℕ)) → finished (fed_all (standing (begun settings) tail) pieces) ≡ made settings 0 (joined pieces) 1024 0
all_at_once settings tail pieces =
    ap (λ x. finished (fed_all x pieces)) (sym (fed_nothing settings tail))
    ∙ ap finished (fed_behind (standing (begun settings) tail) [] pieces (first_valid settings))
    ∙ fed_once settings tail (joined pieces)

steps_fed : {x z : State} {tail last : List ℕ} {pieces : List (List ℕ)} → Steps x tail pieces z last → standing z last ≡ fed_all (standing x tail) pieces
unfolding fed_all
steps_fed done = refl
steps_fed (next {pieces = pieces} e rest) = steps_fed rest ∙ ap (λ y. fed_all y pieces) e

-- what stands in the tail is as many bytes as the state says
standing_length : (x : State) (tail : List ℕ) → Ready x tail → length (standing x tail).tail ≡ x.left
standing_length x tail r = length-take-le x.left tail (omega (arith, r.room, r.few))

-- For every list of pieces, of any sizes: begun with the settings and fed one after the other, what is said at the end is what the operation
-- `summary` says of all their bytes.
pub fed_in_pieces :
    (settings tail : List ℕ) (pieces : List (List ℕ)) {x : State} {last : List ℕ} →
    Steps (begun settings) tail pieces x last → Ready x last → finished_by x.held x.left ≡ made settings 0 (joined pieces) 1024 0
fed_in_pieces settings tail pieces {x} {last} steps ready =
    ap (finished_by x.held) (sym (standing_length x last ready)) ∙ ap finished (steps_fed steps) ∙ all_at_once settings tail pieces
