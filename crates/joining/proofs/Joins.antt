-- The join of two adjoining summaries is a valid summary, so what `join` writes reads back, and is joined again; two byte lists that are valid,
-- adjoining and of equal settings are never refused where there is room; and the order in which three are joined does not tell.
-- Assumes nothing.
use mathlib.Core.Path.{◌≡◌, ap, sym, ◌∙◌, subst}
use mathlib.Core.Bool.{true}
use mathlib.Core.List.{List}
use Prim.Native.Nat.{ℕ, ◌+◌, ◌-◌}
use native.Mathlib.Omega.{arith}
use lib.ListN.{length}
use borrow.Author.Tests.{eq-eqb}
use Rattle.std.specs.Prelude.{Some, Result, Ok}
use Rattle.numbers.specs.Bytes.{placed}
use Rattle.numbers.specs.Room.{has_room}
use Rattle.numbers.specs.declared.refusal.Fault.{Fault}
use Rattle.settings.specs.Settings.{same_label}
use Rattle.settings.proofs.SettingsRecord.{same_label_self}
use Rattle.tracks.specs.Tracks.{join, count_in}
use Rattle.tracks.specs.Valid.{TrackValid}
use Rattle.tracks.specs.declared.Track.{Track}
use Rattle.tracks.proofs.Joining as tracks
use Rattle.tracks.proofs.Keeping as keeping
use Rattle.tracks.proofs.Serving.{count_join}
use Rattle.summaries.specs.Stored.{summary_of, summary_bytes}
use Rattle.summaries.specs.declared.Summary.{Summary}
use Rattle.summaries.proofs.RoundTrip.{read_write, read_whole}
use Rattle.summaries.proofs.Validity.{SummaryValid, summary_valid}
use Rattle.joining.specs.Joining.{joined_of, Adjoining, good, unless, judged, answer_of, left_of, Outcome}
use Rattle.numbers.specs.declared.refusal.Refusal.{Refusal}

-- a join is valid

module _ (a b : Summary) (h : Adjoining a b) where
  left_valid : SummaryValid a
  left_valid = summary_valid h.left_bytes a h.left

  right_valid : SummaryValid b
  right_valid = summary_valid h.right_bytes b h.right

  both_lengths : (a.after - a.first) + (b.after - b.first) ≡ b.after - a.first
  both_lengths = omega (arith, h.numbers, left_valid.ordered, right_valid.ordered)

  track_joined :
      (x y : Track) →
      TrackValid a.label.n a.label.p (a.after - a.first) x → TrackValid b.label.n b.label.p (b.after - b.first) y →
      TrackValid a.label.n a.label.p (b.after - a.first) (join a.label.n a.label.p x y)
  track_joined x y v w =
      subst (λ k. TrackValid a.label.n a.label.p k (join a.label.n a.label.p x y)) both_lengths
      (keeping.join_valid a.label.n a.label.p (a.after - a.first) (b.after - b.first) x y v
      (subst (λ l. TrackValid l.n l.p (b.after - b.first) y) (sym h.settings) w))

  counts_joined :
      count_in (join a.label.n a.label.p a.loss b.loss) ≡ count_in (join a.label.n a.label.p a.composite b.composite)
  counts_joined =
      rw (count_join a.label.n a.label.p a.loss b.loss, count_join a.label.n a.label.p a.composite b.composite, left_valid.counts, right_valid.counts)

  pub join_valid : SummaryValid (joined_of a b)
  unfolding joined_of
  join_valid =
      record {
        ordered = omega (arith, h.numbers, left_valid.ordered, right_valid.ordered);
        within = right_valid.within;
        settings = left_valid.settings;
        loss = track_joined a.loss b.loss left_valid.loss right_valid.loss;
        composite = track_joined a.composite b.composite left_valid.composite right_valid.composite;
        counts = counts_joined;
      }

  pub join_reads_back : summary_of (summary_bytes (joined_of a b)) ≡ Some (joined_of a b)
  join_reads_back = read_write (joined_of a b) join_valid

-- what is joined is joined again

pub join_adjoins_right : (a b c : Summary) → Adjoining a b → Adjoining b c → Adjoining (joined_of a b) c
unfolding joined_of
join_adjoins_right a b c h k =
    record {
      left_bytes = summary_bytes (joined_of a b);
      right_bytes = k.right_bytes;
      left = join_reads_back a b h;
      right = k.right;
      settings = h.settings ∙ k.settings;
      numbers = k.numbers;
    }

pub join_adjoins_left : (a b c : Summary) → Adjoining a b → Adjoining b c → Adjoining a (joined_of b c)
unfolding joined_of
join_adjoins_left a b c h k =
    record {
      left_bytes = h.left_bytes;
      right_bytes = summary_bytes (joined_of b c);
      left = h.left;
      right = join_reads_back b c k;
      settings = h.settings;
      numbers = h.numbers;
    }

-- never refused

module _ (left right : List ℕ) (a b : Summary) (read_left : summary_of left ≡ Some a) (read_right : summary_of right ≡ Some b)
    (settings : a.label ≡ b.label) (numbers : a.after ≡ b.first) where
  same : same_label a.label b.label ≡ true
  same = subst (λ l. same_label a.label l ≡ true) settings (same_label_self a.label)

  judged_good : (len at : ℕ) → judged left right len at ≡ unless (has_room len at 1024) Fault.Room 0 (good (joined_of a b))
  unfolding judged
  judged_good len at =
      rw (eq-eqb (length left) 1024 (read_whole left a read_left), eq-eqb (length right) 1024 (read_whole right b read_right), read_left, read_right, same, eq-eqb a.after b.first numbers)

  pub never_refused : (len at : ℕ) → has_room len at 1024 ≡ true → judged left right len at ≡ good (joined_of a b)
  never_refused len at room = judged_good len at ∙ ap (λ t. unless t Fault.Room 0 (good (joined_of a b))) room

  -- so the operation writes the join
  pub always_written :
      (out : List ℕ) (at : ℕ) {answer : (Result (Unit {0}) Refusal)} {after : List ℕ} →
      has_room (length out) at 1024 ≡ true → Outcome left right out at answer after →
      (answer ≡ Ok tt) × (after ≡ placed out at (summary_bytes (joined_of a b)))
  always_written out at room o =
      let e = never_refused (length out) at room in
      (o.answered ∙ ap answer_of e, o.left_in ∙ ap (λ j. left_of j out at) e)

-- three summaries, joined from either end

one_order :
    (n p m q : ℕ) → n ≡ m → p ≡ q → (x y z : Track) → join n p (join n p x y) z ≡ join n p x (join m q y z)
one_order n p m q e f x y z = tracks.join_assoc n p x y z ∙ ap (λ k. join n p x (join k p y z)) e ∙ ap (λ k. join n p x (join m k y z)) f

pub join_assoc : (a b c : Summary) → a.label ≡ b.label → joined_of (joined_of a b) c ≡ joined_of a (joined_of b c)
unfolding joined_of
join_assoc a b c e =
    let order = one_order a.label.n a.label.p b.label.n b.label.p (ap (λ l. l.n) e) (ap (λ l. l.p) e) in
    λ i.
    record {
      first = a.first;
      after = c.after;
      label = a.label;
      loss = order a.loss b.loss c.loss i;
      composite = order a.composite b.composite c.composite i;
    }

-- in bytes: the join of the first two with the third, and of the first with the join of the others, are judged alike
pub any_order :
    (a b c : Summary) (h : Adjoining a b) (k : Adjoining b c) (len at : ℕ) →
    judged (summary_bytes (joined_of a b)) k.right_bytes len at ≡ judged h.left_bytes (summary_bytes (joined_of b c)) len at
unfolding join_adjoins_right join_adjoins_left
any_order a b c h k len at =
    by_values (joined_of a b) c (join_adjoins_right a b c h k)
    ∙ ap (λ v. unless (has_room len at 1024) Fault.Room 0 (good v)) (join_assoc a b c h.settings)
    ∙ sym (by_values a (joined_of b c) (join_adjoins_left a b c h k))
  where
    by_values : (x y : Summary) (j : Adjoining x y) → judged j.left_bytes j.right_bytes len at ≡ unless (has_room len at 1024) Fault.Room 0 (good (joined_of x y))
    by_values x y j = judged_good j.left_bytes j.right_bytes x y j.left j.right j.settings j.numbers len at
