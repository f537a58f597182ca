-- Three summaries that are read, of equal settings and each right behind the one before, fit together: their tracks meet the rules, and they are no more
-- intervals than there are.
-- Assumes nothing.
use mathlib.Core.Path.{◌≡◌, refl, ap, sym, ◌∙◌, subst}
use mathlib.Core.List.{List}
use Prim.Native.Nat.{ℕ, ◌+◌, ◌-◌, ◌<◌, ◌≤◌}
use native.Mathlib.Omega.{arith}
use Rattle.std.specs.Prelude.{Option, Some, None}
use Rattle.numbers.specs.Limits.{intervals}
use Rattle.settings.specs.declared.LabelSettings.{LabelSettings}
use Rattle.tracks.specs.declared.Track.{Track}
use Rattle.tracks.specs.Tracks.{join, quiet, count_in}
use Rattle.tracks.specs.Valid.{TrackValid, JoinFits, TrackFits}
use Rattle.tracks.proofs.Keeping.{join_valid, quiet_valid}
use Rattle.tracks.proofs.Serving.{count_valid}
use Rattle.summaries.specs.Stored.{summary_of}
use Rattle.summaries.proofs.Validity.{SummaryValid, summary_valid}
use Rattle.periods.specs.Between.{BetweenFits}
use Rattle.periods.specs.Stretches.{held_if, stretch_of, Known, stretch_held, first_held, after_held, label_held}
use Rattle.periods.specs.declared.Stretch.{Stretch}
use Rattle.summaries.specs.declared.Summary.{Summary}

-- what is read is a summary that meets every rule

held_by : (s : List ℕ) (a : Stretch) (r : Option Summary) → summary_of s ≡ r → held_if r ≡ Some a → SummaryValid a.held
held_by s a (Some v) f g = let e : ◌≡◌ {A = Stretch} (record { held = v }) a = cc in summary_valid s a.held (f ∙ ap (λ x. Some x.held) e)
held_by s a None f g = let z : ◌≡◌ {A = ℕ} 0 1 = cc in absurd (omega arith)

pub held_valid : (s : List ℕ) (a : Stretch) → stretch_of s ≡ Some a → SummaryValid a.held
held_valid s a e = held_by s a (summary_of s) refl (sym (stretch_held s) ∙ e)

-- the rules are over the settings of the middle one

pub record Three (a b c : Stretch) : Type 0 where
  pub left : SummaryValid a.held
  pub middle : SummaryValid b.held
  pub right : SummaryValid c.held
  pub left_settings : a.held.label ≡ b.held.label
  pub right_settings : c.held.label ≡ b.held.label
  pub left_numbers : a.held.after ≡ b.held.first
  pub right_numbers : b.held.after ≡ c.held.first

pub known_three : (a b c : Stretch) → Known a b c → Three a b c
known_three a b c h =
    record {
      left = held_valid h.read.left_bytes a h.read.left;
      middle = held_valid h.read.middle_bytes b h.read.middle;
      right = held_valid h.read.right_bytes c h.read.right;
      left_settings = sym (label_held a) ∙ h.left_settings ∙ label_held b;
      right_settings = sym (label_held c) ∙ sym h.right_settings ∙ label_held b;
      left_numbers = sym (after_held a) ∙ h.left_numbers ∙ first_held b;
      right_numbers = sym (after_held b) ∙ h.right_numbers ∙ first_held c;
    }

module _ (a b c : Stretch) (t : Three a b c) where
  fits_by :
      (l : LabelSettings) (x y z : Track) → TrackValid l.n l.p (a.held.after - a.held.first) x → TrackValid l.n l.p (b.held.after - b.held.first) y →
      TrackValid l.n l.p (c.held.after - c.held.first) z → BetweenFits l.n l.p x y z
  fits_by l x y z left middle right =
      record {
        i = a.held.after - a.held.first;
        j = b.held.after - b.held.first;
        k = c.held.after - c.held.first;
        left = left;
        middle = middle;
        right = right;
        room = omega (arith, t.left.ordered, t.middle.ordered, t.right.ordered, t.right.within, t.left_numbers, t.right_numbers);
      }

  pub loss_fits : BetweenFits b.held.label.n b.held.label.p a.held.loss b.held.loss c.held.loss
  loss_fits =
      fits_by b.held.label a.held.loss b.held.loss c.held.loss
      (subst (λ l. TrackValid l.n l.p (a.held.after - a.held.first) a.held.loss) t.left_settings t.left.loss) t.middle.loss
      (subst (λ l. TrackValid l.n l.p (c.held.after - c.held.first) c.held.loss) t.right_settings t.right.loss)

  pub composite_fits : BetweenFits b.held.label.n b.held.label.p a.held.composite b.held.composite c.held.composite
  composite_fits =
      fits_by b.held.label a.held.composite b.held.composite c.held.composite
      (subst (λ l. TrackValid l.n l.p (a.held.after - a.held.first) a.held.composite) t.left_settings t.left.composite) t.middle.composite
      (subst (λ l. TrackValid l.n l.p (c.held.after - c.held.first) c.held.composite) t.right_settings t.right.composite)

  -- no more is counted than there is
  pub count_fits : count_in b.held.loss ≤ b.held.after - b.held.first
  count_fits = count_valid b.held.label.n b.held.label.p (b.held.after - b.held.first) b.held.loss t.middle.loss

  pub count_small : count_in b.held.loss < 4294967296
  unfolding intervals
  count_small = omega (arith, count_fits, t.middle.within)

-- and so do the joins of those at the sides, in maintenance, with the middle one

module _ (n p : ℕ) (a b c : Track) (f : BetweenFits n p a b c) where
  pub left_fits : JoinFits n p (quiet a) b
  left_fits = record { i = f.i; j = f.j; left = quiet_valid n p f.i a f.left; right = f.middle; room = omega (arith, f.room) }

  pub left_valid : TrackValid n p (f.i + f.j) (join n p (quiet a) b)
  left_valid = join_valid n p f.i f.j (quiet a) b (quiet_valid n p f.i a f.left) f.middle

  pub right_fits : JoinFits n p (join n p (quiet a) b) (quiet c)
  right_fits = record { i = f.i + f.j; j = f.k; left = left_valid; right = quiet_valid n p f.k c f.right; room = f.room }

  pub all_valid : TrackValid n p (f.i + f.j + f.k) (join n p (join n p (quiet a) b) (quiet c))
  all_valid = join_valid n p (f.i + f.j) f.k (join n p (quiet a) b) (quiet c) left_valid (quiet_valid n p f.k c f.right)

  pub all_fits : TrackFits n p (join n p (join n p (quiet a) b) (quiet c))
  all_fits = record { i = f.i + f.j + f.k; valid = all_valid; room = f.room }
