-- Each rule of a valid frame as a fact, taken out of the list of rules by its place.
-- Assumes nothing.
use mathlib.Core.Path.{◌≡◌, refl, subst}
use mathlib.Core.Bool.{Bool, true, false, not, ◌||◌}
use mathlib.Core.List.{List}
use Prim.Native.Nat.{ℕ, ◌≤◌}
use lib.Dec.{eqb}
use borrow.Author.Tests.{leb-true, eqb-true}
use Rattle.std.specs.Prelude.{Some}
use Rattle.numbers.specs.Limits.{largest_delay}
use Rattle.numbers.specs.Rules.{all_met}
use Rattle.numbers.proofs.Rules.{rule_met}
use Rattle.frames.specs.Frame.{frame_in, frame_rules, frame_of, valid_if}
use Rattle.frames.specs.declared.Frame.{Frame}

pub record FrameValid (f : Frame) : Type 0 where
  pub delay_fact : f.delay ≤ largest_delay
  pub lost_fact : f.lost ≡ true → f.delay ≡ 0

no_delay : (lost : Bool) (d : ℕ) → not lost || eqb d 0 ≡ true → lost ≡ true → d ≡ 0
no_delay true d h e = eqb-true d 0 h
no_delay false d h e = absurd cc

taken_out : (t : Bool) (w v : Frame) → valid_if t w ≡ Some v → (t ≡ true) × (w ≡ v)
taken_out true w v e = (refl, (cc))
taken_out false w v e = absurd cc

pub frame_valid : (s : List ℕ) (f : Frame) → frame_of s ≡ Some f → FrameValid f
unfolding frame_of frame_rules
frame_valid s f e =
    let r = taken_out (all_met (frame_rules s)) (frame_in s) f e in
    subst (λ w. FrameValid w) r.1
    record {
      delay_fact = leb-true (frame_in s).delay largest_delay (rule_met (frame_rules s) 1 r.0);
      lost_fact = no_delay (frame_in s).lost (frame_in s).delay (rule_met (frame_rules s) 4 r.0);
    }
