-- What `judged_frames` says where the frames are taken, and that no time outgrows its type; the other ways out are cases of the definition.
-- Assumes nothing.
use mathlib.Core.Path.{◌≡◌, refl, ap, sym, ◌∙◌}
use mathlib.Core.Bool.{Bool}
use mathlib.Core.List.{List}
use Prim.Native.Nat.{ℕ, ◌+◌, ◌*◌, ◌≤◌, ◌<◌, ◌^◌}
use native.Mathlib.Nat.{suc-mul, mul-le-mul_right}
use native.Mathlib.Numerals.{add-one}
use native.Mathlib.Omega.{arith}
use lib.ListN.{length}
use lib.Dec.{eqb}
use borrow.Author.Tests.{le-ltb, lt-leb}
use Rattle.std.specs.Prelude.{Result, Ok, Err}
use Rattle.numbers.specs.Limits.{intervals, frames}
use Rattle.numbers.specs.declared.refusal.Refusal.{Refusal}
use Rattle.settings.specs.declared.LabelSettings.{LabelSettings}
use Rattle.intervals.specs.declared.Interval.{Interval}
use Rattle.measure.specs.Outcome.{Frames, sound, faulty, frames_in, reads_from, length_of, judged_of, judged_frames, Outcome}
use Rattle.settings.proofs.SettingsRecord.{settings_valid}
use Rattle.numbers.proofs.Window.{room_within, part_placed}
use Rattle.intervals.proofs.IntervalRecord.{length_interval}
use Rattle.measure.specs.Running.{nothing, finished, taken_of}
use Rattle.measure.proofs.Tallies.{tally_measured}
use Rattle.measure.specs.declared.Tally.{Tally}

-- the interval of a tally
abbrev pub of_taken : ℕ → Bool → Result Tally Refusal → Result Interval Refusal
of_taken number maintenance (Ok t) = Ok (finished number maintenance t)
of_taken number maintenance (Err r) = Err r

taken_judged :
    (l : LabelSettings) (number : ℕ) (maintenance : Bool) (fs : Frames) → of_taken number maintenance (taken_of l.dl l.jt nothing fs) ≡ judged_of l number maintenance fs
taken_judged l number maintenance (sound fs) = ap Ok (tally_measured l number maintenance fs)
taken_judged l number maintenance (faulty r) = refl

-- the tally of the frames of interval `number`, whose times are from its start to before its end
abbrev taken_in : LabelSettings → ℕ → ℕ → List ℕ → Result Tally Refusal
taken_in l n number s =
    taken_of l.dl l.jt nothing (frames_in (number * (l.length * 1000000)) (number * (l.length * 1000000) + l.length * 1000000) 0 0 (reads_from n s 0))

module _ (l : LabelSettings) (n number maintenance : ℕ) (s : List ℕ) (few : n ≤ frames) (known : number < intervals) (flag : maintenance ≤ 1) where
  judged_taken : judged_frames l n number maintenance s ≡ of_taken number (eqb maintenance 1) (taken_in l n number s)
  unfolding judged_frames length_of
  judged_taken =
      let to : (number + 1) * (l.length * 1000000) ≡ number * (l.length * 1000000) + l.length * 1000000 =
      ap (λ k. k * (l.length * 1000000)) (add-one number) ∙ suc-mul number (l.length * 1000000) in
      rw (le-ltb frames n few, lt-leb intervals number known, le-ltb 1 maintenance flag, to) (sym (taken_judged l number (eqb maintenance 1) _))

  pub judged_sound : (t : Tally) → taken_in l n number s ≡ Ok t → judged_frames l n number maintenance s ≡ Ok (finished number (eqb maintenance 1) t)
  judged_sound t e = judged_taken ∙ ap (of_taken number (eqb maintenance 1)) e

  pub judged_faulty : (r : Refusal) → taken_in l n number s ≡ Err r → judged_frames l n number maintenance s ≡ Err r
  judged_faulty r e = judged_taken ∙ ap (of_taken number (eqb maintenance 1)) e

-- the end of every interval is a time that fits
pub end_fits : (length number : ℕ) → length ≤ 60000 → number < intervals → number * (length * 1000000) + length * 1000000 < 2 ^ 63
unfolding intervals
end_fits length number h known =
    let a : number * (length * 1000000) ≤ 3000000 * (length * 1000000) = mul-le-mul_right (length * 1000000) (omega arith) in
    omega arith

-- what `judge` needs beside the definition of `judged_frames`
pub ruleset judged_steps = (judged_sound, judged_faulty, end_fits)

-- what `interval` needs beside the definition of `judged`: its settings are valid, and the part that has room is filled whole
pub ruleset written_whole = (settings_valid, room_within, length_interval, part_placed)

-- two results that the contract allows are one
pub outcomes_coincide :
    {settings s : List ℕ} {number maintenance : ℕ} {out : List ℕ} {at : ℕ} {a b : (Result (Unit {0}) Refusal)} {x y : List ℕ} →
    Outcome settings s number maintenance out at a x → Outcome settings s number maintenance out at b y → (a ≡ b) × (x ≡ y)
outcomes_coincide p q = (p.answered ∙ sym q.answered, p.left ∙ sym q.left)
