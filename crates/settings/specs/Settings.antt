-- The settings record of document 01, 64 bytes.
use Rattle.std.specs.Prelude.{ℕ, Bool, true, false, ◌&&◌, ◌||◌, not, List, [], ◌∷◌, ◌++◌, length, get_or, leb, ltb, eqb, Option, Some, None}
use Rattle.numbers.specs.Bytes.{number_at, bytes_of}
use Rattle.numbers.specs.Limits.{largest_delay, million}
use Rattle.numbers.specs.Rules.{all_met, within}
use Rattle.settings.specs.declared.LabelSettings.{LabelSettings}
use Rattle.settings.specs.declared.Settings.{Settings}

-- where each value stands

unfoldable pub label_in : List ℕ → LabelSettings
label_in s =
    record {
      length = number_at 4 s 0;
      n = get_or s 4 0;
      p = get_or s 5 0;
      weights = get_or s 6 0;
      c = number_at 4 s 8;
      u = number_at 4 s 12;
      dl = number_at 4 s 16;
      jt = number_at 4 s 20;
    }

unfoldable pub objectives_in : LabelSettings → List ℕ → Settings
objectives_in l s =
    record {
      label = l;
      availability = number_at 4 s 24;
      composite = number_at 4 s 28;
      loss = number_at 4 s 32;
      mean = number_at 4 s 36;
      high = number_at 4 s 40;
      runs = number_at 4 s 44;
      percentile = number_at 4 s 48;
      delay = number_at 4 s 52;
      range = number_at 4 s 56;
    }

-- the rules, a line each

unfoldable pub label_rules : LabelSettings → List Bool
label_rules l =
    within 100 60000 l.length
    ∷ within 1 64 l.n
    ∷ (eqb l.p 0 || (leb 2 l.p && ltb l.p l.n))
    ∷ within 1 7 l.weights
    ∷ (leb 1 l.c && ltb l.c million)
    ∷ (leb 1 l.u && ltb l.u million)
    ∷ leb l.dl largest_delay
    ∷ leb l.jt largest_delay
    ∷ []

unfoldable pub objective_rules : Settings → List Bool
objective_rules v =
    leb v.availability million
    ∷ leb v.composite million
    ∷ leb v.loss million
    ∷ leb v.mean largest_delay
    ∷ (not (eqb v.label.p 0) || eqb v.runs 0)
    ∷ within 1 million v.percentile
    ∷ leb v.delay largest_delay
    ∷ leb v.range largest_delay
    ∷ []

unfoldable pub label_meets : LabelSettings → Bool
label_meets l = all_met (label_rules l)

unfoldable pub objectives_meet : Settings → Bool
objectives_meet v = all_met (objective_rules v)

-- byte 7 and the four bytes from 60 are spare
unfoldable pub settings_rules : List ℕ → List Bool
settings_rules s =
    eqb (length s) 64
    ∷ label_meets (label_in s)
    ∷ objectives_meet (objectives_in (label_in s) s)
    ∷ eqb (get_or s 7 0) 0
    ∷ eqb (number_at 4 s 60) 0
    ∷ []

abbrev pub valid_if : Bool → Settings → Option Settings
valid_if true v = Some v
valid_if false v = None

-- what the bytes say, if they meet every rule
unfoldable pub settings_of : List ℕ → Option Settings
settings_of s = valid_if (all_met (settings_rules s)) (objectives_in (label_in s) s)

-- two label settings are the same
unfoldable pub same_fields : LabelSettings → LabelSettings → List Bool
same_fields a b =
    eqb a.length b.length
    ∷ eqb a.n b.n
    ∷ eqb a.p b.p
    ∷ eqb a.weights b.weights
    ∷ eqb a.c b.c
    ∷ eqb a.u b.u
    ∷ eqb a.dl b.dl
    ∷ eqb a.jt b.jt
    ∷ []

unfoldable pub same_label : LabelSettings → LabelSettings → Bool
same_label a b = all_met (same_fields a b)

-- the 24 bytes of label settings; byte 7 is spare

unfoldable pub shape_bytes : LabelSettings → List ℕ
shape_bytes l = bytes_of 4 l.length ++ (l.n ∷ l.p ∷ l.weights ∷ 0 ∷ [])

unfoldable pub threshold_bytes : LabelSettings → List ℕ
threshold_bytes l = bytes_of 4 l.c ++ (bytes_of 4 l.u ++ (bytes_of 4 l.dl ++ bytes_of 4 l.jt))

unfoldable pub label_bytes : LabelSettings → List ℕ
label_bytes l = shape_bytes l ++ threshold_bytes l
