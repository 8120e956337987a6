-- How a form ends, as the code has it. Assumes nothing.
use mathlib.Core.Path.{◌≡◌, refl}
use mathlib.Core.Bool.{true, false, and-true, false≢true}
use mathlib.Core.List.{List, [], ◌∷◌}
use Prim.Native.Char.{code}
use Prim.Native.Nat.{ℕ, ◌-◌, ◌*◌, ◌^◌, ◌<◌, min}
use native.Mathlib.Omega.{arith}
use borrow.Author.Tests.{ne_eqb}
use lib.Dec.{eqb}
use lib.ListN.{length, take, drop}
use lib.Pointwise.{pointwise}
use Rattle.std.specs.Prelude.{Some, None}
use Rattle.std.proofs.lemmas.List.{take_rest}
use Rattle.ion.specs.Pair.Fraction.{scale}
use Rattle.ion.specs.Calls.Stages.{with_fraction}
use Rattle.ion.specs.Text.ReadText.{digit_run, digits_value, end_offset, end_t, end_date, end_digits, end_second}
use Rattle.ion.specs.Value.ReadValue.{same}
use Rattle.ion.specs.declared.BuilderFields.{BuilderFields}
use Rattle.fraction.proofs.Capped.{scaled_low}
use Rattle.text_reader.proofs.Runs.{run_le}
use Rattle.text_reader.proofs.ExactDigits.{run_value}

-- ---- at once, or in a T

pub date_none : (f : BuilderFields) (r : List ℕ) → length r ≡ 0 → end_date f r ≡ Some f
unfolding end_date same
date_none f [] h = refl
date_none f (b ∷ r) h = absurd (omega arith)

pub date_some : (f : BuilderFields) (r : List ℕ) → (length r ≡ 0 → ⊥) → end_date f r ≡ end_t f r
unfolding end_date same
date_some f [] h = absurd (h refl)
date_some f (b ∷ r) h = refl

-- ---- a second, with a point or without

pub point_some : (f : BuilderFields) (r : List ℕ) → pointwise eqb (take 1 r) (code "." ∷ []) ≡ true
    → end_second f r ≡ end_digits f (drop 1 r)
unfolding end_second
point_some f [] e = absurd (false≢true e)
point_some f (b ∷ r) e = rw (rw and-true at e)

pub point_none : (f : BuilderFields) (r : List ℕ) → pointwise eqb (take 1 r) (code "." ∷ []) ≡ false → end_second f r ≡ end_offset f r
unfolding end_second
point_none f [] e = refl
point_none f (b ∷ r) e = rw (rw and-true at e)

-- ---- n digits, of which the first 18 make v

module _ (f : BuilderFields) (r : List ℕ) (n v : ℕ) (c : n ≡ digit_run r) (p : v ≡ digits_value (min (digit_run r) 18) r) where
  pub digits_none : n ≡ 0 → end_digits f r ≡ None
  unfolding end_digits
  digits_none e = rw (← c, e)

  pub digits_fit : v * scale (min n 19) < 10 ^ 18
  digits_fit =
      let e : min (min n 19) 18 ≡ min (digit_run r) 18 = omega (arith, c) in
      scaled_low v (min n 19) (rw (e, p) (run_value (min (digit_run r) 18) r (omega arith)).0)

  pub digits_some : (n ≡ 0 → ⊥)
      → end_digits f r ≡ end_offset (with_fraction f (record { attoseconds = v * scale (min n 19); digits = min n 19 })) (drop n r)
  unfolding end_digits
  digits_some h =
      let k : 18 - min n 19 ≡ 18 - min n 18 = omega arith in
      rw (← c, ne_eqb n 0 h, k, p, ← c)

-- ---- lists of laws, for the code

pub ruleset dates = (date_none, date_some)

pub ruleset points = (point_some, point_none)

pub ruleset fractions = (digits_none, digits_fit, digits_some, run_le, take_rest)
