-- The five forms of a text, and the lengths of a text and of its parts; none is longer than 44 bytes. Assumes nothing.
use mathlib.Core.Path.{◌≡◌, refl}
use mathlib.Core.Bool.{Bool, true, false, cond}
use mathlib.Core.List.{List, ◌++◌}
use Prim.Native.Char.{code}
use Prim.Native.Nat.{ℕ, zero, suc, ◌+◌, ◌/◌, ◌%◌, ◌^◌, ◌≤◌, ◌<◌}
use native.Mathlib.Omega.{arith}
use borrow.Author.Tests.{ne_eqb}
use lib.Dec.{lit≤, eqb}
use lib.IntN.{ℤ, pos, negsuc, nat_abs}
use lib.ListN.{length, length-append}
use Rattle.ion.specs.Text.Ascii.{ascii}
use Rattle.ion.specs.Numbers.Padded.{padded}
use Rattle.ion.specs.Pair.Offset.{WithinDay, offset_of}
use Rattle.ion.specs.Pair.Fraction.{scale}
use Rattle.ion.specs.Pair.Word.{InRange}
use Rattle.ion.specs.Calls.Accepted.{Valid}
use Rattle.ion.specs.Text.Format.{marked, fraction_text, clock_text, minutes_text, offset_text, fields_text}
use Rattle.ion.specs.declared.Fields.{Fields}
use Rattle.std.specs.Prelude.{Option, None, Some}
use Rattle.ion.specs.declared.offset.OffsetMinutes.{OffsetMinutes}
use Rattle.ion.proofs.Offsets.{back_within}
use Rattle.output.proofs.Stores.{put_refused}
use Rattle.output.proofs.Runs.{run_none, run_two}
use Rattle.text.proofs.Digits.{length_exact, count_most}
use Rattle.fraction.proofs.Scales.{scale_pos, units_lt}
use Rattle.timestamp.proofs.Valid.{valid_in_range, valid_offset}
use Rattle.timestamp_text.specs.TextParts.{to_month, to_day, to_hour, to_minute, to_second, to_fraction, fraction_length, text_length}

-- ---- the forms, as the tests of the precision tell them apart

module _ (f : Fields) (a : ℕ) where
  pub year_form : f.precision ≡ 0 → fields_text f a ≡ padded 4 f.year ++ ascii "T"
  unfolding fields_text
  year_form e = rw e

  pub month_form : f.precision ≡ 1 → fields_text f a ≡ to_month f ++ ascii "T"
  unfolding fields_text
  month_form e = rw e

  pub day_form : f.precision ≡ 2 → fields_text f a ≡ to_day f ++ ascii "T"
  unfolding fields_text
  day_form e = rw e

  pub minute_form : f.precision ≡ 3 → fields_text f a ≡ to_minute f ++ offset_text (offset_of f.offset)
  unfolding fields_text
  minute_form e = rw e

  pub second_form : (f.precision ≡ 0 → ⊥) → (f.precision ≡ 1 → ⊥) → (f.precision ≡ 2 → ⊥) → (f.precision ≡ 3 → ⊥)
      → fields_text f a ≡ to_fraction f a ++ offset_text (offset_of f.offset)
  unfolding fields_text
  second_form e₀ e₁ e₂ e₃ =
      rw (ne_eqb f.precision 0 e₀, ne_eqb f.precision 1 e₁, ne_eqb f.precision 2 e₂, ne_eqb f.precision 3 e₃)

-- ---- parts

pub length_marked : (c n : ℕ) → n < 100 → length (marked c n) ≡ 3
unfolding marked
length_marked c n h = omega (arith, length_exact 2 n (lit≤ tt) h)

-- what stands in front of a mark and two digits, with them
length_front : (s : List ℕ) (c n k : ℕ) → length s ≡ k → n < 100 → length (s ++ marked c n) ≡ k + 3
length_front s c n k e h = omega (arith, length-append s (marked c n), length_marked c n h)

pub length_fraction : (d a : ℕ) → d ≤ 18 → a < 10 ^ 18 → length (fraction_text d a) ≡ fraction_length d
unfolding fraction_text
length_fraction zero a h m = refl
length_fraction (suc n) a h m =
    let d = suc n in
    rw (ne_eqb d 0 (omega arith)) (omega (arith, length_exact d (a / scale d) (omega arith) (units_lt d a h m)))

length_clock : (n : ℕ) → n < 1440 → length (clock_text n) ≡ 5
unfolding clock_text
length_clock n h = length_front (padded 2 (n / 60)) (code ":") (n % 60) 2 (length_exact 2 (n / 60) (lit≤ tt) (omega arith)) (omega arith)

length_minutes : (z : ℤ) → nat_abs z < 1440 → length (minutes_text z) ≡ 6
unfolding minutes_text
length_minutes (pos zero) h = refl
length_minutes (pos (suc n)) h = omega (arith, length_clock (suc n) h)
length_minutes (negsuc n) h = omega (arith, length_clock (suc n) h)

pub length_offset : (o : Option OffsetMinutes) → WithinDay o → length (offset_text o) ≡ 6
unfolding offset_text
length_offset None h = refl
length_offset (Some m) h = length_minutes m.0 h

-- ---- up to each field

module _ (f : Fields) (y : f.year ≤ 9999) (r : InRange f) where
  pub length_year : length (padded 4 f.year) ≡ 4
  length_year = length_exact 4 f.year (lit≤ tt) (omega arith)

  pub length_month : length (to_month f) ≡ 7
  length_month = length_front (padded 4 f.year) (code "-") f.month 4 length_year (omega arith)

  pub length_day : length (to_day f) ≡ 10
  length_day = length_front (to_month f) (code "-") f.day 7 length_month (omega arith)

  length_hour : length (to_hour f) ≡ 13
  length_hour = length_front (to_day f) (code "T") f.hour 10 length_day (omega arith)

  pub length_minute : length (to_minute f) ≡ 16
  length_minute = length_front (to_hour f) (code ":") f.minute 13 length_hour (omega arith)

-- ---- the whole

pub length_second : (f : Fields) (a : ℕ) → Valid f a → length (to_fraction f a) ≡ 19 + fraction_length f.digits
length_second f a v =
    let s = length_front (to_minute f) (code ":") f.second 16 (length_minute f v.to_year (valid_in_range v)) (omega arith) in
    omega (arith, length-append (to_second f) (fraction_text f.digits a), length_fraction f.digits a v.digits v.attoseconds)

either : (t : Bool) (a b : List ℕ) (m n : ℕ) → length a ≡ m → length b ≡ n → length (cond t a b) ≡ cond t m n
either true a b m n h k = h
either false a b m n h k = k

pub length_text : (f : Fields) (a : ℕ) → Valid f a → length (fields_text f a) ≡ text_length f.precision f.digits
unfolding fields_text
length_text f a v =
    let p = f.precision in
    let r = valid_in_range v in
    let y = length_year f v.to_year r in
    let mo = length_month f v.to_year r in
    let d = length_day f v.to_year r in
    let mi = length_minute f v.to_year r in
    let s = length_second f a v in
    let w = offset_text (offset_of f.offset) in
    let o = length_offset (offset_of f.offset) (valid_offset v) in
    either (eqb p 0) _ _ 5 _ (omega (arith, length-append (padded 4 f.year) (ascii "T")))
    (either (eqb p 1) _ _ 8 _ (omega (arith, length-append (to_month f) (ascii "T")))
    (either (eqb p 2) _ _ 11 _ (omega (arith, length-append (to_day f) (ascii "T")))
    (either (eqb p 3) _ _ 22 _ (omega (arith, length-append (to_minute f) w))
    (omega (arith, length-append (to_fraction f a) w)))))

-- whatever the precision, and up to eighteen digits
most : (t : Bool) (m n k : ℕ) → m ≤ k → n ≤ k → cond t m n ≤ k
most true m n k h l = h
most false m n k h l = l

pub longest : (f : Fields) (a : ℕ) → Valid f a → length (fields_text f a) ≤ 44
longest f a v =
    let p = f.precision in
    let d = f.digits in
    let x = most (eqb d 0) 0 (1 + d) 19 (omega arith) (omega (arith, v.digits)) in
    rw (length_text f a v)
    (most (eqb p 0) 5 _ 44 (lit≤ tt)
    (most (eqb p 1) 8 _ 44 (lit≤ tt)
    (most (eqb p 2) 11 _ 44 (lit≤ tt) (most (eqb p 3) 22 _ 44 (lit≤ tt) (omega arith)))))

-- ---- lists of laws, for the code

-- what was put has these lengths
pub ruleset lengths = (length_exact, length_marked, length-append)

pub ruleset seconds = (length_exact, length_marked, length-append, length_fraction, valid_in_range)

pub ruleset texts = (
  length_text,
  length_year,
  length_month,
  length_day,
  length_minute,
  length_second,
  length_offset,
  valid_in_range,
  valid_offset,
)

pub ruleset fractions = (run_none, scale_pos, units_lt, count_most)

pub ruleset offsets = (back_within, length_offset)

pub ruleset whole = (length_text, put_refused)
