-- The text of an offset: that it is read back, and how it begins. Assumes nothing.
use mathlib.Core.Path.{◌≡◌, refl, ap}
use mathlib.Core.Bool.{false}
use mathlib.Core.List.{List, [], ◌∷◌, ◌++◌}
use Prim.Native.Char.{code}
use Prim.Native.Nat.{ℕ, zero, suc, ◌/◌, ◌%◌, ◌<◌}
use native.Mathlib.Nat.{div-add-mod'}
use native.Mathlib.Omega.{arith}
use borrow.Author.Tests.{le-ltb}
use lib.Dec.{eqb, lit≤}
use lib.IntN.{ℤ, pos, negsuc, nat_abs}
use lib.ListN.{drop, get_or}
use Rattle.std.specs.Prelude.{Option, Some, None}
use Rattle.places.specs.Places.{places_on, places, value_from}
use Rattle.ion.specs.Text.Ascii.{ascii}
use Rattle.ion.specs.Numbers.Padded.{last_digits}
use Rattle.ion.specs.Pair.Offset.{WithinDay}
use Rattle.ion.specs.Calls.Check.{from_local}
use Rattle.ion.specs.Text.Format.{marked, clock_text, minutes_text, offset_text}
use Rattle.ion.specs.Value.ReadValue.{same}
use Rattle.ion.specs.Text.ReadText.{is_digit, digit_run, digits_value, read_marked, known_offset, signed_clock, read_clock, read_offset}
use Rattle.ion.specs.declared.offset.OffsetMinutes.{OffsetMinutes}
use Rattle.ion.proofs.Same.{same_not}
use Rattle.text.proofs.Digits.{padded_digits}
use Rattle.text_reader.proofs.Numbers.{read_digits_lem, read_marked_lem}

clock_digits : (n : ℕ) → n < 1440 → clock_text n ≡ last_digits 2 (n / 60) ++ (code ":" ∷ last_digits 2 (n % 60))
unfolding clock_text marked
clock_digits n h = rw (padded_digits 2 (n / 60) (lit≤ tt) (omega arith), padded_digits 2 (n % 60) (lit≤ tt) (omega arith))

-- a clock of some minutes is not that of none
clock_some : (c n : ℕ) → 0 < n → n < 1440 → same (c ∷ clock_text n) (c ∷ ascii "00:00") ≡ false
unfolding places places_on digits_value value_from
clock_some c n l h = same_not (c ∷ clock_text n) (c ∷ ascii "00:00") apart
  where
    apart : c ∷ clock_text n ≡ c ∷ ascii "00:00" → ⊥
    apart e =
        let x = rw (clock_digits n h) at e in
        let hours : n / 60 ≡ 0 = omega (arith, ap (λ (t : List ℕ). digits_value 2 (drop 1 t)) x) in
        let minutes : n % 60 ≡ 0 = omega (arith, ap (λ (t : List ℕ). digits_value 2 (drop 4 t)) x) in
        omega arith

read_clock_lem : (sign n : ℕ) → n < 1440 → read_clock (sign ∷ clock_text n) ≡ signed_clock sign (n / 60) (n % 60)
unfolding places places_on read_clock
read_clock_lem sign n h =
    let p = read_digits_lem 2 (n / 60) (code ":" ∷ last_digits 2 (n % 60)) (omega arith) in
    let q = read_marked_lem (code ":") (n % 60) [] (omega arith) in
    rw (clock_digits n h) (rw (p, q))

read_minutes : (z : ℤ) → nat_abs z < 1440 → read_offset (minutes_text z) ≡ known_offset z
unfolding minutes_text read_offset same signed_clock
read_minutes (pos zero) h = refl
read_minutes (pos (suc n)) h =
    let m = suc n in
    rw (clock_some (code "+") m (omega arith) h, read_clock_lem (code "+") m h, le-ltb 59 (m % 60) (omega arith), div-add-mod' m 60)
read_minutes (negsuc n) h =
    let m = suc n in
    rw (clock_some (code "-") m (omega arith) h, read_clock_lem (code "-") m h, le-ltb 59 (m % 60) (omega arith), div-add-mod' m 60)

-- an offset is read back from its text
pub read_offset_lem : (o : Option OffsetMinutes) → WithinDay o → read_offset (offset_text o) ≡ Some (from_local o)
unfolding offset_text read_offset same
read_offset_lem None h = refl
read_offset_lem (Some m) h = read_minutes m.0 h

-- ---- how it begins

-- what cannot be taken for a field, a fraction or one more digit
pub record Begins (r : List ℕ) : Type 0 where
  pub no_mark : read_marked (code ":") r ≡ None
  pub no_point : eqb (get_or r 0 0) (code ".") ≡ false
  pub no_digit : digit_run r ≡ 0

begins : (c : ℕ) (t : List ℕ) → eqb c (code ":") ≡ false → eqb c (code ".") ≡ false → is_digit c ≡ false → Begins (c ∷ t)
unfolding read_marked digit_run
begins c t m p d = record { no_mark = rw m; no_point = p; no_digit = rw d }

pub z_begins : Begins (ascii "Z")
z_begins = begins (code "Z") [] refl refl refl

minutes_begin : (z : ℤ) → Begins (minutes_text z)
unfolding minutes_text
minutes_begin (pos zero) = begins (code "+") (ascii "00:00") refl refl refl
minutes_begin (pos (suc n)) = begins (code "+") (clock_text (suc n)) refl refl refl
minutes_begin (negsuc n) = begins (code "-") (clock_text (suc n)) refl refl refl

pub offset_begins : (o : Option OffsetMinutes) → Begins (offset_text o)
unfolding offset_text
offset_begins None = begins (code "-") (ascii "00:00") refl refl refl
offset_begins (Some m) = minutes_begin m.0
