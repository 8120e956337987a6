-- Reading a timestamp's text: the five written forms, a full date also without its T, and Z for +00:00. Assumes nothing.
use Rattle.std.specs.Prelude.{ℕ, suc, ◌+◌, ◌-◌, ◌*◌, min, Bool, cond, ◌&&◌, ◌||◌, List, []}
use Rattle.std.specs.Prelude.{◌∷◌, eqb, leb, ltb, ℤ, pos, neg_ℤ, length, take, drop, get_or, Option, None, Some, Result, Err}
use Prim.Native.Char.{code}
use Rattle.places.specs.Places.{value_from}
use Rattle.ion.specs.Text.Ascii.{ascii}
use Rattle.ion.specs.Pair.Offset.{offset_minutes}
use Rattle.ion.specs.Pair.Fraction.{scale}
use Rattle.ion.specs.Calls.Build.{build_of}
use Rattle.ion.specs.Calls.Stages.{with_year, with_month, with_day, with_hour_and_minute, with_second, with_fraction, with_offset}
use Rattle.ion.specs.Text.Format.{unknown_text, zero_text}
use Rattle.ion.specs.Value.ReadValue.{same}
use Rattle.ion.specs.declared.BuilderFields.{BuilderFields}
use Rattle.ion.specs.declared.BuilderOffset.{BuilderOffset}
use Rattle.ion.specs.declared.BuilderOffset.TheVariants.{Unknown, FromLocalFields}
use Rattle.ion.specs.declared.Fraction.{Fraction}
use Rattle.ion.specs.declared.Timestamp.{Timestamp}
use Rattle.ion.specs.declared.refusal.Refusal.{Refusal}
use Rattle.ion.specs.declared.refusal.Refusal.TheVariants as refusal

-- ---- digits

abbrev pub is_digit : ℕ → Bool
is_digit b = leb (code "0") b && leb b (code "9")

-- how many digits a text begins with
unfoldable pub digit_run : List ℕ → ℕ
digit_run [] = 0
digit_run (b ∷ s) = cond (is_digit b) (suc (digit_run s)) 0

-- the digit that a byte is
abbrev pub digit_of : ℕ → ℕ
digit_of b = b - code "0"

-- the number that the first k bytes make
unfoldable pub digits_value : ℕ → List ℕ → ℕ
digits_value k s = value_from 10 digit_of 0 (take k s)

-- a number of k digits, with which the text begins
unfoldable pub read_digits : ℕ → List ℕ → Option ℕ
read_digits k s = cond (leb k (digit_run s)) (Some (digits_value k s)) None

-- a mark and a number of two digits
unfoldable pub read_marked : ℕ → List ℕ → Option ℕ
read_marked mark s = cond (eqb (get_or s 0 0) mark) (read_digits 2 (drop 1 s)) None

-- what is made of a number, or else a
abbrev pub on_value : {A : Type 0} → Option ℕ → A → (ℕ → A) → A
on_value (Some n) a make = make n
on_value None a make = a

-- ---- the offset, which is all that is left

abbrev pub known_offset : ℤ → Option BuilderOffset
known_offset z = Some (FromLocalFields (offset_minutes z))

-- a sign, hours and minutes: any hours, but no minutes above 59
unfoldable pub signed_clock : ℕ → ℕ → ℕ → Option BuilderOffset
signed_clock sign h m =
    cond (ltb 59 m) None
    (cond (eqb sign (code "+")) (known_offset (pos (h * 60 + m)))
    (cond (eqb sign (code "-")) (known_offset (neg_ℤ (pos (h * 60 + m)))) None))

unfoldable pub read_clock : List ℕ → Option BuilderOffset
read_clock r =
    cond (eqb (length r) 6)
    (on_value (read_digits 2 (drop 1 r)) None (λ h. on_value (read_marked (code ":") (drop 3 r)) None (signed_clock (get_or r 0 0) h)))
    None

unfoldable pub read_offset : List ℕ → Option BuilderOffset
read_offset r =
    cond (same r unknown_text) (Some Unknown)
    (cond (same r zero_text || same r (ascii "Z")) (known_offset (pos 0)) (read_clock r))

-- ---- how the forms end: r is what is left, and f what stands before

abbrev pub ended : BuilderFields → Option BuilderOffset → Option BuilderFields
ended f (Some o) = Some (with_offset f o)
ended f None = None

-- in an offset
unfoldable pub end_offset : BuilderFields → List ℕ → Option BuilderFields
end_offset f r = ended f (read_offset r)

-- in a T
unfoldable pub end_t : BuilderFields → List ℕ → Option BuilderFields
end_t f r = cond (same r (ascii "T")) (Some f) None

-- in a T, or at once
unfoldable pub end_date : BuilderFields → List ℕ → Option BuilderFields
end_date f r = cond (same r []) (Some f) (end_t f r)

-- the fraction that n digits are: 18 make the attoseconds, and 19 stand for any more than 18
abbrev pub digits_fraction : ℕ → List ℕ → Fraction
digits_fraction n r = let k = min n 18 in record { attoseconds = digits_value k r * scale k; digits = min n 19 }

-- in digits, one at least, and an offset
unfoldable pub end_digits : BuilderFields → List ℕ → Option BuilderFields
end_digits f r =
    let n = digit_run r in
    cond (eqb n 0) None (end_offset (with_fraction f (digits_fraction n r)) (drop n r))

-- in an offset, before which a point and digits may stand
unfoldable pub end_second : BuilderFields → List ℕ → Option BuilderFields
end_second f r = cond (eqb (get_or r 0 0) (code ".")) (end_digits f (drop 1 r)) (end_offset f r)

-- ---- the whole text: each field, and the form that ends before it

unfoldable pub read_text : List ℕ → Option BuilderFields
read_text s =
    on_value (read_digits 4 s) None (λ y.
    let at_year = with_year y in
    on_value (read_marked (code "-") (drop 4 s)) (end_t at_year (drop 4 s)) (λ mo.
    let at_month = with_month at_year mo in
    on_value (read_marked (code "-") (drop 7 s)) (end_t at_month (drop 7 s)) (λ d.
    let at_day = with_day at_month d in
    on_value (read_marked (code "T") (drop 10 s)) (end_date at_day (drop 10 s)) (λ h.
    on_value (read_marked (code ":") (drop 13 s)) None (λ mi.
    let at_minute = with_hour_and_minute at_day h mi in
    on_value (read_marked (code ":") (drop 16 s)) (end_offset at_minute (drop 16 s)) (λ sec.
    end_second (with_second at_minute sec) (drop 19 s)))))))

-- what the builder makes of the local fields of a form
abbrev pub built_from : Option BuilderFields → Result Timestamp Refusal
built_from (Some f) = build_of f
built_from None = Err refusal.Form

unfoldable pub read_text_of : List ℕ → Result Timestamp Refusal
read_text_of s = built_from (read_text s)
