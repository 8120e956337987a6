-- The reader of values in every form that the Ion specification allows. That of the shortest form, `read_value`, stays for files of scans.
-- Assumes nothing.
use Rattle.std.specs.Prelude.{ℕ, zero, suc, Bool, true, false, cond, ◌&&◌, List, [], ◌∷◌, leb, ltb, ℤ, pos, negsuc, length, drop}
use Rattle.std.specs.Prelude.{Option, None, Some, Result, Ok, Err}
use Rattle.ion.specs.Numbers.NumberReads.{refusal_for}
use Rattle.ion.specs.Numbers.PaddedNumbers.{unlimited, read_padded_var_uint, read_padded_var_int, padded_int_sign, padded_int_magnitude}
use Rattle.ion.specs.Calendar.Dates.{is_date}
use Rattle.ion.specs.Pair.Fraction.{decimal}
use Rattle.ion.specs.Calls.Accepted.{date_in}
use Rattle.ion.specs.Calls.Build.{build_of}
use Rattle.ion.specs.Calls.Check.{all_of}
use Rattle.ion.specs.Value.Decode.{Numbers, Parts, decode_parts, filled, precision_with, fields_from, local_by}
use Rattle.ion.specs.Value.ReadValue.{Reading, read_by}
use Rattle.ion.specs.declared.Fields.{Fields}
use Rattle.ion.specs.declared.Decimal.{Decimal}
use Rattle.ion.specs.declared.Timestamp.{Timestamp}
use Rattle.ion.specs.declared.number.NumberError.{NumberError}
use Rattle.ion.specs.declared.number.SignedMagnitude.{SignedMagnitude}
use Rattle.ion.specs.declared.offset.OffsetMinutes.{OffsetMinutes}
use Rattle.ion.specs.declared.refusal.Refusal.{Refusal}
use Rattle.ion.specs.declared.refusal.Refusal.TheVariants as refusal

abbrev pub padded : Numbers
padded = record { uint = read_padded_var_uint; int = read_padded_var_int }

-- ---- the fraction: an exponent of any size, then all that is left as its coefficient

-- negative zero is zero
abbrev pub exponent_of : Bool → ℕ → ℤ
exponent_of false m = pos m
exponent_of true zero = pos 0
exponent_of true (suc m) = negsuc m

abbrev pub decimal_with : ℤ → List ℕ → Decimal
decimal_with e s = record { negative = padded_int_sign s; coefficient = padded_int_magnitude s; exponent = e }

abbrev pub decimal_from : List ℕ → Result (SignedMagnitude × ℕ) NumberError → Option Decimal
decimal_from s (Ok x) = Some (decimal_with (exponent_of x.0.negative x.0.magnitude) (drop x.1 s))
decimal_from s (Err e) = None

-- none is zero
unfoldable pub decode_padded_fraction : List ℕ → Option Decimal
decode_padded_fraction [] = Some (decimal_with (pos 0) [])
decode_padded_fraction (b ∷ s) = decimal_from (b ∷ s) (read_padded_var_int unlimited (b ∷ s))

-- ---- the timestamp of a body's parts

abbrev pub utc_in : Parts Decimal → Fields
utc_in x = fields_from (filled x.fields) (precision_with (length x.fields)) (decimal x.fraction).digits

-- whether an offset may stand beside a precision: a known one only from the hour on
abbrev pub offset_fits : ℕ → Option OffsetMinutes → Bool
offset_fits p None = true
offset_fits p (Some m) = leb 3 p

-- whether UTC fields are a calendar date and a time, which may have the offset
unfoldable pub is_utc_time : Option OffsetMinutes → Fields → Bool
is_utc_time o u = is_date (date_in u) && ltb u.hour 24 && ltb u.minute 60 && ltb u.second 60 && offset_fits u.precision o

-- what the builder answers to the local fields and to the fraction as a decimal: one with an exponent of 0 or more has no digits
abbrev pub local_stamp : Parts Decimal → Result Timestamp Refusal
local_stamp x = build_of (all_of (local_by x.offset (utc_in x)) (decimal x.fraction).attoseconds)

-- whatever it refuses is no timestamp's body
abbrev pub or_body : Result Timestamp Refusal → Result Timestamp Refusal
or_body (Ok s) = Ok s
or_body (Err r) = Err refusal.Body

abbrev pub stamp_from : Option (Parts Decimal) → Result Timestamp Refusal
stamp_from (Some x) = cond (is_utc_time x.offset (utc_in x)) (or_body (local_stamp x)) (Err refusal.Body)
stamp_from None = Err refusal.Body

unfoldable pub read_padded_body : List ℕ → Result Timestamp Refusal
read_padded_body b = stamp_from (decode_parts padded decode_padded_fraction b)

-- ---- the value

-- a length up to 64
abbrev pub length_from : Result (ℕ × ℕ) NumberError → Result (ℕ × ℕ) Refusal
length_from (Ok x) = Ok x
length_from (Err e) = Err (refusal_for e)

unfoldable pub read_padded_length : List ℕ → Result (ℕ × ℕ) Refusal
read_padded_length s = length_from (read_padded_var_uint 64 s)

-- the value with which the bytes begin
unfoldable pub read_padded_value : List ℕ → Reading
read_padded_value s = read_by read_padded_body read_padded_length s
