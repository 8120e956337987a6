-- What is read from a timestamp, after its check. Assumes nothing.
use Rattle.std.specs.Prelude.{ℕ, ◌/◌, ◌^◌, false, pos, neg_ℤ, Option, Result, Ok}
use Rattle.std.specs.Result.{result_and}
use Rattle.ion.specs.Pair.Offset.{offset_of}
use Rattle.ion.specs.Pair.Word.{fields_of}
use Rattle.ion.specs.Pair.Pair.{word_in}
use Rattle.ion.specs.Pair.Fraction.{scale}
use Rattle.ion.specs.Calls.Check.{check_of, precision_of}
use Rattle.ion.specs.declared.Fields.{Fields}
use Rattle.ion.specs.declared.Timestamp.{Timestamp}
use Rattle.ion.specs.declared.TimestampPrecision.{TimestampPrecision}
use Rattle.ion.specs.declared.Decimal.{Decimal}
use Rattle.ion.specs.declared.offset.OffsetMinutes.{OffsetMinutes}
use Rattle.ion.specs.declared.refusal.Refusal.{Refusal}

-- the value v of a timestamp
unfoldable pub field_of : {A : Type 0} → A → Timestamp → Result A Refusal
field_of v s = result_and (check_of s) (Ok v)

abbrev pub year_of : Timestamp → Result ℕ Refusal
year_of s = field_of (fields_of (word_in s)).year s

abbrev pub month_of : Timestamp → Result ℕ Refusal
month_of s = field_of (fields_of (word_in s)).month s

abbrev pub day_of : Timestamp → Result ℕ Refusal
day_of s = field_of (fields_of (word_in s)).day s

abbrev pub hour_of : Timestamp → Result ℕ Refusal
hour_of s = field_of (fields_of (word_in s)).hour s

abbrev pub minute_of : Timestamp → Result ℕ Refusal
minute_of s = field_of (fields_of (word_in s)).minute s

abbrev pub second_of : Timestamp → Result ℕ Refusal
second_of s = field_of (fields_of (word_in s)).second s

abbrev pub precision_field_of : Timestamp → Result TimestampPrecision Refusal
precision_field_of s = field_of (precision_of (fields_of (word_in s)).precision) s

-- the number of fraction digits
abbrev pub digits_field_of : Timestamp → Result ℕ Refusal
digits_field_of s = field_of (fields_of (word_in s)).digits s

abbrev pub offset_field_of : Timestamp → Result (Option OffsetMinutes) Refusal
offset_field_of s = field_of (offset_of (fields_of (word_in s)).offset) s

-- ---- the fraction

abbrev pub attoseconds_field_of : Timestamp → Result ℕ Refusal
attoseconds_field_of s = field_of s.attoseconds s

-- in whole units of 10^k attoseconds
abbrev pub units_of : ℕ → Timestamp → Result ℕ Refusal
units_of k s = field_of (s.attoseconds / 10 ^ k) s

abbrev pub nanoseconds_of : Timestamp → Result ℕ Refusal
nanoseconds_of s = units_of 9 s

abbrev pub microseconds_of : Timestamp → Result ℕ Refusal
microseconds_of s = units_of 12 s

abbrev pub milliseconds_of : Timestamp → Result ℕ Refusal
milliseconds_of s = units_of 15 s

-- its digits as the coefficient, and minus their number as the exponent
abbrev pub decimal_in : Fields → ℕ → Decimal
decimal_in f a = record { negative = false; coefficient = a / scale f.digits; exponent = neg_ℤ (pos f.digits) }

abbrev pub decimal_field_of : Timestamp → Result Decimal Refusal
decimal_field_of s = field_of (decimal_in (fields_of (word_in s)) s.attoseconds) s
