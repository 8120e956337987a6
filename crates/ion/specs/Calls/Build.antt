-- Building a timestamp: the scope's checks in their order, and the packed pair. Assumes nothing.
use Rattle.std.specs.Prelude.{ℕ, ◌^◌, Bool, true, false, not, cond, ◌&&◌, List, [], ◌∷◌, ◌++◌, leb, ltb, Option, None, Some, Result, Ok, Err}
use Rattle.std.specs.Result.{result_and}
use Rattle.ion.specs.Calendar.Dates.{is_date}
use Rattle.ion.specs.Pair.Offset.{is_offset, raw_of}
use Rattle.ion.specs.Calendar.Shift.{shifted}
use Rattle.ion.specs.Pair.Word.{word_of}
use Rattle.ion.specs.Pair.Pair.{packed_pair}
use Rattle.ion.specs.declared.DateTime.{DateTime}
use Rattle.ion.specs.declared.Fields.{Fields}
use Rattle.ion.specs.declared.offset.OffsetMinutes.{OffsetMinutes}
use Rattle.ion.specs.declared.TimestampPrecision.{TimestampPrecision}
use Rattle.ion.specs.declared.TimestampPrecision.TheVariants.{Year, Month, Day, HourAndMinute, Second}
use Rattle.ion.specs.declared.BuilderOffset.{BuilderOffset}
use Rattle.ion.specs.declared.BuilderOffset.TheVariants.{Unknown, FromLocalFields, FromUtcFields}
use Rattle.ion.specs.declared.BuilderFields.{BuilderFields}
use Rattle.ion.specs.declared.Timestamp.{Timestamp}
use Rattle.ion.specs.declared.refusal.Refusal.{Refusal}
use Rattle.ion.specs.declared.refusal.Refusal.TheVariants as refusal

abbrev pub precision_number : TimestampPrecision → ℕ
precision_number Year = 0
precision_number Month = 1
precision_number Day = 2
precision_number HourAndMinute = 3
precision_number Second = 4

-- ---- checks: whether each fails, and its refusal

-- the refusal of the first that fails
abbrev pub first_of : List (Bool × Refusal) → Result Unit Refusal
first_of [] = Ok tt
first_of (t ∷ ts) = cond t.0 (Err t.1) (first_of ts)

-- the offset of what is built
abbrev pub to_offset : BuilderOffset → Option OffsetMinutes
to_offset Unknown = None
to_offset (FromLocalFields m) = Some m
to_offset (FromUtcFields m) = Some m

-- whether the fields are UTC's
abbrev pub is_utc : BuilderOffset → Bool
is_utc Unknown = false
is_utc (FromLocalFields m) = false
is_utc (FromUtcFields m) = true

-- a known offset of a day or more
abbrev pub offset_outside : BuilderOffset → Bool
offset_outside Unknown = false
offset_outside (FromLocalFields m) = not (is_offset m.0)
offset_outside (FromUtcFields m) = not (is_offset m.0)

-- the checks 1 to 9
abbrev pub range_checks : BuilderFields → List (Bool × Refusal)
range_checks f =
    (leb (10 ^ 18) f.attoseconds, refusal.Fraction)
    ∷ (ltb 9999 f.year, refusal.Year)
    ∷ (ltb 12 f.month, refusal.Month)
    ∷ (ltb 31 f.day, refusal.Day)
    ∷ (ltb 23 f.hour, refusal.Hour)
    ∷ (ltb 59 f.minute, refusal.Minute)
    ∷ (ltb 59 f.second, refusal.Second)
    ∷ (ltb 18 f.digits, refusal.Digits)
    ∷ (offset_outside f.offset, refusal.Offset)
    ∷ []

-- whether there is such a calendar day; that of a year alone is its first, which there always is: `year_alone` of crate builder
abbrev pub is_day : BuilderFields → Bool
is_day f = is_date (record { year = f.year; month = f.month; day = f.day })

-- a local year
abbrev pub is_year : ℕ → Bool
is_year y = leb 1 y && leb y 9999

-- the fields to the minute, as given and as moved from UTC to an offset
abbrev pub given_time : BuilderFields → DateTime
given_time f = record { year = f.year; month = f.month; day = f.day; hour = f.hour; minute = f.minute }

abbrev pub moved_time : BuilderFields → OffsetMinutes → DateTime
moved_time f m = shifted (given_time f) m.0

abbrev pub local_checks : BuilderFields → List (Bool × Refusal)
local_checks f = (not (is_year f.year), refusal.LocalYear) ∷ (not (is_day f), refusal.NoDay) ∷ []

abbrev pub utc_checks : BuilderFields → OffsetMinutes → List (Bool × Refusal)
utc_checks f m = (not (is_day f), refusal.NoDay) ∷ (not (is_year (moved_time f m).year), refusal.LocalYear) ∷ []

-- the checks 10 and 11
abbrev pub route_checks : BuilderFields → BuilderOffset → List (Bool × Refusal)
route_checks f Unknown = local_checks f
route_checks f (FromLocalFields m) = local_checks f
route_checks f (FromUtcFields m) = utc_checks f m

-- ---- the pair

-- the local fields to the minute
abbrev pub local_time : BuilderFields → BuilderOffset → DateTime
local_time f Unknown = given_time f
local_time f (FromLocalFields m) = given_time f
local_time f (FromUtcFields m) = moved_time f m

abbrev pub packed_of : BuilderFields → DateTime → Option OffsetMinutes → Fields
packed_of f t o =
    record {
      year = t.year;
      month = t.month;
      day = t.day;
      hour = t.hour;
      minute = t.minute;
      second = f.second;
      precision = precision_number f.precision;
      digits = f.digits;
      offset = raw_of o;
    }

abbrev pub pair_at : BuilderFields → DateTime → Option OffsetMinutes → Timestamp
pair_at f t o = packed_pair (word_of (packed_of f t o)) f.attoseconds

-- ---- the whole

unfoldable pub build_checks : BuilderFields → Result Unit Refusal
build_checks f = first_of (range_checks f ++ route_checks f f.offset)

unfoldable pub build_pair : BuilderFields → Timestamp
build_pair f = pair_at f (local_time f f.offset) (to_offset f.offset)

-- the pair, or the refusal of the first check that fails
unfoldable pub build_of : BuilderFields → Result Timestamp Refusal
build_of f = result_and (build_checks f) (Ok (build_pair f))
