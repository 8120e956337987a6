-- The stages: what each setter makes of the fields, and which fields they give. Assumes nothing.
use Rattle.std.specs.Prelude.{ℕ, ◌+◌, min}
use Rattle.ion.specs.declared.TimestampPrecision.{TimestampPrecision}
use Rattle.ion.specs.declared.TimestampPrecision.TheVariants.{Year, Month, Day, HourAndMinute, Second}
use Rattle.ion.specs.declared.BuilderOffset.{BuilderOffset}
use Rattle.ion.specs.declared.BuilderOffset.TheVariants.{Unknown, FromLocalFields, FromUtcFields}
use Rattle.ion.specs.declared.BuilderFields.{BuilderFields}
use Rattle.ion.specs.declared.offset.OffsetMinutes.{OffsetMinutes}
use Rattle.ion.specs.declared.Fraction.{Fraction}
use Rattle.ion.specs.declared.Decimal.{Decimal}
use Rattle.ion.specs.Pair.Fraction.{milliseconds, microseconds, nanoseconds, nanoseconds_to, decimal}

-- a month or a day counted from 0; the largest number, which no check takes, stays
abbrev pub from_zero : ℕ → ℕ
from_zero n = min (n + 1) 4294967295

-- all of them, in a row
abbrev pub builder_fields : TimestampPrecision → BuilderOffset → ℕ → ℕ → ℕ → ℕ → ℕ → ℕ → ℕ → ℕ → BuilderFields
builder_fields p o y mo d h mi s a n =
    record {
      precision = p;
      offset = o;
      year = y;
      month = mo;
      day = d;
      hour = h;
      minute = mi;
      second = s;
      attoseconds = a;
      digits = n;
    }

abbrev pub with_year : ℕ → BuilderFields
with_year y = builder_fields Year Unknown y 1 1 0 0 0 0 0

abbrev pub with_month : BuilderFields → ℕ → BuilderFields
with_month f mo = builder_fields Month f.offset f.year mo f.day f.hour f.minute f.second f.attoseconds f.digits

abbrev pub with_day : BuilderFields → ℕ → BuilderFields
with_day f d = builder_fields Day f.offset f.year f.month d f.hour f.minute f.second f.attoseconds f.digits

abbrev pub with_hour : BuilderFields → ℕ → BuilderFields
with_hour f h = builder_fields HourAndMinute f.offset f.year f.month f.day h f.minute f.second f.attoseconds f.digits

abbrev pub with_hour_and_minute : BuilderFields → ℕ → ℕ → BuilderFields
with_hour_and_minute f h mi =
    builder_fields HourAndMinute f.offset f.year f.month f.day h mi f.second f.attoseconds f.digits

abbrev pub with_minute : BuilderFields → ℕ → BuilderFields
with_minute f mi =
    builder_fields HourAndMinute f.offset f.year f.month f.day f.hour mi f.second f.attoseconds f.digits

abbrev pub with_second : BuilderFields → ℕ → BuilderFields
with_second f s = builder_fields Second f.offset f.year f.month f.day f.hour f.minute s f.attoseconds f.digits

abbrev pub with_fraction : BuilderFields → Fraction → BuilderFields
with_fraction f x =
    builder_fields f.precision f.offset f.year f.month f.day f.hour f.minute f.second x.attoseconds x.digits

abbrev pub with_offset : BuilderFields → BuilderOffset → BuilderFields
with_offset f o = builder_fields f.precision o f.year f.month f.day f.hour f.minute f.second f.attoseconds f.digits

pub data Stage : Type 0 where
  has_year has_month has_day has_hour has_minute has_seconds has_fraction has_offset : Stage

-- the stages that take an offset
pub data Offsets : Stage → Type 0 where
  hour : Offsets has_hour
  minute : Offsets has_minute
  seconds : Offsets has_seconds
  fraction : Offsets has_fraction

pub data Fractions : Fraction → Type 0 where
  millis : (n : ℕ) → Fractions (milliseconds n)
  micros : (n : ℕ) → Fractions (microseconds n)
  nanos : (n : ℕ) → Fractions (nanoseconds n)
  nanos_to : (n d : ℕ) → Fractions (nanoseconds_to n d)
  decimals : (d : Decimal) → Fractions (decimal d)

-- the fields that the setters give at a stage
pub data Gives : Stage → BuilderFields → Type 0 where
  year : (y : ℕ) → Gives has_year (with_year y)
  month : {f : BuilderFields} → Gives has_year f → (m : ℕ) → Gives has_month (with_month f m)
  day : {f : BuilderFields} → Gives has_month f → (d : ℕ) → Gives has_day (with_day f d)
  hour : {f : BuilderFields} → Gives has_day f → (h : ℕ) → Gives has_hour (with_hour f h)
  both : {f : BuilderFields} → Gives has_day f → (h m : ℕ) → Gives has_minute (with_hour_and_minute f h m)
  minute : {f : BuilderFields} → Gives has_hour f → (m : ℕ) → Gives has_minute (with_minute f m)
  second : {f : BuilderFields} → Gives has_minute f → (s : ℕ) → Gives has_seconds (with_second f s)
  fraction : {f : BuilderFields} {x : Fraction} → Gives has_seconds f → Fractions x → Gives has_fraction (with_fraction f x)
  local : {t : Stage} {f : BuilderFields} → Offsets t → Gives t f → (m : OffsetMinutes)
      → Gives has_offset (with_offset f (FromLocalFields m))
  utc : {t : Stage} {f : BuilderFields} → Offsets t → Gives t f → (m : OffsetMinutes) → Gives has_offset (with_offset f (FromUtcFields m))
