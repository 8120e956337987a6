-- A staged field set in numbers, and the builder's fields that it stands for. Assumes nothing.
use Rattle.std.specs.Prelude.{ℕ, Bool, cond, ◌&&◌, eqb, leb, ℤ, Option, None, Some, Result}
use Rattle.ion.specs.Pair.Offset.{offset_minutes}
use Rattle.ion.specs.Pair.Fraction.{milliseconds, microseconds, nanoseconds, nanoseconds_to, decimal}
use Rattle.ion.specs.Calls.Build.{build_of}
use Rattle.ion.specs.Calls.Stages.{from_zero, with_year, with_month, with_day, with_hour, with_hour_and_minute}
use Rattle.ion.specs.Calls.Stages.{with_second, with_fraction, with_offset}
use Rattle.ion.specs.declared.Fraction.{Fraction}
use Rattle.ion.specs.declared.BuilderFields.{BuilderFields}
use Rattle.ion.specs.declared.BuilderOffset.TheVariants.{FromLocalFields, FromUtcFields}
use Rattle.ion.specs.declared.Timestamp.{Timestamp}
use Rattle.ion.specs.declared.refusal.Refusal.{Refusal}
use Rattle.test_field_sets.specs.declared.FieldSet.{FieldSet}

-- the number of a field set with a code that stands for nothing: of tests alone, and above all of the table's
abbrev pub unknown_code : ℕ
unknown_code = 101

-- the numbers in a row; `both` says that hour and minute are given by one call, which changes nothing
abbrev pub field_set : ℕ → Bool → Bool → Bool → ℕ → ℕ → ℕ → ℕ → ℕ → ℕ → ℕ → ℕ → ℕ → ℕ → ℤ → ℕ → ℤ → FieldSet
field_set stage month0 day0 both year month day hour minute second fraction amount digits coefficient exponent offset minutes =
    record {
      stage = stage;
      month0 = month0;
      day0 = day0;
      both = both;
      year = year;
      month = month;
      day = day;
      hour = hour;
      minute = minute;
      second = second;
      fraction = fraction;
      amount = amount;
      digits = digits;
      coefficient = coefficient;
      exponent = exponent;
      offset = offset;
      minutes = minutes;
    }

-- a month or a day, counted from 0 or from 1
abbrev pub counted : Bool → ℕ → ℕ
counted zero_based n = cond zero_based (from_zero n) n

-- 1 milliseconds, 2 microseconds, 3 nanoseconds, 4 nanoseconds to a number of digits, 5 a decimal, 6 the same with a minus sign
abbrev pub fraction_given : FieldSet → Fraction
fraction_given x =
    cond (eqb x.fraction 1) (milliseconds x.amount)
    (cond (eqb x.fraction 2) (microseconds x.amount)
    (cond (eqb x.fraction 3) (nanoseconds x.amount)
    (cond (eqb x.fraction 4) (nanoseconds_to x.amount x.digits)
    (decimal (record { negative = eqb x.fraction 6; coefficient = x.coefficient; exponent = x.exponent })))))

-- 0 none, else the fraction of the code
unfoldable pub with_fraction_given : FieldSet → BuilderFields → BuilderFields
with_fraction_given x f = cond (eqb x.fraction 0) f (with_fraction f (fraction_given x))

-- 0 none, 1 the fields are local, 2 they are in UTC
unfoldable pub with_offset_given : FieldSet → BuilderFields → BuilderFields
with_offset_given x f =
    cond (eqb x.offset 0) f
    (cond (eqb x.offset 1) (with_offset f (FromLocalFields (offset_minutes x.minutes)))
    (with_offset f (FromUtcFields (offset_minutes x.minutes))))

-- a year and a month
abbrev pub month_given : FieldSet → BuilderFields
month_given x = with_month (with_year x.year) (counted x.month0 x.month)

-- a date
abbrev pub day_given : FieldSet → BuilderFields
day_given x = with_day (month_given x) (counted x.day0 x.day)

-- a date, an hour and a minute
abbrev pub minute_given : FieldSet → BuilderFields
minute_given x = with_hour_and_minute (day_given x) x.hour x.minute

-- the same with a second, and perhaps a fraction
abbrev pub second_given : FieldSet → BuilderFields
second_given x = with_fraction_given x (with_second (minute_given x) x.second)

-- stage 0 year, 1 month, 2 day, 3 hour alone, 4 hour and minute, 5 second; what is finer is not given, a fraction only with the
-- second, an offset only from the hour on
unfoldable pub fields_given : FieldSet → BuilderFields
fields_given x =
    cond (eqb x.stage 0) (with_year x.year)
    (cond (eqb x.stage 1) (month_given x)
    (cond (eqb x.stage 2) (day_given x)
    (with_offset_given x
    (cond (eqb x.stage 3) (with_hour (day_given x) x.hour) (cond (eqb x.stage 4) (minute_given x) (second_given x))))))

-- whether each code stands for something
abbrev pub is_coded : FieldSet → Bool
is_coded x = leb x.stage 5 && leb x.fraction 6 && leb x.offset 2

-- what the builder answers to a field set; none where a code stands for nothing
unfoldable pub built_from : FieldSet → Option (Result Timestamp Refusal)
built_from x = cond (is_coded x) (Some (build_of (fields_given x))) None
