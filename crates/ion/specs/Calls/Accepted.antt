-- What holds of fields in bounds, of staged fields and of an accepted timestamp. Assumes nothing.
use Rattle.std.specs.Prelude.{ℕ, ◌%◌, ◌^◌, ◌≤◌, ◌<◌, ◌≡◌}
use Rattle.ion.specs.Calendar.Dates.{IsDate}
use Rattle.ion.specs.Pair.Offset.{WithinDay}
use Rattle.ion.specs.Pair.Word.{fields_of}
use Rattle.ion.specs.Pair.Pair.{word_in}
use Rattle.ion.specs.Pair.Fraction.{scale}
use Rattle.ion.specs.Calls.Build.{precision_number, to_offset}
use Rattle.ion.specs.declared.Date.{Date}
use Rattle.ion.specs.declared.DateTime.{DateTime}
use Rattle.ion.specs.declared.Fields.{Fields}
use Rattle.ion.specs.declared.BuilderFields.{BuilderFields}
use Rattle.ion.specs.declared.BuilderOffset.TheVariants.{Unknown}
use Rattle.ion.specs.declared.Timestamp.{Timestamp}

-- what the checks 1 to 9 leave
pub record InBounds (f : BuilderFields) : Type 0 where
  pub attoseconds : f.attoseconds < 10 ^ 18
  pub year : f.year ≤ 9999
  pub month : f.month ≤ 12
  pub day : f.day ≤ 31
  pub hour : f.hour ≤ 23
  pub minute : f.minute ≤ 59
  pub second : f.second ≤ 59
  pub digits : f.digits ≤ 18
  pub offset : WithinDay (to_offset f.offset)

-- what the stages leave: fields that were not given have their first values, and a fraction has no more than its digits
pub record Staged (b : BuilderFields) : Type 0 where
  pub month : precision_number b.precision < 1 → b.month ≡ 1
  pub day : precision_number b.precision < 2 → b.day ≡ 1
  pub hour : precision_number b.precision < 3 → b.hour ≡ 0
  pub minute : precision_number b.precision < 3 → b.minute ≡ 0
  pub offset : precision_number b.precision < 3 → b.offset ≡ Unknown
  pub second : precision_number b.precision < 4 → b.second ≡ 0
  pub digits : precision_number b.precision < 4 → b.digits ≡ 0
  pub multiple : b.attoseconds < 10 ^ 18 → b.attoseconds % scale b.digits ≡ 0

abbrev pub date_in : Fields → Date
date_in f = record { year = f.year; month = f.month; day = f.day }

abbrev pub time_in : Fields → DateTime
time_in f = record { year = f.year; month = f.month; day = f.day; hour = f.hour; minute = f.minute }

-- the fields and the attoseconds of an accepted timestamp
pub record Valid (f : Fields) (a : ℕ) : Type 0 where
  pub from_year : 1 ≤ f.year
  pub to_year : f.year ≤ 9999
  pub date : IsDate (date_in f)
  pub hour : f.hour ≤ 23
  pub minute : f.minute ≤ 59
  pub second : f.second ≤ 59
  pub precision : f.precision ≤ 4
  pub digits : f.digits ≤ 18
  pub offset : f.offset.0 < 2880
  pub attoseconds : a < 10 ^ 18
  pub multiple : a % scale f.digits ≡ 0
  pub no_month : f.precision < 1 → f.month ≡ 1
  pub no_day : f.precision < 2 → f.day ≡ 1
  pub no_hour : f.precision < 3 → f.hour ≡ 0
  pub no_minute : f.precision < 3 → f.minute ≡ 0
  pub no_offset : f.precision < 3 → f.offset.0 ≡ 0
  pub no_second : f.precision < 4 → f.second ≡ 0
  pub no_digits : f.precision < 4 → f.digits ≡ 0

-- what it means that the packed check accepts, field by field
pub record Accepted (s : Timestamp) : Type 0 where
  pub fields : Valid (fields_of (word_in s)) s.attoseconds
  pub reserved : word_in s % 2 ^ 4 ≡ 0
  pub fits : word_in s < 2 ^ 64
