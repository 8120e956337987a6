-- The check of a packed pair. Assumes nothing.
use Rattle.std.specs.Prelude.{ℕ, cond, ◌&&◌, eqb, leb, ltb, Option, None, Some, Result, Ok, Err}
use Rattle.ion.specs.Pair.Offset.{offset_of}
use Rattle.ion.specs.Pair.Word.{fields_of}
use Rattle.ion.specs.Pair.Pair.{word_in, same_pair}
use Rattle.ion.specs.Pair.Fraction.{cut_to}
use Rattle.ion.specs.Calls.Build.{build_of}
use Rattle.ion.specs.declared.Fields.{Fields}
use Rattle.ion.specs.declared.offset.RawOffset.{RawOffset}
use Rattle.ion.specs.declared.offset.OffsetMinutes.{OffsetMinutes}
use Rattle.ion.specs.declared.TimestampPrecision.{TimestampPrecision}
use Rattle.ion.specs.declared.TimestampPrecision.TheVariants.{Year, Month, Day, HourAndMinute, Second}
use Rattle.ion.specs.declared.BuilderOffset.{BuilderOffset}
use Rattle.ion.specs.declared.BuilderOffset.TheVariants.{Unknown, FromLocalFields}
use Rattle.ion.specs.declared.BuilderFields.{BuilderFields}
use Rattle.ion.specs.declared.Timestamp.{Timestamp}
use Rattle.ion.specs.declared.refusal.Refusal.{Refusal}
use Rattle.ion.specs.declared.refusal.Refusal.TheVariants as refusal

-- 5 to 7 read as 4
abbrev pub precision_of : ℕ → TimestampPrecision
precision_of p = cond (eqb p 0) Year (cond (eqb p 1) Month (cond (eqb p 2) Day (cond (eqb p 3) HourAndMinute Second)))

abbrev pub from_local : Option OffsetMinutes → BuilderOffset
from_local None = Unknown
from_local (Some m) = FromLocalFields m

-- the offset only at precision 3 and finer
abbrev pub offset_at : ℕ → RawOffset → BuilderOffset
offset_at p r = cond (leb 3 p) (from_local (offset_of r)) Unknown

-- a field from a precision on, else its first value
abbrev pub given_at : ℕ → ℕ → ℕ → ℕ → ℕ
given_at from p x first = cond (leb from p) x first

-- a fraction only at precision 4 with digits above 0, cut to those digits
abbrev pub fraction_at : ℕ → ℕ → ℕ → ℕ
fraction_at p digits a = cond (leb 4 p && ltb 0 digits) (cut_to digits a) 0

-- the fields that the precision has, for the builder
abbrev pub rebuilt : Fields → ℕ → BuilderFields
rebuilt f a =
    record {
      precision = precision_of f.precision;
      offset = offset_at f.precision f.offset;
      year = f.year;
      month = given_at 1 f.precision f.month 1;
      day = given_at 2 f.precision f.day 1;
      hour = given_at 3 f.precision f.hour 0;
      minute = given_at 3 f.precision f.minute 0;
      second = given_at 4 f.precision f.second 0;
      attoseconds = fraction_at f.precision f.digits a;
      digits = given_at 4 f.precision f.digits 0;
    }

-- all the fields, as those of local time
abbrev pub all_of : Fields → ℕ → BuilderFields
all_of f a =
    record {
      precision = precision_of f.precision;
      offset = from_local (offset_of f.offset);
      year = f.year;
      month = f.month;
      day = f.day;
      hour = f.hour;
      minute = f.minute;
      second = f.second;
      attoseconds = a;
      digits = f.digits;
    }

-- what was built, where it is the pair that came in
abbrev pub same_as : Timestamp → Result Timestamp Refusal → Result Timestamp Refusal
same_as s (Ok t) = cond (same_pair t s) (Ok t) (Err refusal.Pair)
same_as s (Err r) = Err r

unfoldable pub check_of : Timestamp → Result Timestamp Refusal
check_of s =
    let f = fields_of (word_in s) in
    cond (ltb 18 f.digits) (Err refusal.Digits) (same_as s (build_of (rebuilt f s.attoseconds)))
