-- The UTC form: the offset is subtracted and marked unknown. Assumes nothing.
use Rattle.std.specs.Prelude.{neg_ℤ, Option, None, Some, Result, Ok}
use Rattle.std.specs.Result.{result_and}
use Rattle.ion.specs.Pair.Offset.{raw_of, offset_of}
use Rattle.ion.specs.Calendar.Shift.{shifted}
use Rattle.ion.specs.Pair.Word.{word_of, fields_of}
use Rattle.ion.specs.Pair.Pair.{word_in, packed_pair}
use Rattle.ion.specs.Calls.Check.{check_of}
use Rattle.ion.specs.Calls.Accepted.{time_in}
use Rattle.ion.specs.declared.DateTime.{DateTime}
use Rattle.ion.specs.declared.Fields.{Fields}
use Rattle.ion.specs.declared.offset.RawOffset.{RawOffset}
use Rattle.ion.specs.declared.offset.OffsetMinutes.{OffsetMinutes}
use Rattle.ion.specs.declared.Timestamp.{Timestamp}
use Rattle.ion.specs.declared.refusal.Refusal.{Refusal}

-- the fields with another date and time, and another offset
abbrev pub with_time : Fields → DateTime → RawOffset → Fields
with_time f t r =
    record {
      year = t.year;
      month = t.month;
      day = t.day;
      hour = t.hour;
      minute = t.minute;
      second = f.second;
      precision = f.precision;
      digits = f.digits;
      offset = r;
    }

-- an unknown offset changes nothing
abbrev pub utc_by : Option OffsetMinutes → Fields → Fields
utc_by None f = f
utc_by (Some m) f = with_time f (shifted (time_in f) (neg_ℤ m.0)) (raw_of None)

unfoldable pub utc_fields : Fields → Fields
utc_fields f = utc_by (offset_of f.offset) f

abbrev pub utc_pair : Timestamp → Timestamp
utc_pair s = packed_pair (word_of (utc_fields (fields_of (word_in s)))) s.attoseconds

-- its year may be 0 or 10000
unfoldable pub utc_of : Timestamp → Result Timestamp Refusal
utc_of s = result_and (check_of s) (Ok (utc_pair s))
