-- A timestamp's count of attoseconds from 0000-01-01T00:00 UTC. Assumes nothing.
use Rattle.std.specs.Prelude.{ℕ, ◌+◌, ◌*◌, ◌^◌, ℤ, neg_ℤ}
use Rattle.integers.specs.Floor.{◌plus◌}
use Rattle.ion.specs.Pair.Offset.{offset_of, minutes_of}
use Rattle.ion.specs.Calendar.Shift.{minute_number}
use Rattle.ion.specs.Pair.Word.{fields_of}
use Rattle.ion.specs.Pair.Pair.{word_in}
use Rattle.ion.specs.Calls.Accepted.{time_in}
use Rattle.ion.specs.declared.Fields.{Fields}
use Rattle.ion.specs.declared.Timestamp.{Timestamp}

-- attoseconds, of minutes, seconds and attoseconds
abbrev pub attoseconds_in : ℕ → ℕ → ℕ → ℕ
attoseconds_in minutes seconds a = (minutes * 60 + seconds) * 10 ^ 18 + a

-- the offset of the fields in minutes, unknown as 0
abbrev pub offset_in : Fields → ℤ
offset_in f = minutes_of (offset_of f.offset)

-- those of local fields, of which the offset's minutes are taken away
abbrev pub fields_count : Fields → ℕ → ℕ
fields_count f a = attoseconds_in (minute_number (time_in f) plus neg_ℤ (offset_in f)) f.second a

unfoldable pub count_of : Timestamp → ℕ
count_of s = fields_count (fields_of (word_in s)) s.attoseconds
