-- The offset from UTC, as the packed word's number and as minutes. Assumes nothing.
use Rattle.std.specs.Prelude.{ℕ, ◌<◌, Bool, cond, eqb, ltb, ℤ, pos, nat_abs, ◌-ℤ◌, Option, None, Some}
use Rattle.integers.specs.Floor.{◌plus◌}
use Rattle.ion.specs.declared.offset.RawOffset.{RawOffset}
use Rattle.ion.specs.declared.offset.OffsetMinutes.{OffsetMinutes}

abbrev pub offset_minutes : ℤ → OffsetMinutes
offset_minutes z = record { 0 = z }

abbrev pub raw_offset : ℕ → RawOffset
raw_offset n = record { 0 = n }

-- 0 for unknown, else minutes plus 1,440
abbrev pub raw_of : Option OffsetMinutes → RawOffset
raw_of None = raw_offset 0
raw_of (Some m) = raw_offset (1440 plus m.0)

abbrev pub offset_of : RawOffset → Option OffsetMinutes
offset_of r = cond (eqb r.0 0) None (Some (offset_minutes (pos r.0 -ℤ pos 1440)))

-- the minutes to subtract for UTC: none where the offset is unknown
abbrev pub minutes_of : Option OffsetMinutes → ℤ
minutes_of None = pos 0
minutes_of (Some m) = m.0

-- a known offset is -1439 to 1439 minutes
abbrev pub is_offset : ℤ → Bool
is_offset z = ltb (nat_abs z) 1440

abbrev pub WithinDay : Option OffsetMinutes → Type 0
WithinDay None = Unit
WithinDay (Some m) = nat_abs m.0 < 1440
