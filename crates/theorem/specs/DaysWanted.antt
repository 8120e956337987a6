-- Where a day is wanted, the 0 of `days_in_month` is never met: so of each caller of the months' lengths, and of what is built on
-- them. Assumes nothing.
use Rattle.std.specs.Prelude.{ℕ, ◌-◌, ◌≤◌, ◌<◌, ◌≡◌, ◌⊎◌, true, ℤ, pos, neg_ℤ, Option, Err}
use Rattle.ion.specs.Calendar.Dates.{month_length, days_in_month, is_date, IsDate, next_day, prev_day}
use Rattle.ion.specs.Calendar.Shift.{IsDateTime, add_days, shifted}
use Rattle.ion.specs.Pair.Offset.{offset_minutes}
use Rattle.ion.specs.Calls.Build.{is_day, moved_time, build_of}
use Rattle.ion.specs.Calls.Accepted.{InBounds, time_in}
use Rattle.ion.specs.Calls.Utc.{utc_fields}
use Rattle.ion.specs.Value.Decode.{local_by}
use Rattle.ion.specs.declared.Date.{Date}
use Rattle.ion.specs.declared.DateTime.{DateTime}
use Rattle.ion.specs.declared.Fields.{Fields}
use Rattle.ion.specs.declared.BuilderFields.{BuilderFields}
use Rattle.ion.specs.declared.BuilderOffset.TheVariants.{FromUtcFields}
use Rattle.ion.specs.declared.offset.OffsetMinutes.{OffsetMinutes}
use Rattle.ion.specs.declared.refusal.Refusal.TheVariants as refusal

-- no such month, or a year above the picker's
abbrev pub Unanswered : ℕ → ℕ → Type 0
Unanswered y m = (m < 1) ⊎ ((12 < m) ⊎ (10000 < y))

-- the month has 28 days or more, and up to year 10000 they are what the picker is told
pub record HasDays (y m : ℕ) : Type 0 where
  pub least : 28 ≤ month_length y m
  pub told : y ≤ 10000 → days_in_month y m ≡ month_length y m

pub record DaysWanted : Type 0 where
  -- the picker is told 0 there and nowhere else
  pub zero_exact : (y m : ℕ) → (days_in_month y m ≡ 0 → Unanswered y m) × (Unanswered y m → days_in_month y m ≡ 0)
  -- `is_date` says yes only to a day from 1 on, of a month that has days
  pub tested : (t : Date) → is_date t ≡ true → (1 ≤ t.day) × HasDays t.year t.month
  -- `next_day` asks the length of the date's month, `prev_day` after a first of the month that of the month before; both give dates
  pub day_after : (t : Date) → IsDate t → HasDays t.year t.month × IsDate (next_day t)
  pub day_before : (t : Date) → IsDate t → (1 < t.month → HasDays t.year (t.month - 1)) × IsDate (prev_day t)
  -- however many days and minutes a date is moved, it is a date: its day is never 0
  pub days_added : (t : Date) (z : ℤ) → IsDate t → IsDate (add_days t z)
  pub minutes_added : (t : DateTime) (z : ℤ) → IsDateTime t → IsDateTime (shifted t z)
  -- so are the local time of a field set in UTC, before check 11 looks at its year, the UTC form, and the local fields of a value
  pub built : (f : BuilderFields) (m : OffsetMinutes) → InBounds f → is_day f ≡ true → IsDateTime (moved_time f m)
  pub utc_form : (f : Fields) → IsDateTime (time_in f) → IsDateTime (time_in (utc_fields f))
  pub value_read : (o : Option OffsetMinutes) (u : Fields) → IsDateTime (time_in u) → IsDateTime (time_in (local_by o u))
  -- UTC year 0 and an offset of n minutes back, past 1 January or not: where the checks 1 to 10 pass, its local year is refused
  pub year_zero : (f : BuilderFields) (n : ℕ) → InBounds f → is_day f ≡ true → f.year ≡ 0
      → f.offset ≡ FromUtcFields (offset_minutes (neg_ℤ (pos n))) → build_of f ≡ Err refusal.LocalYear
