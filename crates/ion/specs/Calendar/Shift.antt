-- A date and time moved by a signed number of minutes. Assumes nothing.
use Rattle.std.specs.Prelude.{ℕ, zero, suc, ◌+◌, ◌*◌, ◌/◌, ◌%◌, ◌<◌, ℤ, pos, negsuc, ◌+ℤ◌}
use Rattle.integers.specs.Floor.{floor_div, floor_mod}
use Rattle.ion.specs.Calendar.Dates.{day_number, IsDate, next_day, prev_day}
use Rattle.ion.specs.declared.Date.{Date}
use Rattle.ion.specs.declared.DateTime.{DateTime}

abbrev pub date_of : DateTime → Date
date_of t = record { year = t.year; month = t.month; day = t.day }

-- a day of the calendar and a time of it
pub record IsDateTime (t : DateTime) : Type 0 where
  pub date : IsDate (date_of t)
  pub hours : t.hour < 24
  pub minutes : t.minute < 60

-- minutes from 0000-01-01T00:00
abbrev pub minute_number : DateTime → ℕ
minute_number t = day_number (date_of t) * 1440 + (t.hour * 60 + t.minute)

abbrev pub repeat : (Date → Date) → ℕ → Date → Date
repeat g zero t = t
repeat g (suc n) t = g (repeat g n t)

-- the date a number of days later, or earlier where the number is negative
abbrev pub add_days : Date → ℤ → Date
add_days t (pos n) = repeat next_day n t
add_days t (negsuc n) = repeat prev_day (suc n) t

-- a date with the time of a minute of its day
abbrev pub at_minute : Date → ℕ → DateTime
at_minute t n = record { year = t.year; month = t.month; day = t.day; hour = n / 60; minute = n % 60 }

-- the date and time a signed number of minutes later
abbrev pub shifted : DateTime → ℤ → DateTime
shifted t z =
    let m = pos (t.hour * 60 + t.minute) +ℤ z in
    at_minute (add_days (date_of t) (floor_div m 1440)) (floor_mod m 1440)
