-- A date and time moved by an offset, where they are such. Assumes nothing.
use Rattle.std.specs.Prelude.{ℕ, Bool, cond, ◌&&◌, List, [], ◌∷◌, ◌≡◌, leb, ltb, ℤ, Option, None, Some}
use Rattle.ion.specs.Calendar.Dates.{is_date}
use Rattle.ion.specs.Pair.Offset.{is_offset}
use Rattle.ion.specs.Calendar.Shift.{date_of, shifted}
use Rattle.ion.specs.declared.DateTime.{DateTime}

-- the number of a shift of no date and time of the years 0 to 10000, or by minutes of no offset: of tests alone, and above all of the
-- table's
abbrev not_movable : ℕ
not_movable = 102

-- the numbers in a row
abbrev pub date_time : ℕ → ℕ → ℕ → ℕ → ℕ → DateTime
date_time year month day hour minute = record { year = year; month = month; day = day; hour = hour; minute = minute }

-- in the years 0 to 10000, by an offset
abbrev pub is_movable : DateTime → ℤ → Bool
is_movable t z = leb t.year 10000 && is_date (date_of t) && ltb t.hour 24 && ltb t.minute 60 && is_offset z

-- the date and time, where it can be moved
unfoldable pub moved_by : DateTime → ℤ → Option DateTime
moved_by t z = cond (is_movable t z) (Some (shifted t z)) None

-- 0, or the number of none
abbrev pub moved_number : Option DateTime → ℕ
moved_number (Some t) = 0
moved_number None = not_movable

-- year, month, day, hour and minute, or zeros
abbrev pub moved_parts : Option DateTime → List ℕ
moved_parts (Some t) = t.year ∷ t.month ∷ t.day ∷ t.hour ∷ t.minute ∷ []
moved_parts None = 0 ∷ 0 ∷ 0 ∷ 0 ∷ 0 ∷ []

-- the number is returned, the rest is stored
pub record MovedIs (x : Option DateTime) (n : ℕ) (l : List ℕ) : Type 0 where
  pub number : n ≡ moved_number x
  pub time : l ≡ moved_parts x
