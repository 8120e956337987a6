-- The proleptic Gregorian calendar, year 0 being a leap year: lengths of years and months, and the number of a day
-- from 0000-01-01, by summing those lengths. Assumes nothing.
use Rattle.std.specs.Prelude.{ℕ, zero, suc, ◌+◌, ◌-◌, ◌%◌, ◌≤◌, ◌<◌, Bool, true, false, not}
use Rattle.std.specs.Prelude.{cond, ◌&&◌, ◌||◌, List, [], ◌∷◌, ◌≡◌, ◌⊎◌, eqb, leb, ltb, get_or}
use Rattle.ion.specs.declared.Date.{Date}

-- a year that 4 divides is a leap year, unless 100 does and 400 does not
unfoldable pub is_leap : ℕ → Bool
is_leap y = (eqb (y % 4) 0 && not (eqb (y % 100) 0)) || eqb (y % 400) 0

-- 1 in a leap year, else 0
abbrev pub leap_day : Bool → ℕ
leap_day true = 1
leap_day false = 0

-- the months' lengths in a leap year or another
abbrev pub month_lengths : Bool → List ℕ
month_lengths leap = 31 ∷ (28 + leap_day leap) ∷ 31 ∷ 30 ∷ 31 ∷ 30 ∷ 31 ∷ 31 ∷ 30 ∷ 31 ∷ 30 ∷ 31 ∷ []

-- the length of month m, 1 being January; 0 where there is no such month
unfoldable pub month_length_of : Bool → ℕ → ℕ
month_length_of leap m = get_or (0 ∷ month_lengths leap) m 0

abbrev pub month_length : ℕ → ℕ → ℕ
month_length y m = month_length_of (is_leap y) m

abbrev pub year_length : ℕ → ℕ
year_length y = 365 + leap_day (is_leap y)

-- f 0 + f 1 + .. + f (n - 1)
unfoldable pub sum_below : (ℕ → ℕ) → ℕ → ℕ
sum_below f zero = 0
sum_below f (suc n) = sum_below f n + f n

-- the number of 1 January, of the first of a month within its year, and of a date
abbrev pub year_start : ℕ → ℕ
year_start y = sum_below year_length y

abbrev pub month_start : ℕ → ℕ → ℕ
month_start y m = sum_below (month_length y) m

abbrev pub day_number : Date → ℕ
day_number t = year_start t.year + month_start t.year t.month + (t.day - 1)

-- a day of its month: no month outside 1 to 12 has one
pub record IsDate (t : Date) : Type 0 where
  pub first : 1 ≤ t.day
  pub last : t.day ≤ month_length t.year t.month

-- whether there is such a day
abbrev pub is_date : Date → Bool
is_date t = leb 1 t.day && leb t.day (month_length t.year t.month)

-- the order of dates: by year, then month, then day
abbrev pub Earlier : Date → Date → Type 0
Earlier s t = (s.year < t.year) ⊎ ((s.year ≡ t.year) × ((s.month < t.month) ⊎ ((s.month ≡ t.month) × (s.day < t.day))))

-- the day after, and the day before; before 0000-01-01 the year stays 0
abbrev pub next_day : Date → Date
next_day t =
    cond (ltb t.day (month_length t.year t.month)) (record { year = t.year; month = t.month; day = t.day + 1 })
    (cond (ltb t.month 12) (record { year = t.year; month = t.month + 1; day = 1 })
    (record { year = t.year + 1; month = 1; day = 1 }))

abbrev pub prev_day : Date → Date
prev_day t =
    cond (ltb 1 t.day) (record { year = t.year; month = t.month; day = t.day - 1 })
    (cond (ltb 1 t.month) (record { year = t.year; month = t.month - 1; day = month_length t.year (t.month - 1) })
    (record { year = t.year - 1; month = 12; day = 31 }))

abbrev pub is_month : ℕ → Bool
is_month m = leb 1 m && leb m 12

-- what a date picker is told: 0 for a month outside 1 to 12, or a year above 10000
unfoldable pub days_in_month : ℕ → ℕ → ℕ
days_in_month y m = cond (is_month m && leb y 10000) (month_length y m) 0
