-- Dates: what is a date, the number of one, and the order that the number keeps. Assumes nothing.
use mathlib.Core.Path.{◌≡◌, refl, sym}
use mathlib.Core.Logic.{◌⊎◌, inl, inr}
use mathlib.Core.Bool.{Bool, true, false, ◌&&◌, and-true, and-false}
use Prim.Native.Nat.{ℕ, ◌+◌, ◌-◌, ◌≤◌, ◌<◌}
use native.Mathlib.Decide.{dec_le}
use native.Mathlib.Omega.{arith}
use lib.Dec.{leb}
use lib.ListN.{get_or}
use borrow.Author.Tests.{le-leb, lt-leb}
use Rattle.std.proofs.lemmas.Bool.{cases_order}
use Rattle.places.proofs.Decides.{Decides, le_decides, ◌and◌}
use Rattle.ion.specs.Calendar.Dates.{is_leap, month_length_of, month_length, year_length, year_start, sum_below}
use Rattle.ion.specs.Calendar.Dates.{month_start, day_number, IsDate, Earlier}
use Rattle.ion.specs.Calendar.Dates.{is_month, is_date}
use Rattle.ion.specs.declared.Date.{Date}
use Rattle.calendar.proofs.Sums.{sum_more, sum_past}
use Rattle.year_table.proofs.Entries.{start_at, starts_length, leap_day_le, year_start_below}
use Rattle.calendar.proofs.Years.{leaps_before, year_start_lem}
use Rattle.calendar.proofs.Months.{month_decides, no_month, month_least, month_from_one, month_to_twelve, month_most, months_year}
use Rattle.calendar.proofs.Months.{starts, start_early, start_late}

-- ---- what is a date

-- a date has a month from 1 to 12, and a day of it up to 31
module _ (t : Date) (p : IsDate t) where
  has_day_lem : 0 < month_length t.year t.month
  has_day_lem = omega (arith, p.first, p.last)

  pub month_low : 1 ≤ t.month
  month_low = month_from_one (is_leap t.year) t.month has_day_lem

  pub month_of_lem : t.month ≤ 12
  month_of_lem = month_to_twelve (is_leap t.year) t.month has_day_lem

  pub day_of_lem : t.day ≤ 31
  day_of_lem = omega (arith, p.last, month_most (is_leap t.year) t.month)

-- a date that passed the test, and the test of a date
module _ (t : Date) where
  -- those of its month
  abbrev days : ℕ
  days = month_length t.year t.month

  tested : Decides (is_date t) ((1 ≤ t.day) × (t.day ≤ days))
  tested = le_decides 1 t.day and le_decides t.day days

  pub is_date_lem : is_date t ≡ true → IsDate t
  is_date_lem e = let b = tested.0 e in record { first = b.0; last = b.1 }

  pub date_is : IsDate t → is_date t ≡ true
  date_is p = tested.1 (p.first, p.last)

-- a month that there is not has no day
pub no_day_lem : (t : Date) → is_month t.month ≡ false → is_date t ≡ false
no_day_lem t e = go (dec_le 1 t.day)
  where
    none : days t ≡ 0
    none = no_month (is_leap t.year) t.month e

    go : Dec (1 ≤ t.day) → is_date t ≡ false
    go (yes h) = let l : days t < t.day = omega (arith, none) in simp (lt-leb t.day (days t) l, and-false)
    go (no h) = let l : t.day < 1 = omega arith in simp (lt-leb 1 t.day l)

-- up to day 28 every month has it
pub low_day : (t : Date) → t.day ≤ 28 → (is_month t.month && leb 1 t.day) ≡ is_date t
low_day t k = go (is_month t.month) refl
  where
    go : (b : Bool) → is_month t.month ≡ b → (b && leb 1 t.day) ≡ is_date t
    go true e =
        let m = (month_decides t.month).0 e in
        let l : t.day ≤ days t = omega (arith, month_least (is_leap t.year) t.month m.0 m.1) in
        simp (le-leb t.day (days t) l, and-true)
    go false e = sym (no_day_lem t e)

-- every year has a first day
pub first_day_is : (y : ℕ) → is_date (record { year = y; month = 1; day = 1 }) ≡ true
unfolding month_length_of
first_day_is y = refl

-- ---- the number

-- a date lies in its month, and in its year
in_month : (t : Date) → IsDate t → {m : ℕ} → t.month < m → month_start t.year t.month + (t.day - 1) < month_start t.year m
in_month t p {m} h = omega (arith, sum_past (month_length_of (is_leap t.year)) t.month m h)

pub in_year_lem : (t : Date) → IsDate t → month_start t.year t.month + (t.day - 1) < year_length t.year
in_year_lem t p = omega (arith, in_month t p {m = 13} (omega (arith, month_of_lem t p)), months_year (is_leap t.year))

-- the number grows strictly with the date
pub day_number_mono : (s t : Date) → IsDate s → IsDate t → Earlier s t → day_number s < day_number t
day_number_mono s t p q (inl l) = omega (arith, in_year_lem s p, sum_past year_length s.year t.year l)
day_number_mono s t p q (inr (e, inl l)) = rw (← e) (omega (arith, in_month s p l))
day_number_mono s t p q (inr (e, inr (f, l))) = rw (← e, ← f) (omega arith)

-- of two dates one is earlier, or they are the same
pub date_order : (s t : Date) → Earlier s t ⊎ ((s ≡ t) ⊎ Earlier t s)
date_order s t = go (cases_order s.year t.year) (cases_order s.month t.month) (cases_order s.day t.day)
  where
    Order : ℕ → ℕ → Type 0
    Order a b = (a ≡ b) ⊎ ((a < b) ⊎ (b < a))

    go : Order s.year t.year → Order s.month t.month → Order s.day t.day → Earlier s t ⊎ ((s ≡ t) ⊎ Earlier t s)
    go (inr (inl h)) m d = inl (inl h)
    go (inr (inr h)) m d = inr (inr (inl h))
    go (inl e) (inr (inl h)) d = inl (inr (e, inl h))
    go (inl e) (inr (inr h)) d = inr (inr (inr (sym e, inl h)))
    go (inl e) (inl f) (inr (inl h)) = inl (inr (e, inr (f, h)))
    go (inl e) (inl f) (inr (inr h)) = inr (inr (inr (sym e, inr (sym f, h))))
    go (inl e) (inl f) (inl g) = inr (inl (λ i. record { year = e i; month = f i; day = g i }))

-- the number tells the date
pub day_number_inj : (s t : Date) → IsDate s → IsDate t → day_number s ≡ day_number t → s ≡ t
day_number_inj s t p q e = go (date_order s t)
  where
    go : Earlier s t ⊎ ((s ≡ t) ⊎ Earlier t s) → s ≡ t
    go (inl h) = absurd (omega (arith, day_number_mono s t p q h))
    go (inr (inl h)) = h
    go (inr (inr h)) = absurd (omega (arith, day_number_mono t s q p h))

-- from year 1 on there is a year before
pub after_year_zero : (t : Date) → 1 ≤ t.year → 366 ≤ day_number t
unfolding sum_below is_leap
after_year_zero t h = omega (arith, sum_past year_length 0 t.year h)

-- up to the year 10000
pub day_number_below : (t : Date) → IsDate t → t.year ≤ 10000 → day_number t < 3652791
unfolding leaps_before
day_number_below t p h = omega (arith, in_year_lem t p, leap_day_le (is_leap t.year), year_start_lem t.year)

-- up to February, and from March on
module _ (t : Date) (p : IsDate t) where
  pub early_number : t.month ≤ 2 → day_number t ≡ year_start t.year + get_or starts t.month 0 + t.day - 1
  early_number h = omega (arith, p.first, start_early (is_leap t.year) t.month h)

  pub late_number : 2 < t.month → day_number t ≡ year_start (t.year + 1) + get_or starts t.month 0 + t.day - 366
  late_number h = omega (arith, p.first, start_late (is_leap t.year) t.month h (month_of_lem t p), sum_more year_length t.year)

pub year_before : (y : ℕ) → 365 ≤ year_start (y + 1)
year_before y = omega (arith, sum_more year_length y)

pub day_low : (t : Date) → IsDate t → 1 ≤ t.day
day_low t p = p.first

-- ---- lists of laws, for the code

-- a date's month is one, and its number is small
pub ruleset dates = (month_low, month_of_lem, in_year_lem, year_start_below, leap_day_le)

-- its number, by the tables
pub ruleset numbers = (start_at, starts_length, early_number, late_number, year_before, day_low, month_of_lem, year_start_below)

-- a day that there is, or is not
pub ruleset days_there = (low_day, no_day_lem)
