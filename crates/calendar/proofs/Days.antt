-- The day after a date is one more, and the day before one less. Assumes nothing.
use mathlib.Core.Path.{◌≡◌, sym, ap}
use Prim.Native.Nat.{ℕ, zero, suc, ◌+◌, ◌-◌, ◌≤◌, ◌<◌}
use native.Mathlib.Nat.{le_of_eq, le_refl}
use native.Mathlib.Decide.{dec_lt}
use native.Mathlib.Omega.{arith}
use lib.Dec.{lit≤}
use borrow.Author.Tests.{lt-ltb, le-ltb}
use Rattle.ion.specs.Calendar.Dates.{is_leap, month_length, year_length, sum_below, year_start}
use Rattle.ion.specs.Calendar.Dates.{month_start, day_number, IsDate, next_day, prev_day}
use Rattle.ion.specs.declared.Date.{Date}
use Rattle.calendar.proofs.Sums.{sum_more}
use Rattle.calendar.proofs.Months.{month_least, december, january, months_year}
use Rattle.calendar.proofs.Dates.{month_low, month_of_lem}

year_pos : (y : ℕ) → 0 < year_start y → y - 1 + 1 ≡ y
unfolding sum_below
year_pos zero h = omega arith
year_pos (suc y) h = omega arith

pub next_day_lem : (t : Date) → IsDate t → IsDate (next_day t) × (day_number (next_day t) ≡ day_number t + 1)
next_day_lem t p = go (dec_lt t.day (month_length t.year t.month)) (dec_lt t.month 12)
  where
    go : Dec (t.day < month_length t.year t.month) → Dec (t.month < 12)
        → IsDate (next_day t) × (day_number (next_day t) ≡ day_number t + 1)
    go (yes h) k = simp (lt-ltb _ _ h) (record { first = omega arith; last = omega arith }, omega arith)
    go (no h) (yes k) =
        let full : month_length t.year t.month ≤ t.day = omega arith in
        simp (le-ltb _ _ full, lt-ltb _ _ k) (
          record { first = lit≤ tt; last = omega (arith, month_least (is_leap t.year) (t.month + 1) (omega arith) (omega arith)) },
          omega (arith, sum_more (month_length t.year) t.month, p.last),
        )
    go (no h) (no k) =
        let full : month_length t.year t.month ≤ t.day = omega arith in
        let last : 12 ≤ t.month = omega arith in
        let e : t.month + 1 ≡ 13 = omega (arith, month_of_lem t p) in
        simp (le-ltb _ _ full, le-ltb _ _ last) (
          record { first = lit≤ tt; last = omega (arith, month_least (is_leap (t.year + 1)) 1 (omega arith) (omega arith)) },
          omega (
            arith,
            sum_more (month_length t.year) t.month,
            p.last,
            sum_more year_length t.year,
            january (is_leap (t.year + 1)),
            ap (month_start t.year) e,
            months_year (is_leap t.year),
          ),
        )

-- the day before 0000-01-01 is a date too, but has no number below
pub prev_day_lem : (t : Date) → IsDate t → IsDate (prev_day t) × (0 < day_number t → day_number (prev_day t) + 1 ≡ day_number t)
prev_day_lem t p = go (dec_lt 1 t.day) (dec_lt 1 t.month)
  where
    go : Dec (1 < t.day) → Dec (1 < t.month) → IsDate (prev_day t) × (0 < day_number t → day_number (prev_day t) + 1 ≡ day_number t)
    go (yes h) k = simp (lt-ltb _ _ h) (record { first = omega arith; last = omega (arith, p.last) }, λ pos. omega arith)
    go (no h) (yes k) =
        let low : t.day ≤ 1 = omega arith in
        let e : t.month - 1 + 1 ≡ t.month = omega arith in
        let days = month_least (is_leap t.year) (t.month - 1) (omega arith) (omega (arith, month_of_lem t p)) in
        simp (le-ltb _ _ low, lt-ltb _ _ k) (
          record { first = omega (arith, days); last = le_refl _ },
          λ pos. omega (arith, p.first, days, sum_more (month_length t.year) (t.month - 1), ap (month_start t.year) e),
        )
    go (no h) (no k) = simp (le-ltb _ _ low, le-ltb _ _ low') (
      record { first = lit≤ tt; last = le_of_eq (sym (december _)) },
      λ pos. omega (
        arith,
        first,
        sum_more year_length (t.year - 1),
        ap year_start (e pos),
        sum_more (month_length (t.year - 1)) 12,
        months_year (is_leap (t.year - 1)),
        december (is_leap (t.year - 1)),
      ),
    )
      where
        low : t.day ≤ 1
        low = omega arith

        low' : t.month ≤ 1
        low' = omega arith

        first : day_number t ≡ year_start t.year
        first =
            omega (
              arith,
              p.first,
              january (is_leap t.year),
              ap (month_start t.year) (let f : t.month ≡ 1 = omega (arith, month_low t p) in f),
            )

        e : 0 < day_number t → t.year - 1 + 1 ≡ t.year
        e pos = year_pos t.year (omega (arith, first, pos))
