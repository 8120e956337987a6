-- Before year 0 there is no year: what is moved back from it stays in year 0, and a shift that ends in year 1 or later does not go
-- before 0000-01-01T00:00. Assumes nothing.
use mathlib.Core.Path.{◌≡◌}
use Prim.Native.Nat.{ℕ, zero, suc, ◌+◌, ◌*◌, ◌≤◌, ◌<◌}
use native.Mathlib.Decide.{dec_le, dec_lt}
use native.Mathlib.Omega.{arith}
use lib.Dec.{lit<}
use lib.IntN.{ℤ, pos, negsuc, nat_abs, ◌+ℤ◌}
use borrow.Author.Tests.{lt-ltb, le-ltb}
use borrow.Author.Differences.{up, down, sum_is_lem}
use Rattle.integers.specs.Floor.{floor_div}
use Rattle.integers.proofs.Parts.{apart, nat_abs_parts, floor_div_parts}
use Rattle.ion.specs.Calendar.Dates.{prev_day}
use Rattle.ion.specs.Calendar.Shift.{IsDateTime, date_of, minute_number, repeat, add_days, shifted}
use Rattle.ion.specs.declared.Date.{Date}
use Rattle.ion.specs.declared.DateTime.{DateTime}
use Rattle.calendar.proofs.Dates.{after_year_zero}

prev_in_year_zero : (t : Date) → t.year ≡ 0 → (prev_day t).year ≡ 0
prev_in_year_zero t e = go (dec_lt 1 t.day) (dec_lt 1 t.month)
  where
    go : Dec (1 < t.day) → Dec (1 < t.month) → (prev_day t).year ≡ 0
    go (yes h) k = simp (lt-ltb _ _ h) e
    go (no h) (yes k) = let l : t.day ≤ 1 = omega arith in simp (le-ltb _ _ l, lt-ltb _ _ k) e
    go (no h) (no k) =
        let l : t.day ≤ 1 = omega arith in
        let m : t.month ≤ 1 = omega arith in
        simp (le-ltb _ _ l, le-ltb _ _ m) (omega (arith, e))

back_in_year_zero : (t : Date) (n : ℕ) → t.year ≡ 0 → (repeat prev_day n t).year ≡ 0
back_in_year_zero t zero e = e
back_in_year_zero t (suc n) e = prev_in_year_zero (repeat prev_day n t) (back_in_year_zero t n e)

no_days_on : (t : Date) (z : ℤ) → up z ≡ 0 → t.year ≡ 0 → (add_days t z).year ≡ 0
no_days_on t (pos zero) h e = e
no_days_on t (pos (suc n)) h e = absurd (omega arith)
no_days_on t (negsuc n) h e = back_in_year_zero t (suc n) e

-- a time of year 0 moved by no minutes, or back by however many
pub year_zero_back : (t : DateTime) (z : ℤ) → t.hour < 24 → t.minute < 60 → t.year ≡ 0 → up z ≡ 0 → (shifted t z).year ≡ 0
year_zero_back t z h m e k =
    let total = pos (t.hour * 60 + t.minute) +ℤ z in
    let d = floor_div_parts total 1440 (lit< tt) in
    no_days_on (date_of t) (floor_div total 1440) (omega (arith, d, sum_is_lem (pos (t.hour * 60 + t.minute)) z, apart total)) e

pub moved_room : (t : DateTime) (z : ℤ) → IsDateTime t → nat_abs z < 1440 → 1 ≤ (shifted t z).year → down z ≤ minute_number t
moved_room t z p w y = go (dec_le (down z) (minute_number t)) (dec_le 1 t.year)
  where
    go : Dec (down z ≤ minute_number t) → Dec (1 ≤ t.year) → down z ≤ minute_number t
    go (yes h) k = h
    go (no n) (yes k) = omega (arith, after_year_zero (date_of t) k, nat_abs_parts z)
    go (no n) (no k) =
        let e : t.year ≡ 0 = omega arith in
        absurd (omega (arith, year_zero_back t z p.hours p.minutes e (omega (arith, apart z))))
