-- A date and time moved by z minutes counts z minutes more, and the opposite move undoes it. Assumes nothing.
use mathlib.Core.Path.{◌≡◌, refl, sym, ap, ◌∙◌}
use mathlib.Core.Bool.{true}
use Prim.Native.Nat.{ℕ, zero, suc, ◌+◌, ◌*◌, ◌≤◌, ◌<◌}
use native.Mathlib.Nat.{div-eq_of_lt, mod-eq_of_lt}
use native.Mathlib.Decide.{dec_le}
use native.Mathlib.Omega.{arith}
use lib.Dec.{lit<}
use lib.IntN.{ℤ, pos, negsuc, nat_abs, neg_ℤ, ◌+ℤ◌, neg_ℤ-neg_ℤ}
use lib.Signed.{lt_z, ◌≤ℤ◌, ◌<ℤ◌}
use borrow.Author.Differences.{up, down, sum_is_lem, neg_is, lt-true}
use Rattle.std.proofs.lemmas.Int.{ints}
use Rattle.integers.specs.Floor.{floor_div, floor_mod, ◌plus◌}
use Rattle.integers.proofs.Parts.{apart, floor_parts, floor_mod_lt, plus_parts, nat_abs_parts}
use Rattle.ion.specs.Calendar.Dates.{day_number, IsDate, next_day, prev_day, year_length}
use Rattle.ion.specs.Calendar.Shift.{date_of, IsDateTime, minute_number, repeat, add_days, at_minute, shifted}
use Rattle.ion.specs.declared.Date.{Date}
use Rattle.ion.specs.declared.DateTime.{DateTime}
use Rattle.calendar.proofs.Sums.{sum_past}
use Rattle.calendar.proofs.Dates.{in_year_lem, day_number_inj, after_year_zero}
use Rattle.calendar.proofs.Days.{next_day_lem, prev_day_lem}

-- ---- days

forward : (t : Date) (n : ℕ) → IsDate t → IsDate (repeat next_day n t) × (day_number (repeat next_day n t) ≡ day_number t + n)
forward t zero p = (p, omega arith)
forward t (suc n) p =
    let h = forward t n p in
    let k = next_day_lem (repeat next_day n t) h.0 in
    (k.0, omega (arith, h.1, k.1))

backward : (t : Date) (n : ℕ) → IsDate t
    → IsDate (repeat prev_day n t) × (n ≤ day_number t → day_number (repeat prev_day n t) + n ≡ day_number t)
backward t zero p = (p, λ l. omega arith)
backward t (suc n) p =
    let h = backward t n p in
    let k = prev_day_lem (repeat prev_day n t) h.0 in
    (k.0, λ l. let e = h.1 (omega arith) in omega (arith, e, k.1 (omega (arith, e))))

-- a date as many days away as may be, and its number where there are so many before
pub add_days_lem : (t : Date) (z : ℤ) → IsDate t
    → IsDate (add_days t z) × (down z ≤ day_number t → day_number (add_days t z) + down z ≡ day_number t + up z)
add_days_lem t (pos n) p = let h = forward t n p in (h.0, λ l. omega (arith, h.1))
add_days_lem t (negsuc n) p = let h = backward t (suc n) p in (h.0, λ l. omega (arith, h.1 l))

-- -1 goes to the day before
pub back : (t : Date) (z : ℤ) → nat_abs z ≤ 1 → lt_z z (pos 0) ≡ true → add_days t z ≡ prev_day t
back t (pos n) h e = absurd (omega (arith, lt-true (pos n) (pos 0) e))
back t (negsuc zero) h e = refl
back t (negsuc (suc n)) h e = absurd (omega arith)

-- minutes that are not below 0 and less than a day stay in it
pub same_day : (t : Date) (z : ℤ) → (pos 0 ≤ℤ z) × (z <ℤ pos 1440)
    → at_minute t (nat_abs z) ≡ at_minute (add_days t (floor_div z 1440)) (floor_mod z 1440)
same_day t (pos n) h =
    let k : n < 1440 = omega (arith, ints, h.1) in
    rw (div-eq_of_lt k, mod-eq_of_lt k)
same_day t (negsuc n) h = absurd (omega (arith, ints, h.0))

-- ---- minutes

-- the minutes tell the date and time
minute_number_inj : (t u : DateTime) → IsDateTime t → IsDateTime u → minute_number t ≡ minute_number u → t ≡ u
minute_number_inj t u p q e =
    let m : day_number (date_of t) ≡ day_number (date_of u) = omega (arith, e, p.hours, p.minutes, q.hours, q.minutes) in
    let d : date_of t ≡ date_of u = day_number_inj (date_of t) (date_of u) p.date q.date m in
    let n : t.hour * 60 + t.minute ≡ u.hour * 60 + u.minute = omega (arith, e, ap day_number d) in
    let h : t.hour ≡ u.hour = omega (arith, n, p.minutes, q.minutes) in
    let k : t.minute ≡ u.minute = omega (arith, n, h) in
    λ i. record { year = (d i).year; month = (d i).month; day = (d i).day; hour = h i; minute = k i }

module _ (t : DateTime) (z : ℤ) (p : IsDateTime t) where
  abbrev time : ℕ
  time = t.hour * 60 + t.minute

  abbrev total : ℤ
  total = pos time +ℤ z

  abbrev days : ℤ
  days = floor_div total 1440

  -- whatever the minutes: a day of the calendar and a time of it
  pub shifted_is : IsDateTime (shifted t z)
  shifted_is =
      let r = floor_mod_lt total 1440 (lit< tt) in
      record { date = (add_days_lem (date_of t) days p.date).0; hours = omega arith; minutes = omega arith }

  -- the days to go back are there, where the minutes are
  enough : down z ≤ minute_number t → down days ≤ day_number (date_of t)
  enough l = omega (arith, sum_is_lem (pos time) z, floor_parts total 1440 (lit< tt), apart days, floor_mod_lt total 1440 (lit< tt))

  shifted_minutes : down z ≤ minute_number t → minute_number (shifted t z) ≡ minute_number t plus z
  shifted_minutes l =
      let e = (add_days_lem (date_of t) days p.date).1 (enough l) in
      omega (arith, sum_is_lem (pos time) z, floor_parts total 1440 (lit< tt), e, plus_parts (minute_number t) z l)

pub shift_back : (t : DateTime) (z : ℤ) → IsDateTime t → down z ≤ minute_number t → shifted (shifted t z) (neg_ℤ z) ≡ t
shift_back t z p l =
    let s = shifted_is t z p in
    let e = shifted_minutes t z p l in
    let f = plus_parts (minute_number t) z l in
    let k : down (neg_ℤ z) ≤ minute_number (shifted t z) = omega (arith, e, f, neg_is z) in
    minute_number_inj (shifted (shifted t z) (neg_ℤ z)) t (shifted_is (shifted t z) (neg_ℤ z) s) p
    (shifted_minutes (shifted t z) (neg_ℤ z) s k ∙ omega (arith, e, f, plus_parts (minute_number (shifted t z)) (neg_ℤ z) k, neg_is z))

-- against an offset and with it again
pub shift_forth : (t : DateTime) (z : ℤ) → IsDateTime t → down (neg_ℤ z) ≤ minute_number t → shifted (shifted t (neg_ℤ z)) z ≡ t
shift_forth t z p l = ap (shifted (shifted t (neg_ℤ z))) (sym (neg_ℤ-neg_ℤ z)) ∙ shift_back t (neg_ℤ z) p l

-- ---- the years 1 to 9999 leave room for an offset on both sides

-- from year 1 on there is a day to go back
pub shift_room : (t : DateTime) (z : ℤ) → 1 ≤ t.year → nat_abs z < 1440 → down z ≤ minute_number t
shift_room t z h k = omega (arith, after_year_zero (date_of t) h, nat_abs_parts z)

year_most : (t u : DateTime) → IsDateTime t → t.year ≤ 9999 → minute_number u ≤ minute_number t + 1439 → u.year ≤ 10000
year_most t u p h l = go (dec_le u.year 10000)
  where
    go : Dec (u.year ≤ 10000) → u.year ≤ 10000
    go (yes k) = k
    go (no k) =
        absurd
        (omega (
          arith,
          sum_past year_length 10000 u.year (omega arith),
          sum_past year_length t.year 10000 (omega arith),
          in_year_lem (date_of t) p.date,
          p.hours,
          p.minutes,
        ))

-- a shift of less than a day stays within the years 0 to 10000
pub shifted_year : (t : DateTime) (z : ℤ) → IsDateTime t → 1 ≤ t.year → t.year ≤ 9999 → nat_abs z < 1440 → (shifted t z).year ≤ 10000
shifted_year t z p h k n =
    let l = shift_room t z h n in
    year_most t (shifted t z) p k (omega (arith, shifted_minutes t z p l, plus_parts (minute_number t) z l, nat_abs_parts z))
