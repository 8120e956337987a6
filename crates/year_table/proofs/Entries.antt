-- What the table of year starts holds at each year, and how large that is. Assumes nothing.
use mathlib.Core.Path.{◌≡◌}
use mathlib.Core.Bool.{Bool, true, false}
use Prim.Native.Nat.{ℕ, zero, suc, ◌*◌, ◌≤◌, ◌<◌, zero-le}
use native.Mathlib.Nat.{le_refl}
use native.Mathlib.Omega.{arith}
use lib.ListN.{length, get_or}
use Rattle.std.proofs.lemmas.List.FromFn.{length-map-range_with_len, get_or-map-range_with_len}
use Rattle.ion.specs.Calendar.Dates.{is_leap, leap_day, sum_below, year_start}
use Rattle.ion.specs.Calendar.YearStarts.{year_starts}

pub starts_length : length year_starts ≡ 10001
unfolding year_starts
starts_length = length-map-range_with_len year_start 0 10001

pub start_at : (y d : ℕ) → y < 10001 → get_or year_starts y d ≡ year_start y
unfolding year_starts
start_at y d h = get_or-map-range_with_len year_start 0 10001 y y d h (omega arith)

pub leap_day_le : (leap : Bool) → leap_day leap ≤ 1
leap_day_le true = le_refl 1
leap_day_le false = zero-le

pub year_start_below : (y : ℕ) → year_start y ≤ 366 * y
unfolding sum_below
year_start_below zero = le_refl 0
year_start_below (suc y) = omega (arith, year_start_below y, leap_day_le (is_leap y))
