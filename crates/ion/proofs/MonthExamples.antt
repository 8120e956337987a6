-- The lengths of months that a date picker is told, and dates moved over the ends of months, as one table of rows and one theorem.
-- Assumes nothing.
use Prim.Native.Nat.{ℕ}
use mathlib.Core.List.{List, [], ◌∷◌, map}
use mathlib.Core.Path.{◌≡◌, refl}
use lib.IntN.{ℤ, pos, negsuc}
use Rattle.std.specs.Result.{result_unwrap_or}
use Rattle.ion.specs.Calendar.Dates.{is_leap, month_length_of, days_in_month}
use Rattle.ion.specs.Calendar.Shift.{shifted}
use Rattle.ion.specs.Pair.Offset.{offset_minutes}
use Rattle.ion.specs.Pair.Pair.{word_in, no_stamp}
use Rattle.ion.specs.Pair.Word.{word_of}
use Rattle.ion.specs.Calls.Refusal.{number_in}
use Rattle.ion.specs.Calls.Build.{build_checks, build_pair, build_of}
use Rattle.ion.specs.Calls.Stages.{with_year, with_month, with_day, with_hour_and_minute, with_offset}
use Rattle.ion.specs.declared.BuilderOffset.TheVariants.{FromUtcFields}

-- ---- what a row states

pub data Answer : Type 0 where
  lengths : List ℕ → Answer
  -- year, month, day, hour and minute
  time : ℕ → ℕ → ℕ → ℕ → ℕ → Answer
  -- a number and the word of a pair
  built : ℕ → ℕ → Answer

pub record Row : Type 0 where
  pub given : Answer
  pub stated : Answer

row : Answer → Answer → Row
row g s = record { given = g; stated = s }

-- ---- what the definitions give

in_year : ℕ → List ℕ → Answer
in_year y ms = lengths (map (days_in_month y) ms)

-- no month; the first, February and the last; no month
edges : List ℕ
edges = 0 ∷ 1 ∷ 2 ∷ 12 ∷ 13 ∷ 4294967295 ∷ []

months : List ℕ
months = 1 ∷ 2 ∷ 3 ∷ 4 ∷ 5 ∷ 6 ∷ 7 ∷ 8 ∷ 9 ∷ 10 ∷ 11 ∷ 12 ∷ []

moved : ℕ → ℕ → ℕ → ℕ → ℕ → ℤ → Answer
moved y mo d h mi z =
    let t = shifted (record { year = y; month = mo; day = d; hour = h; minute = mi }) z in
    time t.year t.month t.day t.hour t.minute

-- fields in UTC with an offset
from_utc : ℕ → ℕ → ℕ → ℕ → ℕ → ℤ → Answer
from_utc y mo d h mi z =
    let f = with_hour_and_minute (with_day (with_month (with_year y) mo) d) h mi in
    let b = build_of (with_offset f (FromUtcFields (offset_minutes z))) in
    built (number_in b) (word_in (result_unwrap_or b no_stamp))

-- ---- the table

pub month_rows : List Row
month_rows =
    row (in_year 0 edges) (lengths (0 ∷ 31 ∷ 29 ∷ 31 ∷ 0 ∷ 0 ∷ []))
    ∷ row (in_year 1 edges) (lengths (0 ∷ 31 ∷ 28 ∷ 31 ∷ 0 ∷ 0 ∷ []))
    ∷ row (in_year 1900 edges) (lengths (0 ∷ 31 ∷ 28 ∷ 31 ∷ 0 ∷ 0 ∷ []))
    ∷ row (in_year 2000 edges) (lengths (0 ∷ 31 ∷ 29 ∷ 31 ∷ 0 ∷ 0 ∷ []))
    ∷ row (in_year 9999 edges) (lengths (0 ∷ 31 ∷ 28 ∷ 31 ∷ 0 ∷ 0 ∷ []))
    ∷ row (in_year 10000 edges) (lengths (0 ∷ 31 ∷ 29 ∷ 31 ∷ 0 ∷ 0 ∷ []))
    ∷ row (in_year 10001 edges) (lengths (0 ∷ 0 ∷ 0 ∷ 0 ∷ 0 ∷ 0 ∷ []))
    ∷ row (in_year 4294967295 edges) (lengths (0 ∷ 0 ∷ 0 ∷ 0 ∷ 0 ∷ 0 ∷ []))
    ∷ row (in_year 2023 months) (lengths (31 ∷ 28 ∷ 31 ∷ 30 ∷ 31 ∷ 30 ∷ 31 ∷ 31 ∷ 30 ∷ 31 ∷ 30 ∷ 31 ∷ []))
    ∷ row (in_year 2024 months) (lengths (31 ∷ 29 ∷ 31 ∷ 30 ∷ 31 ∷ 30 ∷ 31 ∷ 31 ∷ 30 ∷ 31 ∷ 30 ∷ 31 ∷ []))
    -- back over the first of a month, and on over its last day
    ∷ row (moved 2023 3 1 0 0 (negsuc 0)) (time 2023 2 28 23 59)
    ∷ row (moved 2024 3 1 0 0 (negsuc 0)) (time 2024 2 29 23 59)
    ∷ row (moved 2024 5 1 0 0 (negsuc 1438)) (time 2024 4 30 0 1)
    ∷ row (moved 2024 2 29 23 59 (pos 1)) (time 2024 3 1 0 0)
    ∷ row (moved 2024 1 1 0 0 (negsuc 0)) (time 2023 12 31 23 59)
    ∷ row (moved 2023 12 31 23 59 (pos 1)) (time 2024 1 1 0 0)
    ∷ row (moved 10000 1 1 0 0 (negsuc 0)) (time 9999 12 31 23 59)
    ∷ row (moved 1 1 1 0 0 (negsuc 0)) (time 0 12 31 23 59)
    -- before year 0 there is no year: December has its 31 days, and the year stays 0
    ∷ row (moved 0 1 1 0 0 (negsuc 0)) (time 0 12 31 23 59)
    ∷ row (moved 0 1 1 23 58 (negsuc 1438)) (time 0 12 31 23 59)
    ∷ row (moved 0 2 1 0 0 (negsuc 0)) (time 0 1 31 23 59)
    -- and so the local year of UTC year 0 is refused, but where it becomes 1
    ∷ row (from_utc 0 1 1 0 0 (negsuc 0)) (built 11 0)
    ∷ row (from_utc 0 1 1 23 58 (negsuc 1438)) (built 11 0)
    ∷ row (from_utc 0 1 1 0 0 (pos 0)) (built 11 0)
    ∷ row (from_utc 0 3 1 0 0 (negsuc 0)) (built 11 0)
    ∷ row (from_utc 0 12 31 23 59 (pos 0)) (built 11 0)
    ∷ row (from_utc 0 12 31 23 59 (pos 1)) (built 0 0x0004420000605a10)
    ∷ row (from_utc 1 1 1 0 0 (negsuc 0)) (built 11 0)
    ∷ row (from_utc 1 1 1 0 1 (negsuc 0)) (built 0 0x00044200006059f0)
    ∷ []

pub month_examples : map (λ (r : Row). r.given) month_rows ≡ map (λ (r : Row). r.stated) month_rows
unfolding month_rows row in_year edges months moved from_utc is_leap month_length_of days_in_month word_of build_of build_checks build_pair
month_examples = refl
