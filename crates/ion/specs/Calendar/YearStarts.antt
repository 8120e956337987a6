-- The table of year starts. Assumes nothing.
use Rattle.std.specs.Prelude.{ℕ, List, map}
use Rattle.std.specs.List.{range_with_len}
use Rattle.ion.specs.Calendar.Dates.{year_start}

-- the number of 1 January for each year 0 to 10000, year 0 first
unfoldable pub year_starts : List ℕ
year_starts = map year_start (range_with_len 0 10001)
