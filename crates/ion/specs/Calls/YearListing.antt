-- What the program `year_starts` prints. Assumes nothing.
use Rattle.std.specs.Prelude.{ℕ, List}
use Rattle.ion.specs.Numbers.Padded.{padded}
use Rattle.ion.specs.Calendar.YearStarts.{year_starts}
use Rattle.ion.specs.Calls.Contents.{in_turn}
use Rattle.ion.specs.Calls.Stamps.{line_of}

-- a number in decimal, and a line feed
abbrev pub number_line : ℕ → List ℕ
number_line n = line_of (padded 1 n)

-- a line for each year 0 to 10000
unfoldable pub year_lines : List ℕ
year_lines = in_turn number_line year_starts
