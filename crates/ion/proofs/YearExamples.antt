-- The starts of years at the edges of the rules for leap years, in the table and its listing, as one table of rows and one theorem.
-- Assumes nothing.
use Prim.Native.Nat.{ℕ}
use Prim.Native.String.{String}
use mathlib.Core.List.{List, [], ◌∷◌, map}
use mathlib.Core.Path.{◌≡◌, refl}
use lib.ListN.{get_or}
use Rattle.places.specs.Places.{places_on, places, count_in, count, place_count}
use Rattle.places.specs.Padded.{padded_places}
use Rattle.ion.specs.Calendar.Dates.{is_leap, sum_below, year_start}
use Rattle.ion.specs.Calendar.YearStarts.{year_starts}
use Rattle.ion.specs.Calls.Stamps.{line_of}
use Rattle.ion.specs.Calls.YearListing.{number_line}
use Rattle.ion.specs.Text.Ascii.{ascii}

-- ---- what a row states

-- the number of a year's 1 January, the table's entry of the year, 0 where it has none, and a line with that entry
pub record Answer : Type 0 where
  pub start : ℕ
  pub entry : ℕ
  pub line : List ℕ

pub record Row : Type 0 where
  pub given : Answer
  pub stated : Answer

row : ℕ → ℕ → ℕ → String → Row
row y n e t =
    let x = get_or year_starts y 0 in
    record {
      given = record { start = year_start y; entry = x; line = number_line x };
      stated = record { start = n; entry = e; line = line_of (ascii t) };
    }

-- ---- the table

-- year 0 is a leap year; then every fourth, but of the hundreds only every fourth
pub year_rows : List Row
year_rows =
    row 0 0 0 "0"
    ∷ row 1 366 366 "366"
    ∷ row 2 731 731 "731"
    ∷ row 3 1096 1096 "1096"
    ∷ row 4 1461 1461 "1461"
    ∷ row 5 1827 1827 "1827"
    ∷ row 100 36525 36525 "36525"
    ∷ row 101 36890 36890 "36890"
    ∷ row 400 146097 146097 "146097"
    ∷ row 401 146463 146463 "146463"
    ∷ row 1900 693961 693961 "693961"
    ∷ row 1901 694326 694326 "694326"
    ∷ row 1970 719528 719528 "719528"
    ∷ row 2000 730485 730485 "730485"
    ∷ row 2001 730851 730851 "730851"
    ∷ row 2024 739251 739251 "739251"
    ∷ row 2025 739617 739617 "739617"
    ∷ row 2100 767010 767010 "767010"
    ∷ row 2101 767375 767375 "767375"
    ∷ row 9999 3652060 3652060 "3652060"
    ∷ row 10000 3652425 3652425 "3652425"
    -- past the table
    ∷ row 10001 3652791 0 "0"
    ∷ []

pub year_examples : map (λ (r : Row). r.given) year_rows ≡ map (λ (r : Row). r.stated) year_rows
unfolding year_rows row is_leap sum_below year_starts places_on places count_in count place_count padded_places
year_examples = refl
