-- Padded numbers, as one table of rows and one theorem: how many bytes a number takes at a width, and its last k bytes, which are its
-- remainder by 10 ^ k, padded to k digits. Assumes nothing.
use Prim.Native.Nat.{ℕ, ◌%◌, ◌^◌}
use Prim.Native.String.{String}
use mathlib.Core.List.{List, [], ◌∷◌, map}
use mathlib.Core.Path.{◌≡◌, refl}
use lib.ListN.{length}
use Rattle.places.specs.Places.{places_on, places, count_in, count, place_count}
use Rattle.places.specs.Padded.{padded_places, last_bytes}
use Rattle.ion.specs.Numbers.Padded.{padded}
use Rattle.ion.specs.Text.Ascii.{ascii}

pub record PaddedRow : Type 0 where
  pub width : ℕ
  pub number : ℕ
  pub bytes : ℕ
  -- how many of the last bytes, and what they are
  pub last : ℕ
  pub text : String

row : ℕ → ℕ → ℕ → ℕ → String → PaddedRow
row w n c k t = record { width = w; number = n; bytes = c; last = k; text = t }

pub padded_rows : List PaddedRow
padded_rows =
    -- zero, at no width, one and two
    row 0 0 1 1 "0"
    ∷ row 1 0 1 1 "0"
    ∷ row 2 0 2 2 "00"
    ∷ row 2 0 2 1 "0"
    -- the width done before the number: one digit more, all of them
    ∷ row 0 7 1 1 "7"
    ∷ row 1 9 1 1 "9"
    ∷ row 1 10 2 2 "10"
    ∷ row 1 10 2 1 "0"
    ∷ row 2 99 2 2 "99"
    ∷ row 2 100 3 3 "100"
    ∷ row 2 100 3 2 "00"
    ∷ row 4 9999 4 4 "9999"
    ∷ row 4 10000 5 5 "10000"
    ∷ row 0 18446744073709551615 20 20 "18446744073709551615"
    ∷ row 19 18446744073709551615 20 20 "18446744073709551615"
    -- the number done before the width
    ∷ row 2 7 2 2 "07"
    ∷ row 2 7 2 1 "7"
    ∷ row 4 7 4 4 "0007"
    ∷ row 4 7 4 3 "007"
    ∷ row 4 987 4 4 "0987"
    ∷ row 9 70000000 9 9 "070000000"
    ∷ row 18 1 18 18 "000000000000000001"
    ∷ row 21 18446744073709551615 21 21 "018446744073709551615"
    ∷ row 24 18446744073709551615 24 22 "0018446744073709551615"
    -- both at once
    ∷ row 4 2020 4 4 "2020"
    ∷ row 10 9999999999 10 10 "9999999999"
    ∷ row 18 999999999999999999 18 18 "999999999999999999"
    ∷ row 20 18446744073709551615 20 20 "18446744073709551615"
    -- every number of last bytes, with zeros inside and in front
    ∷ row 6 10203 6 1 "3"
    ∷ row 6 10203 6 2 "03"
    ∷ row 6 10203 6 3 "203"
    ∷ row 6 10203 6 4 "0203"
    ∷ row 6 10203 6 5 "10203"
    ∷ row 6 10203 6 6 "010203"
    -- powers of ten, and one less
    ∷ row 1 99999 5 5 "99999"
    ∷ row 1 100000 6 6 "100000"
    ∷ row 1 10000000000 11 11 "10000000000"
    ∷ row 1 999999999999999 15 15 "999999999999999"
    ∷ row 1 1000000000000000 16 16 "1000000000000000"
    ∷ row 1 9999999999999999999 19 19 "9999999999999999999"
    ∷ row 1 10000000000000000000 20 20 "10000000000000000000"
    ∷ []

-- what the definitions give at a row, and what it states
pub record PaddedAnswer : Type 0 where
  pub bytes : ℕ
  pub last : List ℕ
  pub remainder : List ℕ

abbrev pub given : PaddedRow → PaddedAnswer
given r =
    record {
      bytes = length (padded r.width r.number);
      last = last_bytes r.last (padded r.width r.number);
      remainder = padded r.last (r.number % 10 ^ r.last);
    }

abbrev pub stated : PaddedRow → PaddedAnswer
stated r = record { bytes = r.bytes; last = ascii r.text; remainder = ascii r.text }

-- every row
pub padded_examples : map given padded_rows ≡ map stated padded_rows
unfolding padded_rows row padded_places places places_on place_count count count_in
padded_examples = refl
