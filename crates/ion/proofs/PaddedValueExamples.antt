-- Values in every form that the scope allows, as one table of rows and one theorem: what the definition reads in the bytes of each row is
-- what the row states, worked out by hand from the scope. Bytes are in hexadecimal. Assumes nothing.
use Prim.Native.Nat.{ℕ, zero, suc, ◌+◌, ◌-◌, ◌*◌}
use Prim.Native.Char.{code}
use Prim.Native.String.{String, ◌++◌}
use mathlib.Core.Bool.{cond}
use mathlib.Core.List.{List, [], ◌∷◌, map}
use mathlib.Core.Path.{◌≡◌, refl}
use lib.ListN.{length, take}
use lib.Dec.{eqb, ltb}
use Rattle.std.specs.Prelude.{Result, Err}
use Rattle.std.specs.Result.{result_map_both}
use Rattle.std.specs.List.{range_with_len}
use Rattle.places.specs.Places.{value_from}
use Rattle.ion.specs.Numbers.VarUInt.{scan_from}
use Rattle.ion.specs.Numbers.PaddedNumbers.{read_padded_var_uint, read_padded_var_int, padded_int_sign, padded_int_magnitude}
use Rattle.ion.specs.Calendar.Dates.{is_leap, month_length_of}
use Rattle.ion.specs.Pair.Fraction.{capped}
use Rattle.ion.specs.Calls.Build.{build_checks, build_of}
use Rattle.ion.specs.Calls.Refusal.{number_of}
use Rattle.ion.specs.Text.Ascii.{ascii}
use Rattle.ion.specs.Text.ReadText.{digit_run, digits_value, read_digits, read_marked, signed_clock, read_clock, read_offset}
use Rattle.ion.specs.Text.ReadText.{end_offset, end_t, end_date, end_digits, end_second, read_text, read_text_of}
use Rattle.ion.specs.Value.Decode.{decode_offset, decode_fields, decode_parts, filled, precision_with}
use Rattle.ion.specs.Value.ReadValue.{read_after, read_by, same}
use Rattle.ion.specs.Value.ReadPaddedValue.{decode_padded_fraction, is_utc_time, read_padded_body, read_padded_length, read_padded_value}
use Rattle.ion.specs.declared.Timestamp.{Timestamp}

-- ---- bytes in hexadecimal

hex_digit : ℕ → ℕ
hex_digit c = cond (ltb c (code "A")) (c - code "0") (c - code "A" + 10)

-- two digits a byte, with blanks between bytes
hex_bytes : List ℕ → List ℕ
hex_bytes [] = []
hex_bytes (a ∷ []) = []
hex_bytes (a ∷ b ∷ s) = cond (eqb a (code " ")) (hex_bytes (b ∷ s)) ((hex_digit a * 16 + hex_digit b) ∷ hex_bytes s)

hex : String → List ℕ
hex s = hex_bytes (ascii s)

-- n bytes of value 0
zeros : ℕ → String
zeros zero = " "
zeros (suc n) = " 00" ++ zeros n

-- ---- what a row states

-- the timestamp and how many bytes it takes, or a number of the scope's table
abbrev pub Answer : Type 0
Answer = Result (Timestamp × ℕ) ℕ

pub record PaddedValueRow : Type 0 where
  pub bytes : List ℕ
  pub stated : Answer

row : List ℕ → Answer → PaddedValueRow
row s a = record { bytes = s; stated = a }

-- n bytes as the timestamp of a text
text_answer : ℕ → String → Answer
text_answer n t = result_map_both (λ x. (x, n)) number_of (read_text_of (ascii t))

takes : String → ℕ → String → PaddedValueRow
takes s n t = row (hex s) (text_answer n t)

refuses : String → ℕ → PaddedValueRow
refuses s r = row (hex s) (Err r)

-- a value cut at each place: 13
cuts : String → List PaddedValueRow
cuts s = map (λ n. row (take n (hex s)) (Err 13)) (range_with_len 0 (length (hex s)))

-- P3's body and more bytes after its second, with 6E and a length in front
longer : String → List ℕ
longer s = let b = hex ("80 0F E4 82 83 84 85 86" ++ s) in 0x6e ∷ (0x80 + length b) ∷ b

-- more bytes that are a fraction, in the text t
fraction : String → String → PaddedValueRow
fraction s t = row (longer s) (text_answer (length (longer s)) ("2020-02-03T04:05:06" ++ t ++ "+00:00"))

-- and that are none
no_fraction : String → PaddedValueRow
no_fraction s = row (longer s) (Err 15)

-- an exponent beside each form of a zero coefficient: a fraction, in the text t
beside_zero : String → String → List PaddedValueRow
beside_zero e t = map (λ c. fraction (e ++ c) t) ("" ∷ "00" ∷ "80" ∷ "80 00" ∷ "00 00 00" ∷ [])

-- and beside other coefficients: none
beside_others : String → List PaddedValueRow
beside_others e = map (λ c. no_fraction (e ++ c)) ("01" ∷ "81" ∷ "00 01" ∷ "80 01" ∷ "FF FF FF FF FF FF FF FF FF" ∷ [])

-- ---- the table, group by group

-- the scope's values, and bytes after a value, which are not read
values : List PaddedValueRow
values =
    takes "62 C0 81" 3 "0001T"
    ∷ takes "68 80 0F E4 82 83 84 85 86" 9 "2020-02-03T04:05:06+00:00"
    ∷ takes "6B 43 E0 0F E4 82 83 8C 85 86 C3 46" 12 "2020-02-03T04:05:06.070-08:00"
    ∷ takes "6E 8E 43 E0 0F E4 82 83 8C 85 86 C9 07 5B CD 15" 16 "2020-02-03T04:05:06.123456789-08:00"
    ∷ takes "6B C0 0F E4 82 83 84 85 86 C3 00 80" 12 "2020-02-03T04:05:06.128-00:00"
    ∷ takes "66 81 80 8C 9F 97 BB" 7 "0001-01-01T00:00+00:01"
    ∷ takes "67 C1 4E 90 81 81 80 80" 8 "9999-12-31T23:59-00:01"
    ∷ takes "62 C0 81 6F" 3 "0001T"
    ∷ takes "62 C0 81 82 81" 3 "0001T"
    ∷ takes "68 80 0F E4 82 83 84 85 86 C1 05" 9 "2020-02-03T04:05:06+00:00"
    ∷ takes "6E 82 C0 81 FF" 4 "0001T"
    ∷ []

headers : List PaddedValueRow
headers =
    -- no byte, and no descriptor
    refuses "" 13
    ∷ refuses "00" 14
    ∷ refuses "5F" 14
    ∷ refuses "5F C0 81" 14
    ∷ refuses "6F" 14
    ∷ refuses "6F C0 81" 14
    ∷ refuses "FF" 14
    -- a body of nothing, and one without a year
    ∷ refuses "60" 15
    ∷ refuses "60 C0 81" 15
    ∷ refuses "61 C0" 15
    ∷ refuses "61 C0 81" 15
    ∷ refuses "6E 80" 15
    ∷ refuses "6E 00 80" 15
    ∷ refuses "6E 81 C0" 15
    -- a length of one byte to ten, and of eleven
    ∷ takes "6E 82 C0 81" 4 "0001T"
    ∷ takes "6E 83 C0 00 81" 5 "0001T"
    ∷ takes "6E 00 83 C0 00 81" 6 "0001T"
    ∷ takes ("6E" ++ zeros 8 ++ "82 C0 81") 12 "0001T"
    ∷ takes ("6E" ++ zeros 9 ++ "82 C0 81") 13 "0001T"
    ∷ refuses ("6E" ++ zeros 10 ++ "82 C0 81") 15
    -- cut short, even above 64; and no mark in ten bytes
    ∷ refuses "6E" 13
    ∷ refuses "6E 00" 13
    ∷ refuses "6E 7F" 13
    ∷ refuses ("6E" ++ zeros 9) 13
    ∷ refuses "6E 7F 7F 7F 7F 7F 7F 7F 7F 7F" 13
    ∷ refuses ("6E" ++ zeros 10) 15
    ∷ refuses "6E 7F 7F 7F 7F 7F 7F 7F 7F 7F 7F" 15
    -- 13, 14, 63 and 64, padded by a month of ten bytes and by a coefficient; a byte missing, also where what is there is no body
    ∷ takes ("6E 8D C0 0F E4" ++ zeros 9 ++ "82") 15 "2020-02T"
    ∷ refuses ("6E 8E C0 0F E4" ++ zeros 9 ++ "82") 13
    ∷ takes ("6E BF 80 0F E4 82 83 84 85 86 C1" ++ zeros 53 ++ "05") 65 "2020-02-03T04:05:06.5+00:00"
    ∷ takes ("6E C0 80 0F E4 82 83 84 85 86 C1" ++ zeros 54 ++ "05") 66 "2020-02-03T04:05:06.5+00:00"
    ∷ takes ("6E 00 C0 80 0F E4 82 83 84 85 86 C1" ++ zeros 54 ++ "05") 67 "2020-02-03T04:05:06.5+00:00"
    ∷ refuses ("6E C0 80 0F E4 82 83 84 85 86 C1" ++ zeros 53 ++ "05") 13
    ∷ refuses "6E C0" 13
    ∷ refuses "64 80 80 8D" 13
    -- above 64, even where the bytes are not there: 65, 128, 2 ^ 64 + 8, 2 ^ 70 - 1
    ∷ refuses ("6E C1 80 0F E4 82 83 84 85 86 C1" ++ zeros 55 ++ "05") 15
    ∷ refuses "6E C1" 15
    ∷ refuses "6E 00 C1" 15
    ∷ refuses "6E 01 80" 15
    ∷ refuses ("6E 02" ++ zeros 8 ++ "88 80 0F E4 82 83 84 85 86") 15
    ∷ refuses "6E 7F 7F 7F 7F 7F 7F 7F 7F 7F FF" 15
    ∷ []

fields : List PaddedValueRow
fields =
    -- the year, the month and the second in 2, 9, 10 and 11 bytes
    takes "63 C0 00 81" 4 "0001T"
    ∷ takes ("6A C0" ++ zeros 8 ++ "81") 11 "0001T"
    ∷ takes ("6B C0" ++ zeros 9 ++ "81") 12 "0001T"
    ∷ refuses ("6C C0" ++ zeros 10 ++ "81") 15
    ∷ takes "64 C0 00 0F E4" 5 "2020T"
    ∷ takes ("6B C0" ++ zeros 8 ++ "0F E4") 12 "2020T"
    ∷ takes "65 C0 0F E4 00 82" 6 "2020-02T"
    ∷ takes ("6C C0 0F E4" ++ zeros 8 ++ "82") 13 "2020-02T"
    ∷ takes ("6D C0 0F E4" ++ zeros 9 ++ "82") 14 "2020-02T"
    ∷ refuses ("6E 8E C0 0F E4" ++ zeros 10 ++ "82") 15
    ∷ takes "69 80 0F E4 82 83 84 85 00 86" 10 "2020-02-03T04:05:06+00:00"
    ∷ takes ("6E 90 80 0F E4 82 83 84 85" ++ zeros 8 ++ "86") 18 "2020-02-03T04:05:06+00:00"
    ∷ takes ("6E 91 80 0F E4 82 83 84 85" ++ zeros 9 ++ "86") 19 "2020-02-03T04:05:06+00:00"
    ∷ refuses ("6E 92 80 0F E4 82 83 84 85" ++ zeros 10 ++ "86") 15
    -- every number
    ∷ takes "6E 95 40 80 00 0F E4 00 82 00 83 00 84 00 85 00 86 40 83 00 00 00 46" 23 "2020-02-03T04:05:06.070-00:00"
    -- no mark in ten bytes, and none before the body ends
    ∷ refuses ("6B C0" ++ zeros 10) 15
    ∷ refuses "6B C0 7F 7F 7F 7F 7F 7F 7F 7F 7F 7F" 15
    ∷ refuses ("6A C0" ++ zeros 9) 15
    ∷ refuses ("6A C0" ++ zeros 9 ++ "81") 15
    ∷ refuses "62 C0 01" 15
    ∷ refuses "62 C0 0F E4" 15
    ∷ refuses ("6E 91 80 0F E4 82 83 84 85" ++ zeros 10) 15
    ∷ refuses "68 80 0F E4 82 83 84 85 06" 15
    -- 2 ^ 8, 2 ^ 14, 2 ^ 32 and 2 ^ 64 more than a month, a year, an hour and a second that pass
    ∷ refuses "65 C0 0F E4 02 82" 15
    ∷ refuses "64 C0 01 00 81" 15
    ∷ refuses "66 C0 10 00 00 0F E4" 15
    ∷ refuses ("6B C0 02" ++ zeros 7 ++ "0F E4") 15
    ∷ refuses "6B 80 0F E4 82 83 10 00 00 00 84 85" 15
    ∷ refuses ("6E 90 80 0F E4 82 83 02" ++ zeros 8 ++ "84 85") 15
    ∷ refuses "6C 80 0F E4 82 83 84 85 10 00 00 00 86" 15
    ∷ refuses ("6E 91 80 0F E4 82 83 84 85 02" ++ zeros 8 ++ "86") 15
    ∷ []

offsets : List PaddedValueRow
offsets =
    -- negative zero, in 1, 2 and 10 bytes, is unknown
    takes "68 C0 0F E4 82 83 84 85 86" 9 "2020-02-03T04:05:06-00:00"
    ∷ takes "69 40 80 0F E4 82 83 84 85 86" 10 "2020-02-03T04:05:06-00:00"
    ∷ takes ("6E 91 40" ++ zeros 8 ++ "80 0F E4 82 83 84 85 86") 19 "2020-02-03T04:05:06-00:00"
    ∷ refuses ("6E 92 40" ++ zeros 9 ++ "80 0F E4 82 83 84 85 86") 15
    -- and zero is known
    ∷ takes "69 00 80 0F E4 82 83 84 85 86" 10 "2020-02-03T04:05:06+00:00"
    ∷ takes ("6E 91" ++ zeros 9 ++ "80 0F E4 82 83 84 85 86") 19 "2020-02-03T04:05:06+00:00"
    ∷ refuses ("6E 92" ++ zeros 10 ++ "80 0F E4 82 83 84 85 86") 15
    -- the sign stands in the first byte alone
    ∷ takes "68 BF 0F E4 82 83 84 85 86" 9 "2020-02-03T05:08:06+01:03"
    ∷ takes "68 FF 0F E4 82 83 84 85 86" 9 "2020-02-03T03:02:06-01:03"
    ∷ takes "69 00 C0 0F E4 82 83 84 85 86" 10 "2020-02-03T05:09:06+01:04"
    ∷ takes "69 40 C0 0F E4 82 83 84 85 86" 10 "2020-02-03T03:01:06-01:04"
    ∷ takes "6A 40 03 E0 0F E4 82 83 8C 85 86" 11 "2020-02-03T04:05:06-08:00"
    -- 1439 minutes and 1440, either way
    ∷ takes "68 0B 9F 0F E4 82 83 84 85" 9 "2020-02-04T04:04+23:59"
    ∷ takes "68 4B 9F 0F E4 82 83 84 85" 9 "2020-02-02T04:06-23:59"
    ∷ takes ("6E 90" ++ zeros 8 ++ "0B 9F 0F E4 82 83 84 85") 18 "2020-02-04T04:04+23:59"
    ∷ refuses "68 0B A0 0F E4 82 83 84 85" 15
    ∷ refuses "68 4B A0 0F E4 82 83 84 85" 15
    -- 2 ^ 32 and 2 ^ 64 more than 5, than -5 and than negative zero
    ∷ refuses "6B 10 00 00 00 85 0F E4 82 83 84 85" 15
    ∷ refuses ("6E 90 02" ++ zeros 8 ++ "85 0F E4 82 83 84 85") 15
    ∷ refuses ("6E 90 42" ++ zeros 8 ++ "85 0F E4 82 83 84 85") 15
    ∷ refuses ("6B 42" ++ zeros 8 ++ "80 81") 15
    -- no mark
    ∷ refuses "61 40" 15
    ∷ refuses "62 40 00" 15
    -- beside a year, a month and a day only an unknown one
    ∷ takes "63 40 80 81" 4 "0001T"
    ∷ takes ("6B 40" ++ zeros 8 ++ "80 81") 12 "0001T"
    ∷ refuses "62 80 81" 15
    ∷ refuses "62 81 81" 15
    ∷ refuses "63 00 80 81" 15
    ∷ takes "64 C0 0F E4 82" 5 "2020-02T"
    ∷ takes "65 40 80 0F E4 82" 6 "2020-02T"
    ∷ refuses "64 80 0F E4 82" 15
    ∷ refuses "65 00 80 0F E4 82" 15
    ∷ takes "65 C0 0F E4 82 83" 6 "2020-02-03T"
    ∷ takes "66 40 80 0F E4 82 83" 7 "2020-02-03T"
    ∷ refuses "65 80 0F E4 82 83" 15
    ∷ refuses "65 C1 0F E4 82 83" 15
    ∷ refuses "66 00 80 0F E4 82 83" 15
    -- beside an hour any, but no hour without its minute
    ∷ takes "67 C0 0F E4 82 83 84 85" 8 "2020-02-03T04:05-00:00"
    ∷ takes "67 80 0F E4 82 83 84 85" 8 "2020-02-03T04:05+00:00"
    ∷ refuses "66 C0 0F E4 82 83 84" 15
    ∷ refuses "66 80 0F E4 82 83 84" 15
    ∷ refuses "67 80 0F E4 82 83 00 84" 15
    ∷ []

-- UTC fields
dates : List PaddedValueRow
dates =
    refuses "64 C0 0F E4 80" 15
    ∷ takes "64 C0 0F E4 8C" 5 "2020-12T"
    ∷ refuses "64 C0 0F E4 8D" 15
    ∷ refuses "65 C0 0F E4 82 80" 15
    ∷ takes "65 C0 0F E4 82 9D" 6 "2020-02-29T"
    ∷ refuses "65 C0 0F E4 82 9E" 15
    ∷ takes "65 C0 0E EC 82 9C" 6 "1900-02-28T"
    ∷ refuses "65 C0 0E EC 82 9D" 15
    ∷ takes "65 C0 0F D0 82 9D" 6 "2000-02-29T"
    ∷ refuses "65 C0 0F E4 84 9F" 15
    ∷ takes "65 C0 0F E4 8C 9F" 6 "2020-12-31T"
    ∷ refuses "65 C0 0F E4 8C A0" 15
    ∷ takes "67 C0 0F E4 82 83 97 BB" 8 "2020-02-03T23:59-00:00"
    ∷ refuses "67 C0 0F E4 82 83 98 80" 15
    ∷ refuses "67 C0 0F E4 82 83 97 BC" 15
    ∷ takes "68 C0 0F E4 82 83 97 BB BB" 9 "2020-02-03T23:59:59-00:00"
    ∷ refuses "68 C0 0F E4 82 83 97 BB BC" 15
    -- also where the offset would move them to a date and a time
    ∷ refuses "68 4B 9F 0F E4 8D 81 80 80" 15
    ∷ refuses "68 0B 9F 0F E4 82 80 84 85" 15
    ∷ refuses "68 4B 9F 0F E4 82 9E 84 85" 15
    ∷ refuses "67 80 0F E4 82 83 98 80" 15
    ∷ refuses "67 C1 0F E4 82 83 98 80" 15
    ∷ refuses "67 C1 0F E4 82 83 84 BC" 15
    ∷ []

-- the local year decides
years : List PaddedValueRow
years =
    -- UTC year 0
    takes "67 81 00 80 8C 9F 97 BB" 8 "0001-01-01T00:00+00:01"
    ∷ refuses "66 81 80 8C 9F 97 BA" 15
    ∷ takes "67 0B 9F 80 8C 9F 80 81" 8 "0001-01-01T00:00+23:59"
    ∷ refuses "67 0B 9F 80 8C 9F 80 80" 15
    ∷ refuses "66 80 80 8C 9F 97 BB" 15
    ∷ refuses "66 C0 80 8C 9F 97 BB" 15
    ∷ refuses "66 C1 80 81 81 80 80" 15
    ∷ refuses "62 C0 80" 15
    ∷ refuses "64 C0 80 8C 9F" 15
    -- UTC years 1 and 9999
    ∷ takes "66 C1 81 81 81 80 81" 7 "0001-01-01T00:00-00:01"
    ∷ refuses "66 C1 81 81 81 80 80" 15
    ∷ takes "63 C0 4E 8F" 4 "9999T"
    ∷ takes "67 80 4E 8F 8C 9F 97 BB" 8 "9999-12-31T23:59+00:00"
    ∷ refuses "67 81 4E 8F 8C 9F 97 BB" 15
    -- UTC year 10000
    ∷ takes "6A C1 4E 90 81 81 80 80 BB C1 09" 11 "9999-12-31T23:59:59.9-00:01"
    ∷ refuses "67 C1 4E 90 81 81 80 81" 15
    ∷ takes "68 4B 9F 4E 90 81 81 97 BA" 9 "9999-12-31T23:59-23:59"
    ∷ refuses "68 4B 9F 4E 90 81 81 97 BB" 15
    ∷ refuses "67 80 4E 90 81 81 80 80" 15
    ∷ refuses "67 81 4E 90 81 81 80 80" 15
    ∷ refuses "67 C0 4E 90 81 81 80 80" 15
    ∷ refuses "63 C0 4E 90" 15
    ∷ refuses "64 C0 4E 90 81" 15
    -- and above
    ∷ refuses "67 C1 4E 91 81 81 80 80" 15
    ∷ refuses "68 4B 9F 4E 91 81 81 80 80" 15
    ∷ refuses "63 C0 4E 91" 15
    ∷ refuses "63 C0 7F FF" 15
    ∷ []

fractions : List PaddedValueRow
fractions =
    -- nothing; a seventh number is an exponent: 7, -7, one with a coefficient, and ones that do not end
    fraction "" ""
    ∷ fraction "87" ""
    ∷ fraction "C7" ".0000000"
    ∷ no_fraction "87 08"
    ∷ no_fraction "07"
    ∷ no_fraction "00 00"
    ∷ no_fraction (zeros 10)
    -- padded; 80 alone is negative zero, not 128
    ∷ fraction "C1 05" ".5"
    ∷ fraction "C1 00 05" ".5"
    ∷ fraction "C1 00 00 00 00 00 00 00 00 00 00 00 05" ".5"
    ∷ fraction "40 81 05" ".5"
    ∷ fraction ("40" ++ zeros 8 ++ "81 05") ".5"
    ∷ no_fraction ("40" ++ zeros 9 ++ "81 05")
    ∷ fraction "C3 00 00 46" ".070"
    ∷ fraction "C3 7F" ".127"
    ∷ fraction "C3 80" ".000"
    ∷ fraction "C3 00 80" ".128"
    ∷ fraction "C3 00 00 80" ".128"
    -- below zero
    ∷ no_fraction "C3 81"
    ∷ no_fraction "C3 FF"
    ∷ no_fraction "C3 80 80"
    ∷ no_fraction "C3 80 00 00 46"
    -- in 1, 3 and 18 digits: the most, and a second
    ∷ fraction "C1 09" ".9"
    ∷ no_fraction "C1 0A"
    ∷ no_fraction "C1 00 0A"
    ∷ fraction "C3 03 E7" ".999"
    ∷ no_fraction "C3 03 E8"
    ∷ no_fraction "C3 00 00 03 E8"
    ∷ fraction "D2 01" ".000000000000000001"
    ∷ fraction "D2 0D E0 B6 B3 A7 63 FF FF" ".999999999999999999"
    ∷ fraction "D2 00 00 0D E0 B6 B3 A7 63 FF FF" ".999999999999999999"
    ∷ no_fraction "D2 0D E0 B6 B3 A7 64 00 00"
    -- coefficients of 2 ^ 64, 2 ^ 64 + 5, 2 ^ 128 - 1 and 2 ^ 128 + 5
    ∷ no_fraction "C1 01 00 00 00 00 00 00 00 00"
    ∷ no_fraction "D2 01 00 00 00 00 00 00 00 00"
    ∷ no_fraction "C1 01 00 00 00 00 00 00 00 05"
    ∷ no_fraction "D2 00 FF FF FF FF FF FF FF FF FF FF FF FF FF FF FF FF"
    ∷ no_fraction "C1 01 00 00 00 00 00 00 00 00 00 00 00 00 00 00 00 05"
    -- more digits than 18, of zero too: 19, 20, 38, 64, 2 ^ 32 + 1, 2 ^ 64, 2 ^ 64 + 1, 2 ^ 69 - 1
    ∷ no_fraction "D3"
    ∷ no_fraction "D3 00"
    ∷ no_fraction "D3 80"
    ∷ no_fraction "D3 01"
    ∷ no_fraction "D4"
    ∷ no_fraction "D4 05"
    ∷ no_fraction "E6 05"
    ∷ no_fraction "40 C0"
    ∷ no_fraction "40 C0 05"
    ∷ no_fraction "50 00 00 00 81 05"
    ∷ no_fraction "42 00 00 00 00 00 00 00 00 80"
    ∷ no_fraction "42 00 00 00 00 00 00 00 00 81 05"
    ∷ no_fraction "7F 7F 7F 7F 7F 7F 7F 7F 7F FF"
    ∷ no_fraction "7F 7F 7F 7F 7F 7F 7F 7F 7F FF 01"
    -- an exponent of 2 ^ 64 - 1, which is -1 in 64 bits
    ∷ fraction "01 7F 7F 7F 7F 7F 7F 7F 7F FF" ""
    ∷ no_fraction "01 7F 7F 7F 7F 7F 7F 7F 7F FF 05"
    ∷ []

-- no fraction comes before a second: its first byte is then a second, an hour, a day or a month
early : List PaddedValueRow
early =
    refuses "69 80 0F E4 82 83 84 85 C1 05" 15
    ∷ refuses "68 80 0F E4 82 83 84 85 C1" 15
    ∷ refuses "69 80 0F E4 82 83 84 85 80 00" 15
    ∷ takes "69 80 0F E4 82 83 84 85 80 80" 10 "2020-02-03T04:05:00+00:00"
    ∷ refuses "67 C0 0F E4 82 83 C1 05" 15
    ∷ refuses "66 C0 0F E4 82 83 C1" 15
    ∷ refuses "67 C0 0F E4 82 83 80 00" 15
    ∷ takes "67 C0 0F E4 82 83 80 80" 8 "2020-02-03T00:00-00:00"
    ∷ refuses "66 C0 0F E4 82 C1 05" 15
    ∷ refuses "65 C0 0F E4 C1 05" 15
    ∷ []

pub padded_value_table : List (List PaddedValueRow)
padded_value_table =
    values
    ∷ cuts "62 C0 81"
    ∷ cuts "68 80 0F E4 82 83 84 85 86"
    ∷ cuts "6B 43 E0 0F E4 82 83 8C 85 86 C3 46"
    ∷ cuts "6E 8E 43 E0 0F E4 82 83 8C 85 86 C9 07 5B CD 15"
    ∷ cuts "6B C0 0F E4 82 83 84 85 86 C3 00 80"
    ∷ cuts "66 81 80 8C 9F 97 BB"
    ∷ cuts "67 C1 4E 90 81 81 80 80"
    ∷ headers
    ∷ fields
    ∷ offsets
    ∷ dates
    ∷ years
    ∷ fractions
    ∷ early
    -- exponents of 0 or more: negative zero in 1, 2 and 10 bytes, zero, 5, and 2 ^ 69 - 1, the most in ten bytes
    ∷ beside_zero "C0" ""
    ∷ beside_others "C0"
    ∷ beside_zero "40 80" ""
    ∷ beside_others "40 80"
    ∷ beside_zero ("40" ++ zeros 8 ++ "80") ""
    ∷ beside_others ("40" ++ zeros 8 ++ "80")
    ∷ beside_zero "80" ""
    ∷ beside_others "80"
    ∷ beside_zero "00 80" ""
    ∷ beside_others "00 80"
    ∷ beside_zero "85" ""
    ∷ beside_others "85"
    ∷ beside_zero "3F 7F 7F 7F 7F 7F 7F 7F 7F FF" ""
    ∷ beside_others "3F 7F 7F 7F 7F 7F 7F 7F 7F FF"
    -- -1 to -18, and -18 in 2 and 10 bytes
    ∷ beside_zero "C1" ".0"
    ∷ beside_zero "C2" ".00"
    ∷ beside_zero "C3" ".000"
    ∷ beside_zero "C4" ".0000"
    ∷ beside_zero "C5" ".00000"
    ∷ beside_zero "C6" ".000000"
    ∷ beside_zero "C7" ".0000000"
    ∷ beside_zero "C8" ".00000000"
    ∷ beside_zero "C9" ".000000000"
    ∷ beside_zero "CA" ".0000000000"
    ∷ beside_zero "CB" ".00000000000"
    ∷ beside_zero "CC" ".000000000000"
    ∷ beside_zero "CD" ".0000000000000"
    ∷ beside_zero "CE" ".00000000000000"
    ∷ beside_zero "CF" ".000000000000000"
    ∷ beside_zero "D0" ".0000000000000000"
    ∷ beside_zero "D1" ".00000000000000000"
    ∷ beside_zero "D2" ".000000000000000000"
    ∷ beside_zero "40 92" ".000000000000000000"
    ∷ beside_zero ("40" ++ zeros 8 ++ "92") ".000000000000000000"
    ∷ []

abbrev pub given : PaddedValueRow → Answer
given r = result_map_both (λ x. x) number_of (read_padded_value r.bytes)

-- every row
pub padded_value_examples : map (map given) padded_value_table ≡ map (map (λ (r : PaddedValueRow). r.stated)) padded_value_table
unfolding padded_value_table values headers fields offsets dates years fractions early cuts longer fraction no_fraction beside_zero
    beside_others row text_answer takes refuses hex_digit hex_bytes hex zeros value_from digit_run digits_value read_digits read_marked
    signed_clock read_clock read_offset end_offset end_t end_date end_digits end_second read_text read_text_of same build_of build_checks
    is_leap month_length_of capped scan_from read_padded_var_uint read_padded_var_int padded_int_sign padded_int_magnitude decode_offset
    decode_fields decode_parts filled precision_with decode_padded_fraction is_utc_time read_padded_body read_padded_length
    read_padded_value read_after read_by
padded_value_examples = refl
