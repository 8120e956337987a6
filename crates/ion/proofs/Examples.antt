-- P1 to P12 of the scope, as one table of rows and one theorem: what the definitions give at each row is what the scope states.
-- Assumes nothing.
use Prim.Native.Nat.{ℕ}
use mathlib.Core.Bool.{Bool, true}
use mathlib.Core.List.{List, [], ◌∷◌, ◌++◌, map}
use mathlib.Core.Path.{◌≡◌, refl}
use lib.IntN.{ℤ, pos, negsuc}
use Rattle.std.specs.Prelude.{Result, Ok}
use Rattle.std.specs.Result.{result_unwrap_or}
use Rattle.std.specs.declared.cmp.Ordering.{Ordering}
use Rattle.std.specs.declared.cmp.Ordering.TheVariants.{Equal, Greater}
use Rattle.places.specs.Places.{places_on, places, count_in, count, place_count, value_from}
use Rattle.places.specs.Padded.{padded_places}
use Rattle.ion.specs.Text.Ascii.{ascii}
use Rattle.ion.specs.Numbers.VarUInt.{groups, varuint, scan_from, read_var_uint}
use Rattle.ion.specs.Numbers.VarInt.{signed_count, signed, varint, read_var_int}
use Rattle.ion.specs.Numbers.Int.{int_count, int, read_int}
use Rattle.ion.specs.Numbers.Decimal.{decimal_bytes}
use Rattle.ion.specs.Calendar.Dates.{is_leap, month_length_of, sum_below}
use Rattle.ion.specs.Pair.Offset.{offset_minutes}
use Rattle.ion.specs.Pair.Word.{word_of, fields_of}
use Rattle.ion.specs.Pair.Pair.{word_in, packed_pair, no_stamp}
use Rattle.ion.specs.Pair.Fraction.{capped, milliseconds, nanoseconds}
use Rattle.ion.specs.Calls.Refusal.{number_in}
use Rattle.ion.specs.Calls.Build.{build_checks, build_pair, build_of}
use Rattle.ion.specs.Calls.Stages.{with_year, with_month, with_day, with_hour_and_minute, with_second, with_fraction, with_offset}
use Rattle.ion.specs.Calls.Check.{check_of}
use Rattle.ion.specs.Calls.Utc.{utc_fields}
use Rattle.ion.specs.Pair.Count.{count_of}
use Rattle.ion.specs.Calls.Order.{cmp_of, eq_of, distance_of}
use Rattle.ion.specs.Text.Format.{marked, fraction_text, clock_text, minutes_text, offset_text, fields_text, text_of}
use Rattle.ion.specs.Calls.Contents.{in_turn}
use Rattle.ion.specs.Value.Encode.{offset_bytes, field_count, fraction_bytes, body_from, body_of, header, value_of}
use Rattle.ion.specs.Value.Decode.{decode_offset, decode_fields, decode_parts, filled, precision_with, decode_fraction, decode_body}
use Rattle.ion.specs.Value.Decode.{pair_from}
use Rattle.ion.specs.Value.ReadValue.{read_after, read_by, same, is_body_of, read_body, read_length, read_value}
use Rattle.ion.specs.declared.BuilderFields.{BuilderFields}
use Rattle.ion.specs.declared.BuilderOffset.TheVariants.{FromLocalFields}
use Rattle.ion.specs.declared.Timestamp.{Timestamp}
use Rattle.ion.specs.declared.Distance.{Distance}
use Rattle.ion.specs.declared.refusal.Refusal.{Refusal}

-- ---- what a row states

pub data Answer : Type 0 where
  -- a number and a pair
  pair : ℕ → ℕ → ℕ → Answer
  number : ℕ → Answer
  bytes : List ℕ → Answer
  -- a number, a pair and the bytes taken
  value : ℕ → ℕ → ℕ → ℕ → Answer
  -- an order, and whether the two are equal
  order : Result Ordering Refusal → Result Bool Refusal → Answer
  distance : Result Distance Refusal → Answer

-- a point of the scope, what the definitions give, and what the scope states
pub record Row : Type 0 where
  pub point : ℕ
  pub given : Answer
  pub stated : Answer

row : ℕ → Answer → Answer → Row
row p g s = record { point = p; given = g; stated = s }

-- ---- the stamps of the rows

date : ℕ → ℕ → ℕ → BuilderFields
date y m d = with_day (with_month (with_year y) m) d

minute : BuilderFields → ℕ → ℕ → ℤ → BuilderFields
minute f h m o = with_offset (with_hour_and_minute f h m) (FromLocalFields (offset_minutes o))

-- 2020-02-03T04:05:06, and the same with an offset
sixth : BuilderFields
sixth = with_second (with_hour_and_minute (date 2020 2 3) 4 5) 6

at : BuilderFields → ℤ → BuilderFields
at f o = with_offset f (FromLocalFields (offset_minutes o))

p1 : BuilderFields
p1 = with_year 1

p3 : BuilderFields
p3 = at sixth (pos 0)

p4 : BuilderFields
p4 = at (with_fraction sixth (milliseconds 70)) (negsuc 479)

p5 : BuilderFields
p5 = at (with_fraction sixth (nanoseconds 123456789)) (negsuc 479)

p6 : BuilderFields
p6 = with_fraction sixth (milliseconds 128)

p7 : BuilderFields
p7 = minute (date 1 1 1) 0 0 (pos 1)

p8 : BuilderFields
p8 = minute (date 9999 12 31) 23 59 (negsuc 0)

-- ---- what the definitions give

stamp : BuilderFields → Timestamp
stamp f = result_unwrap_or (build_of f) no_stamp

built_answer : Result Timestamp Refusal → Answer
built_answer b = let s = result_unwrap_or b no_stamp in pair (number_in b) (word_in s) s.attoseconds

built : BuilderFields → Answer
built f = built_answer (build_of f)

refused : BuilderFields → Answer
refused f = number (number_in (build_of f))

text : BuilderFields → Answer
text f = bytes (text_of (stamp f))

written : BuilderFields → Answer
written f = bytes (value_of (stamp f))

-- the value with a byte after it, which is not read
read_back : List ℕ → Answer
read_back s =
    let r = read_value (s ++ (0x6f ∷ [])) in
    let x = result_unwrap_or r (no_stamp, 0) in
    value (number_in r) (word_in x.0) x.0.attoseconds x.1

-- the stamp, and how many bytes it took
taken : BuilderFields → ℕ → Answer
taken f n = value 0 (word_in (stamp f)) (stamp f).attoseconds n

compared : BuilderFields → BuilderFields → Answer
compared f g = order (cmp_of (stamp f) (stamp g)) (eq_of (stamp f) (stamp g))

apart : BuilderFields → BuilderFields → Answer
apart f g = distance (distance_of (stamp f) (stamp g))

-- ---- the table

p1_bytes : List ℕ
p1_bytes = 0x62 ∷ 0xc0 ∷ 0x81 ∷ []

p3_bytes : List ℕ
p3_bytes = 0x68 ∷ 0x80 ∷ 0x0f ∷ 0xe4 ∷ 0x82 ∷ 0x83 ∷ 0x84 ∷ 0x85 ∷ 0x86 ∷ []

p4_bytes : List ℕ
p4_bytes = 0x6b ∷ 0x43 ∷ 0xe0 ∷ 0x0f ∷ 0xe4 ∷ 0x82 ∷ 0x83 ∷ 0x8c ∷ 0x85 ∷ 0x86 ∷ 0xc3 ∷ 0x46 ∷ []

p5_bytes : List ℕ
p5_bytes = 0x6e ∷ 0x8e ∷ 0x43 ∷ 0xe0 ∷ 0x0f ∷ 0xe4 ∷ 0x82 ∷ 0x83 ∷ 0x8c ∷ 0x85 ∷ 0x86 ∷ 0xc9 ∷ 0x07 ∷ 0x5b ∷ 0xcd ∷ 0x15 ∷ []

p6_bytes : List ℕ
p6_bytes = 0x6b ∷ 0xc0 ∷ 0x0f ∷ 0xe4 ∷ 0x82 ∷ 0x83 ∷ 0x84 ∷ 0x85 ∷ 0x86 ∷ 0xc3 ∷ 0x00 ∷ 0x80 ∷ []

p7_bytes : List ℕ
p7_bytes = 0x66 ∷ 0x81 ∷ 0x80 ∷ 0x8c ∷ 0x9f ∷ 0x97 ∷ 0xbb ∷ []

p8_bytes : List ℕ
p8_bytes = 0x67 ∷ 0xc1 ∷ 0x4e ∷ 0x90 ∷ 0x81 ∷ 0x81 ∷ 0x80 ∷ 0x80 ∷ []

pub table : List Row
table =
    row 1 (built p1) (pair 0 0x0004420000000000 0)
    ∷ row 1 (built_answer (check_of (packed_pair 0x0004420000000000 0))) (pair 0 0x0004420000000000 0)
    ∷ row 1 (text p1) (bytes (ascii "0001T"))
    ∷ row 1 (written p1) (bytes p1_bytes)
    ∷ row 1 (read_back p1_bytes) (taken p1 3)
    ∷ row 2 (built (with_year 0)) (pair 11 0 0)
    ∷ row 2 (built (date 0 2 30)) (pair 11 0 0)
    ∷ row 2 (built (with_year 10000)) (pair 2 0 0)
    ∷ row 3 (text p3) (bytes (ascii "2020-02-03T04:05:06+00:00"))
    ∷ row 3 (written p3) (bytes p3_bytes)
    ∷ row 3 (read_back p3_bytes) (taken p3 9)
    ∷ row 4 (text p4) (bytes (ascii "2020-02-03T04:05:06.070-08:00"))
    ∷ row 4 (written p4) (bytes p4_bytes)
    ∷ row 4 (read_back p4_bytes) (taken p4 12)
    ∷ row 5 (text p5) (bytes (ascii "2020-02-03T04:05:06.123456789-08:00"))
    ∷ row 5 (written p5) (bytes p5_bytes)
    ∷ row 5 (read_back p5_bytes) (taken p5 16)
    ∷ row 6 (text p6) (bytes (ascii "2020-02-03T04:05:06.128-00:00"))
    ∷ row 6 (written p6) (bytes p6_bytes)
    ∷ row 6 (read_back p6_bytes) (taken p6 12)
    ∷ row 7 (text p7) (bytes (ascii "0001-01-01T00:00+00:01"))
    ∷ row 7 (written p7) (bytes p7_bytes)
    ∷ row 7 (read_back p7_bytes) (taken p7 7)
    ∷ row 8 (text p8) (bytes (ascii "9999-12-31T23:59-00:01"))
    ∷ row 8 (written p8) (bytes p8_bytes)
    ∷ row 8 (read_back p8_bytes) (taken p8 8)
    ∷ row 9 (compared (minute (date 2020 3 1) 23 28 (pos 1439)) (minute (date 2020 2 28) 23 30 (negsuc 1438))) (order (Ok Equal) (Ok true))
    ∷ row 10 (apart (with_year 2021) (with_year 2020)) (distance (Ok (record { order = Greater; seconds = 31622400; attoseconds = 0 })))
    ∷ row 11 (built_answer (check_of (packed_pair 0x0004420000000000 1))) (pair 12 0 0)
    ∷ row 12 (refused (date 1900 2 29)) (number 10)
    ∷ row 12 (refused (date 2000 2 29)) (number 0)
    ∷ []

-- every row
pub examples : map (λ (r : Row). r.given) table ≡ map (λ (r : Row). r.stated) table
unfolding table row date minute sixth at p1 p3 p4 p5 p6 p7 p8 p1_bytes p3_bytes p4_bytes p5_bytes p6_bytes p7_bytes p8_bytes stamp
    built_answer built refused text written read_back taken compared apart places_on places count_in count place_count value_from groups
    varuint scan_from read_var_uint signed_count signed varint read_var_int int_count int read_int decimal_bytes padded_places is_leap
    month_length_of sum_below word_of fields_of capped build_of build_checks build_pair check_of utc_fields count_of cmp_of eq_of
    distance_of marked fraction_text clock_text minutes_text offset_text fields_text text_of offset_bytes in_turn field_count
    fraction_bytes body_from body_of header value_of decode_offset decode_fields decode_parts decode_fraction filled precision_with
    decode_body pair_from read_after read_by same is_body_of read_body read_length read_value
examples = refl
