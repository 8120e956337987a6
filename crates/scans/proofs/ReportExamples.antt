-- Reports at their edges, as one table of rows and one theorem: what the definitions give at each row is what the row states.
-- Words, counts and distances are worked out by hand from the scope. Assumes nothing.
use Rattle.std.proofs.Common.{◌≡◌, refl, ℕ, zero, suc, ◌+◌, ◌*◌, ◌^◌, List, [], ◌∷◌, ◌++◌, map}
use Rattle.places.specs.Places.{places_on, places, count_in, count, place_count, value_from}
use Rattle.ion.specs.Numbers.VarUInt.{groups, varuint, scan_from, read_var_uint}
use Rattle.ion.specs.Numbers.VarInt.{signed_count, signed, varint, read_var_int}
use Rattle.ion.specs.Numbers.Int.{int_count, int, read_int}
use Rattle.ion.specs.Numbers.Decimal.{decimal_bytes}
use Rattle.ion.specs.Calendar.Dates.{is_leap, month_length_of, sum_below}
use Rattle.ion.specs.Pair.Word.{word_of, fields_of}
use Rattle.ion.specs.Pair.Pair.{packed_pair}
use Rattle.ion.specs.Pair.Fraction.{capped}
use Rattle.ion.specs.Pair.Count.{count_of}
use Rattle.ion.specs.Calls.Build.{build_checks, build_pair, build_of}
use Rattle.ion.specs.Calls.Check.{check_of}
use Rattle.ion.specs.Calls.Contents.{contents_from, contents, in_turn}
use Rattle.ion.specs.Calls.Utc.{utc_fields}
use Rattle.ion.specs.Value.Encode.{offset_bytes, field_count, fraction_bytes, body_from, body_of, header, value_of}
use Rattle.ion.specs.Value.Decode.{decode_offset, decode_fields, decode_parts, filled, precision_with, decode_fraction, decode_body}
use Rattle.ion.specs.Value.Decode.{pair_from}
use Rattle.ion.specs.Value.ReadValue.{same, is_body_of, read_body, read_after, read_by, read_length, read_value}
use Rattle.ion.specs.declared.Timestamp.{Timestamp}
use Rattle.scans.specs.Number.{read_number}
use Rattle.scans.specs.Layout.{layout_of}
use Rattle.scans.specs.Scan.{scan_of, scan_bytes, read_scan}
use Rattle.scans.specs.File.{scans_in, contents_of, file_bytes}
use Rattle.scans.specs.Tally.{place_of, with_last, kind_beside, kind_of, counts_with, no_counts, tally_from}
use Rattle.scans.specs.Report.{words_for, words_over, lent_check, file_check, report_of, words_after}
use Rattle.scans.specs.declared.Scan.{Scan}
use Rattle.scans.proofs.Rows.{Row, reports, rejects}
use Rattle.ion.specs.declared.refusal.Refusal.TheVariants as refusal

-- ---- scans

-- 0001-01-01T00:MM:SS with a fraction of that many digits, at a raw offset
clock_word : ℕ → ℕ → ℕ → ℕ → ℕ
clock_word minute second digits offset =
    1 * 2 ^ 50 + 1 * 2 ^ 46 + 1 * 2 ^ 41 + minute * 2 ^ 30 + second * 2 ^ 24 + 4 * 2 ^ 21 + digits * 2 ^ 16 + offset * 2 ^ 4

-- a scan of the tag, at site 3, at that many seconds after 0001-01-01T00:00:00Z
at : ℕ → ℕ → Scan
at tag second = scan_of 3 tag 1 (packed_pair (clock_word 0 second 0 1440) 0)

-- the same with attoseconds
finer : ℕ → ℕ → ℕ → Scan
finer tag second a = scan_of 3 tag 1 (packed_pair (clock_word 0 second 18 1440) a)

words_at : ℕ → ℕ → List ℕ
words_at tag second = 3 ∷ tag ∷ clock_word 0 second 0 1440 ∷ 0 ∷ []

-- P9: 2020-03-01T23:28+23:59 and 2020-02-28T23:30-23:59, one instant
p9_east : Timestamp
p9_east = packed_pair (2020 * 2 ^ 50 + 3 * 2 ^ 46 + 1 * 2 ^ 41 + 23 * 2 ^ 36 + 28 * 2 ^ 30 + 3 * 2 ^ 21 + 2879 * 2 ^ 4) 0

p9_west : Timestamp
p9_west = packed_pair (2020 * 2 ^ 50 + 2 * 2 ^ 46 + 28 * 2 ^ 41 + 23 * 2 ^ 36 + 30 * 2 ^ 30 + 3 * 2 ^ 21 + 1 * 2 ^ 4) 0

-- year 1 alone, at site 7
year_one : ℕ → Scan
year_one tag = scan_of 7 tag 0 (packed_pair 0x0004420000000000 0)

-- scans of the tags below n at that site, in turn
posts_below : ℕ → List Scan
posts_below zero = []
posts_below (suc n) = posts_below n ++ (year_one n ∷ [])

words_below : ℕ → List ℕ
words_below zero = []
words_below (suc n) = words_below n ++ (7 ∷ n ∷ 0x0004420000000000 ∷ 0 ∷ [])

-- ---- rows

pub report_rows : List Row
report_rows =
    -- nothing; one scan
    reports 1026 60 60 [] no_counts []
    ∷ reports 1026 60 60 (file_bytes (at 9 0 ∷ [])) (counts_with 1 0 1 0 0) (words_at 9 0)
    -- W is 5: a second less, W itself, a second more, an attosecond less; before too
    ∷ reports 1026 5 60 (file_bytes (at 9 10 ∷ at 9 14 ∷ [])) (counts_with 2 1 1 0 0) (words_at 9 10)
    ∷ reports 1026 5 60 (file_bytes (at 9 10 ∷ at 9 15 ∷ [])) (counts_with 2 0 2 0 0) (words_at 9 15)
    ∷ reports 1026 5 60 (file_bytes (at 9 10 ∷ at 9 16 ∷ [])) (counts_with 2 0 2 0 0) (words_at 9 16)
    ∷ reports 1026 5 60 (file_bytes (at 9 10 ∷ finer 9 14 999999999999999999 ∷ [])) (counts_with 2 1 1 0 0) (words_at 9 10)
    ∷ reports 1026 5 60 (file_bytes (at 9 10 ∷ at 9 6 ∷ [])) (counts_with 2 1 1 0 0) (words_at 9 10)
    ∷ reports 1026 5 60 (file_bytes (at 9 10 ∷ finer 9 5 1 ∷ [])) (counts_with 2 1 1 0 0) (words_at 9 10)
    ∷ reports 1026 5 60 (file_bytes (at 9 10 ∷ at 9 5 ∷ [])) (counts_with 2 0 2 0 1) (words_at 9 5)
    -- from the last kept scan, not from a double
    ∷ reports 1026 5 60 (file_bytes (at 9 10 ∷ at 9 14 ∷ at 9 18 ∷ [])) (counts_with 3 1 2 0 0) (words_at 9 18)
    -- G is 10: G itself, an attosecond more; a backward step is no gap; after it the earlier scan is the last kept one
    ∷ reports 1026 0 10 (file_bytes (at 9 10 ∷ at 9 20 ∷ [])) (counts_with 2 0 2 0 0) (words_at 9 20)
    ∷ reports 1026 0 10 (file_bytes (at 9 10 ∷ finer 9 20 1 ∷ [])) (counts_with 2 0 2 1 0) (3 ∷ 9 ∷ clock_word 0 20 18 1440 ∷ 1 ∷ [])
    ∷ reports 1026 0 10 (file_bytes (at 9 30 ∷ at 9 10 ∷ at 9 30 ∷ [])) (counts_with 3 0 3 1 1) (words_at 9 30)
    -- W is 0: equal times are kept, and are neither gaps nor backward steps; a double at W 1
    ∷ reports 1026 0 0 (file_bytes (at 9 10 ∷ at 9 10 ∷ [])) (counts_with 2 0 2 0 0) (words_at 9 10)
    ∷ reports 1026 0 0 (file_bytes (scan_of 3 9 1 p9_east ∷ scan_of 3 9 1 p9_west ∷ [])) (counts_with 2 0 2 0 0)
    (3 ∷ 9 ∷ p9_west.packed_fields ∷ 0 ∷ [])
    ∷ reports 1026 1 0 (file_bytes (scan_of 3 9 1 p9_east ∷ scan_of 3 9 1 p9_west ∷ [])) (counts_with 2 1 1 0 0)
    (3 ∷ 9 ∷ p9_east.packed_fields ∷ 0 ∷ [])
    -- tags apart, in the order of their first scans; other guards make no difference
    ∷ reports 1026 5 60 (file_bytes (at 9 10 ∷ at 4 11 ∷ at 9 40 ∷ scan_of 3 4 2 (at 4 12).stamp ∷ [])) (counts_with 4 1 3 0 0)
    (words_at 9 40 ++ words_at 4 11)
    -- the longest W and G
    ∷ reports 1026 86400 4294967295 (file_bytes (at 9 10 ∷ at 9 11 ∷ [])) (counts_with 2 1 1 0 0) (words_at 9 10)
    -- too few words, before W; W too long, before the file; nothing lent
    ∷ rejects 1023 60 (file_bytes (at 9 10 ∷ [])) refusal.Words
    ∷ rejects 1023 86401 (0x00 ∷ []) refusal.Words
    ∷ rejects 0 60 [] refusal.Words
    ∷ rejects 1024 86401 (file_bytes (at 9 10 ∷ [])) refusal.Window
    ∷ rejects 1024 86401 (0x00 ∷ 0x80 ∷ []) refusal.Window
    -- damage, after a scan too
    ∷ rejects 1024 60 (0x00 ∷ []) refusal.InputEnds
    ∷ rejects 1024 60 (0x00 ∷ 0x80 ∷ []) refusal.Number
    ∷ rejects 1025 60 (file_bytes (at 9 10 ∷ []) ++ (0x80 ∷ 0x80 ∷ 0x80 ∷ 0x6f ∷ [])) refusal.FirstByte
    ∷ rejects 1025 60 (file_bytes (at 9 10 ∷ []) ++ (0x80 ∷ 0x80 ∷ 0x80 ∷ 0x60 ∷ [])) refusal.Body
    -- 256 posts, and a scan more of one of them; a 257th; damage after it, in it, and before it
    ∷ reports 1026 60 60 (file_bytes (posts_below 256)) (counts_with 256 0 256 0 0) (words_below 256)
    ∷ reports 1026 60 60 (file_bytes (posts_below 256 ++ (year_one 255 ∷ []))) (counts_with 257 1 256 0 0) (words_below 256)
    ∷ rejects 1024 60 (file_bytes (posts_below 257)) refusal.Posts
    ∷ rejects 1024 60 (file_bytes (posts_below 257) ++ (0x00 ∷ 0x80 ∷ [])) refusal.Posts
    ∷ rejects 1024 60 (file_bytes (posts_below 256) ++ (0x87 ∷ 0x02 ∷ 0x80 ∷ 0x80 ∷ 0x6f ∷ [])) refusal.FirstByte
    ∷ rejects 1024 60 (file_bytes (posts_below 256) ++ (0x00 ∷ 0x80 ∷ scan_bytes (year_one 256))) refusal.Number
    ∷ []

-- every row
pub report_examples : map (λ (r : Row). r.given) report_rows ≡ map (λ (r : Row). r.stated) report_rows
unfolding report_rows clock_word at finer words_at p9_east p9_west year_one posts_below words_below places_on places count_in count
    place_count value_from groups varuint scan_from read_var_uint signed_count signed varint read_var_int int_count int read_int
    decimal_bytes is_leap month_length_of sum_below word_of fields_of capped count_of build_of build_checks build_pair check_of utc_fields
    offset_bytes field_count fraction_bytes body_from body_of header value_of decode_offset decode_fields decode_parts decode_fraction
    filled precision_with decode_body pair_from read_after read_by same is_body_of read_body read_length read_value contents_from contents
    in_turn read_number scan_bytes read_scan layout_of scans_in contents_of file_bytes place_of with_last kind_beside kind_of tally_from
    words_for words_over lent_check file_check report_of words_after
report_examples = refl
