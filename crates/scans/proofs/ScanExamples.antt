-- Scans and files at their edges, as one table of rows and one theorem: what the definitions give at each row is what the row states.
-- Scans are read in the old layout, and written in the new one; more of the new one, and of sites, stands in SiteExamples.
-- Bytes and words are written out from the scope and from the forms of a value. Assumes nothing.
use Prim.Native.Nat.{ℕ, zero, suc}
use mathlib.Core.List.{List, [], ◌∷◌, ◌++◌, map}
use mathlib.Core.Path.{◌≡◌, refl}
use lib.ListN.{take}
use Rattle.places.specs.Places.{places_on, places, count_in, count, place_count, value_from}
use Rattle.ion.specs.Numbers.VarUInt.{groups, varuint, scan_from, read_var_uint}
use Rattle.ion.specs.Numbers.VarInt.{signed_count, signed, varint, read_var_int}
use Rattle.ion.specs.Numbers.Int.{int_count, int, read_int}
use Rattle.ion.specs.Numbers.Decimal.{decimal_bytes}
use Rattle.ion.specs.Calendar.Dates.{is_leap, month_length_of, sum_below}
use Rattle.ion.specs.Pair.Word.{word_of, fields_of}
use Rattle.ion.specs.Pair.Pair.{packed_pair}
use Rattle.ion.specs.Pair.Fraction.{capped}
use Rattle.ion.specs.Calls.Output.{put, room_for, put_after, wrote_after}
use Rattle.ion.specs.Calls.Build.{build_checks, build_pair, build_of}
use Rattle.ion.specs.Calls.Check.{check_of}
use Rattle.ion.specs.Calls.Contents.{contents_from, contents, in_turn}
use Rattle.ion.specs.Calls.Utc.{utc_fields}
use Rattle.ion.specs.Value.Encode.{offset_bytes, field_count, fraction_bytes, body_from, body_of, header, value_of}
use Rattle.ion.specs.Value.Decode.{decode_offset, decode_fields, decode_parts, filled, precision_with, decode_fraction, decode_body}
use Rattle.ion.specs.Value.Decode.{pair_from}
use Rattle.ion.specs.Value.ReadValue.{same, is_body_of, read_body, read_after, read_by, read_length, read_value}
use Rattle.std.specs.Prelude.{Result, Ok, Err}
use Rattle.ion.specs.declared.refusal.Refusal.{Refusal}
use Rattle.ion.specs.declared.refusal.Refusal.TheVariants as refusal
use Rattle.scans.specs.Number.{read_number}
use Rattle.scans.specs.Layout.{layout_of}
use Rattle.scans.specs.Scan.{scan_of, scan_bytes, scan_check, read_scan}
use Rattle.scans.specs.File.{scans_in, contents_of, file_bytes, check_file_of}
use Rattle.scans.specs.declared.Layout.TheVariants.{Old}
use Rattle.scans.specs.declared.Scan.{Scan}
use Rattle.scans.proofs.Rows.{Row, row, scan, bytes, written, year1, most, unmarked, above}
use Rattle.scans.proofs.Rows.{first, first_old, second, second_old, last, last_old, holds, damaged, filler}

-- ---- rows

takes : List ℕ → Scan → ℕ → Row
takes s x n = row (scan (read_scan Old s)) (scan (Ok (x, n)))

refuses : List ℕ → Refusal → Row
refuses s r = row (scan (read_scan Old s)) (scan (Err r))

-- the n shortest beginnings of a scan's bytes
cuts : ℕ → List ℕ → List Row
cuts zero s = []
cuts (suc n) s = refuses (take n s) refusal.InputEnds ∷ cuts n s

-- a scan written from index at on into n bytes AA
writes : ℕ → ℕ → Scan → Result ℕ Refusal → List ℕ → Row
writes n at x w e =
    let d = filler n in
    let given = written (wrote_after (scan_check x) d at (scan_bytes x)) (put_after (scan_check x) d at (scan_bytes x)) in
    row given (written w e)

pub scan_rows : List Row
scan_rows =
    -- the shortest scan, bytes after it, numbers of one byte and of two, the longest scan
    takes first_old first 5
    ∷ takes (first_old ++ (0xff ∷ 0x00 ∷ [])) first 5
    ∷ takes second_old (second 0) 12
    ∷ takes (0xff ∷ 0x01 ∷ 0x80 ∷ year1) (scan_of 0 127 128 first.stamp) 6
    ∷ takes last_old (last 0) 30
    -- a tag cut short: the input ends, even where no end mark could save it
    ∷ refuses [] refusal.InputEnds
    ∷ refuses (0x00 ∷ []) refusal.InputEnds
    ∷ refuses (0x7f ∷ 0x7f ∷ 0x7f ∷ 0x7f ∷ []) refusal.InputEnds
    -- padded, without an end mark in five bytes, too large at it: the number
    ∷ refuses (0x00 ∷ 0x80 ∷ []) refusal.Number
    ∷ refuses (0x00 ∷ 0x82 ∷ []) refusal.Number
    ∷ refuses (0x00 ∷ 0x00 ∷ []) refusal.Number
    ∷ refuses unmarked refusal.Number
    ∷ refuses (unmarked ++ (0x80 ∷ first_old)) refusal.Number
    ∷ refuses above refusal.Number
    ∷ refuses (above ++ (0x80 ∷ year1)) refusal.Number
    ∷ refuses (0x7f ∷ 0x7f ∷ 0x7f ∷ 0x7f ∷ 0xff ∷ []) refusal.Number
    -- the same of a guard
    ∷ refuses (0x80 ∷ []) refusal.InputEnds
    ∷ refuses (0x80 ∷ 0x00 ∷ []) refusal.InputEnds
    ∷ refuses (most ++ (0x7f ∷ 0x7f ∷ 0x7f ∷ 0x7f ∷ [])) refusal.InputEnds
    ∷ refuses (0x80 ∷ 0x00 ∷ 0x80 ∷ year1) refusal.Number
    ∷ refuses (0x80 ∷ unmarked) refusal.Number
    ∷ refuses (0x80 ∷ (above ++ year1)) refusal.Number
    -- a bad value after good numbers, and after a bad one
    ∷ refuses (0x80 ∷ 0x80 ∷ []) refusal.InputEnds
    ∷ refuses (0x80 ∷ 0x80 ∷ 0x6e ∷ []) refusal.InputEnds
    ∷ refuses (0x80 ∷ 0x80 ∷ 0x6f ∷ []) refusal.FirstByte
    ∷ refuses (0x80 ∷ 0x80 ∷ 0x80 ∷ []) refusal.FirstByte
    ∷ refuses (0x80 ∷ 0x80 ∷ 0x60 ∷ []) refusal.Body
    ∷ refuses (0x80 ∷ 0x80 ∷ 0x6e ∷ 0x8d ∷ []) refusal.Body
    ∷ refuses (0x80 ∷ 0x80 ∷ 0x62 ∷ 0xc0 ∷ 0x80 ∷ []) refusal.Body
    ∷ refuses (0x80 ∷ 0x00 ∷ 0x80 ∷ 0x6f ∷ []) refusal.Number
    ∷ refuses (0x00 ∷ 0x00 ∷ 0x6f ∷ []) refusal.Number
    -- files: empty, of scans, cut, damaged between scans, damaged in a value; what follows the damage is not read
    ∷ holds [] []
    ∷ holds (first_old ++ (second_old ++ last_old)) (first ∷ second 0 ∷ last 0 ∷ [])
    ∷ damaged (0x00 ∷ []) [] refusal.InputEnds
    ∷ damaged (first_old ++ (0x80 ∷ [])) (first ∷ []) refusal.InputEnds
    ∷ damaged (first_old ++ (0x00 ∷ 0x82 ∷ second_old)) (first ∷ []) refusal.Number
    ∷ damaged (first_old ++ (second_old ++ (0x80 ∷ 0x80 ∷ 0x6f ∷ first_old))) (first ∷ second 0 ∷ []) refusal.FirstByte
    -- scans written, each after its site: alone, and one after another in a file
    ∷ row (bytes (scan_bytes first)) (bytes (0x80 ∷ first_old))
    ∷ row (bytes (file_bytes (first ∷ second 128 ∷ last 4294967295 ∷ [])))
    (bytes (0x00 ∷ 0x82 ∷ 0x80 ∷ (first_old ++ (0x01 ∷ 0x80 ∷ (second_old ++ (most ++ last_old))))))
    ∷ writes 6 0 first (Ok 6) (0x80 ∷ first_old)
    ∷ writes 8 1 first (Ok 6) (0xaa ∷ 0x80 ∷ (first_old ++ (0xaa ∷ [])))
    -- refused: no room, past the end, a pair that the builder never gives, even without room
    ∷ writes 5 0 first (Err refusal.ShortBuffer) (filler 5)
    ∷ writes 6 7 first (Err refusal.ShortBuffer) (filler 6)
    ∷ writes 9 0 (scan_of 0 0 0 (packed_pair 0x0004420000000000 1)) (Err refusal.Pair) (filler 9)
    ∷ writes 0 0 (scan_of 0 0 0 (packed_pair 0 0)) (Err refusal.LocalYear) []
    -- every beginning of a scan is cut short
    ∷ (cuts 5 first_old ++ (cuts 12 second_old ++ cuts 30 last_old))

-- every row
pub scan_examples : map (λ (r : Row). r.given) scan_rows ≡ map (λ (r : Row). r.stated) scan_rows
unfolding scan_rows takes refuses cuts writes places_on places count_in count place_count value_from groups varuint scan_from
    read_var_uint signed_count signed varint read_var_int int_count int read_int decimal_bytes is_leap month_length_of sum_below word_of
    fields_of capped build_of build_checks build_pair check_of utc_fields offset_bytes field_count fraction_bytes body_from body_of header
    value_of decode_offset decode_fields decode_parts decode_fraction filled precision_with decode_body pair_from read_after read_by same
    is_body_of read_body read_length read_value put room_for put_after wrote_after contents_from contents in_turn read_number scan_bytes
    scan_check read_scan layout_of scans_in contents_of file_bytes check_file_of
scan_examples = refl
