-- Sites and layouts at their edges: one table and one theorem, each row worked out by hand from the scope's words. Assumes nothing.
use Rattle.std.proofs.Common.{◌≡◌, refl, ℕ, zero, suc, ◌+◌, ◌*◌, ◌^◌, List, [], ◌∷◌, ◌++◌, take, map}
use Rattle.places.specs.Places.{places_on, places, count_in, count, place_count, value_from}
use Rattle.ion.specs.Numbers.VarUInt.{groups, varuint, scan_from, read_var_uint}
use Rattle.ion.specs.Numbers.VarInt.{signed_count, signed, varint, read_var_int}
use Rattle.ion.specs.Numbers.Int.{int_count, int, read_int}
use Rattle.ion.specs.Numbers.Decimal.{decimal_bytes}
use Rattle.ion.specs.Calendar.Dates.{is_leap, month_length_of, sum_below}
use Rattle.ion.specs.Pair.Word.{word_of, fields_of}
use Rattle.ion.specs.Pair.Pair.{packed_pair}
use Rattle.ion.specs.Pair.Fraction.{capped}
use Rattle.ion.specs.Pair.Count.{count_of}
use Rattle.ion.specs.Calls.Output.{put, room_for, wrote, put_after, wrote_after}
use Rattle.ion.specs.Calls.Build.{build_checks, build_pair, build_of}
use Rattle.ion.specs.Calls.Check.{check_of}
use Rattle.ion.specs.Calls.Contents.{contents_from, contents, in_turn}
use Rattle.ion.specs.Calls.Utc.{utc_fields}
use Rattle.ion.specs.Value.Encode.{offset_bytes, field_count, fraction_bytes, body_from, body_of, header, value_of}
use Rattle.ion.specs.Value.Decode.{decode_offset, decode_fields, decode_parts, filled, precision_with, decode_fraction, decode_body}
use Rattle.ion.specs.Value.Decode.{pair_from}
use Rattle.ion.specs.Value.ReadValue.{same, is_body_of, read_body, read_after, read_by, read_length, read_value}
use Rattle.std.specs.Prelude.{Result, Ok, Err}
use Rattle.ion.specs.declared.refusal.Refusal.{Refusal}
use Rattle.ion.specs.declared.refusal.Refusal.TheVariants as refusal
use Rattle.scans.specs.Number.{read_number}
use Rattle.scans.specs.Layout.{start_of, layout_of}
use Rattle.scans.specs.Scan.{scan_of, scan_bytes, scan_check, read_scan}
use Rattle.scans.specs.File.{scans_in, contents_of, file_bytes, written_in_turn, file_in_turn, check_file_of}
use Rattle.scans.specs.Tally.{place_of, with_last, kind_beside, kind_of, counts_with, no_counts, tally_from}
use Rattle.scans.specs.Report.{words_for, words_over, lent_check, file_check, report_of, words_after}
use Rattle.scans.specs.declared.Layout.{Layout}
use Rattle.scans.specs.declared.Layout.TheVariants.{Old, New}
use Rattle.scans.specs.declared.Scan.{Scan}
use Rattle.scans.proofs.Rows.{Row, row, layout, scan, bytes, written, year1, most, unmarked, above, year_one}
use Rattle.scans.proofs.Rows.{first, first_old, second, second_old, last, last_old, holds, damaged, filler, reports, rejects}

-- ---- bytes

-- a new file: its start, and what follows
started : List ℕ → List ℕ
started s = 0x00 ∷ 0x82 ∷ s

-- four bytes without a mark
four : List ℕ
four = 0x7f ∷ 0x7f ∷ 0x7f ∷ 0x7f ∷ []

-- ---- another scan, at its site and without it, and files of both

third : ℕ → Scan
third site = year_one site 127 128

third_old : List ℕ
third_old = 0xff ∷ 0x01 ∷ 0x80 ∷ year1

-- the first at its site, and the last at the largest
first_bytes : List ℕ
first_bytes = 0x80 ∷ first_old

last_bytes : List ℕ
last_bytes = most ++ last_old

-- a new file of the others at the sites 127, 128 and the largest, and an old one of the same
three : List ℕ
three = started (0xff ∷ (second_old ++ (0x01 ∷ 0x80 ∷ (third_old ++ last_bytes))))

three_old : List ℕ
three_old = second_old ++ (third_old ++ last_old)

-- ---- rows of layouts, of reading and of writing

in_layout : List ℕ → Layout → Row
in_layout s l = row (layout (layout_of s)) (layout l)

-- a new file of the first scan, and damage after it
after_first : List ℕ → Refusal → Row
after_first s r = damaged (started (first_bytes ++ s)) (first ∷ []) r

-- new files of the n shortest beginnings of a scan's bytes, without that of no byte
cuts : ℕ → List ℕ → List Row
cuts zero s = []
cuts (suc n) s = damaged (started (take (suc n) s)) [] refusal.InputEnds ∷ cuts n s

takes : List ℕ → Scan → ℕ → Row
takes s x n = row (scan (read_scan New s)) (scan (Ok (x, n)))

refuses : Layout → List ℕ → Refusal → Row
refuses l s r = row (scan (read_scan l s)) (scan (Err r))

writes : Scan → List ℕ → Row
writes x s = row (bytes (scan_bytes x)) (bytes s)

-- the start written from index at on into n bytes AA
starts : ℕ → ℕ → Result ℕ Refusal → List ℕ → Row
starts n at w e = row (written (wrote (filler n) at (start_of New)) (put (filler n) at (start_of New))) (written w e)

-- the start and scans, call by call
fills : ℕ → ℕ → List Scan → List ℕ → Row
fills n at xs e = row (bytes (file_in_turn (filler n) at xs)) (bytes e)

-- what is read of the file s, written again
becomes : List ℕ → List ℕ → Row
becomes s t = row (bytes (file_bytes (contents_of s).items)) (bytes t)

-- ---- rows of reports

-- 0001-01-01T00:00:SSZ
clock_word : ℕ → ℕ
clock_word second = 1 * 2 ^ 50 + 1 * 2 ^ 46 + 1 * 2 ^ 41 + second * 2 ^ 24 + 4 * 2 ^ 21 + 1440 * 2 ^ 4

-- a scan at that second
at : ℕ → ℕ → ℕ → Scan
at site tag second = scan_of site tag 1 (packed_pair (clock_word second) 0)

words_at : ℕ → ℕ → ℕ → List ℕ
words_at site tag second = site ∷ tag ∷ clock_word second ∷ 0 ∷ []

year_words : ℕ → ℕ → List ℕ
year_words site tag = site ∷ tag ∷ 0x0004420000000000 ∷ 0 ∷ []

-- scans of the tags below m at a site, and of the tags below 16 at the sites below n
at_site : ℕ → ℕ → List Scan
at_site site zero = []
at_site site (suc m) = at_site site m ++ (year_one site m 0 ∷ [])

posts : ℕ → List Scan
posts zero = []
posts (suc n) = posts n ++ at_site n 16

words_at_site : ℕ → ℕ → List ℕ
words_at_site site zero = []
words_at_site site (suc m) = words_at_site site m ++ year_words site m

post_words : ℕ → List ℕ
post_words zero = []
post_words (suc n) = post_words n ++ words_at_site n 16

-- an old file of scans of the tags 0 to 255, those from 128 on in two bytes
tags_from : List ℕ → ℕ → List ℕ
tags_from front zero = []
tags_from front (suc m) = tags_from front m ++ (front ++ ((0x80 + m) ∷ 0x80 ∷ year1))

tags_old : List ℕ
tags_old = tags_from [] 128 ++ tags_from (0x01 ∷ []) 128

pub site_rows : List Row
site_rows =
    -- the layout: new where 00 82 begins the file, whatever follows
    in_layout [] Old
    ∷ in_layout (0x00 ∷ []) Old
    ∷ in_layout (0x00 ∷ 0x82 ∷ []) New
    ∷ in_layout (0x00 ∷ 0x82 ∷ 0xff ∷ []) New
    ∷ in_layout (0x00 ∷ 0x80 ∷ []) Old
    ∷ in_layout (0x00 ∷ 0x83 ∷ []) Old
    ∷ in_layout (0x00 ∷ 0x02 ∷ 0x82 ∷ []) Old
    ∷ in_layout (0x00 ∷ 0x00 ∷ 0x82 ∷ []) Old
    ∷ in_layout (0x01 ∷ 0x82 ∷ []) Old
    ∷ in_layout (0x80 ∷ 0x82 ∷ []) Old
    ∷ in_layout (0x82 ∷ []) Old
    ∷ in_layout (0x82 ∷ 0x00 ∷ []) Old
    ∷ in_layout (first_old ++ (0x00 ∷ 0x82 ∷ [])) Old
    -- files without scans; 00 alone, and 00 before any byte but 82
    ∷ holds [] []
    ∷ holds (0x00 ∷ 0x82 ∷ []) []
    ∷ damaged (0x00 ∷ []) [] refusal.InputEnds
    ∷ damaged (0x00 ∷ 0x00 ∷ []) [] refusal.Number
    ∷ damaged (0x00 ∷ 0x02 ∷ []) [] refusal.Number
    ∷ damaged (0x00 ∷ 0x80 ∷ []) [] refusal.Number
    ∷ damaged (0x00 ∷ 0x81 ∷ []) [] refusal.Number
    ∷ damaged (0x00 ∷ 0x83 ∷ []) [] refusal.Number
    ∷ damaged (0x00 ∷ 0xff ∷ []) [] refusal.Number
    ∷ damaged (0x00 ∷ 0x81 ∷ first_bytes) [] refusal.Number
    ∷ damaged (0x00 ∷ 0x83 ∷ first_bytes) [] refusal.Number
    -- one start: after it, 00 and 00 82 are of a site
    ∷ damaged (started (0x00 ∷ [])) [] refusal.InputEnds
    ∷ damaged (started (0x00 ∷ 0x82 ∷ [])) [] refusal.Number
    ∷ damaged (started (0x00 ∷ 0x82 ∷ first_bytes)) [] refusal.Number
    -- new files of one scan and of three; the same as old files
    ∷ holds (started first_bytes) (first ∷ [])
    ∷ holds first_old (first ∷ [])
    ∷ holds three (second 127 ∷ third 128 ∷ last 4294967295 ∷ [])
    ∷ holds three_old (second 0 ∷ third 0 ∷ last 0 ∷ [])
    -- old scans after the start: tag and guard are read as site and tag, 62 C0 as the guard 12608 and 68 80 as 13312, and what follows
    -- is no value; new scans without a start: site and tag are read as tag and guard, and the guard is no value
    ∷ damaged (started first_old) [] refusal.FirstByte
    ∷ damaged (started second_old) [] refusal.FirstByte
    ∷ holds (started (0x80 ∷ 0x80 ∷ 0x62 ∷ 0xc0 ∷ year1)) (year_one 0 0 12608 ∷ [])
    ∷ damaged first_bytes [] refusal.FirstByte
    -- after a scan: site, tag, guard and value cut short, and damaged; a start; an old scan; what follows the damage is not read
    ∷ after_first (0x00 ∷ []) refusal.InputEnds
    ∷ after_first (0x81 ∷ []) refusal.InputEnds
    ∷ after_first (0x81 ∷ 0x80 ∷ 0x7f ∷ []) refusal.InputEnds
    ∷ after_first (0x81 ∷ 0x80 ∷ 0x80 ∷ 0x62 ∷ 0xc0 ∷ []) refusal.InputEnds
    ∷ after_first (0x00 ∷ 0x80 ∷ 0x80 ∷ 0x80 ∷ year1) refusal.Number
    ∷ after_first (0x81 ∷ 0x00 ∷ 0x80 ∷ 0x80 ∷ year1) refusal.Number
    ∷ after_first (0x81 ∷ 0x80 ∷ 0x00 ∷ 0x80 ∷ year1) refusal.Number
    ∷ after_first (0x81 ∷ 0x80 ∷ 0x80 ∷ 0x6f ∷ []) refusal.FirstByte
    ∷ after_first (0x81 ∷ 0x80 ∷ 0x80 ∷ 0x60 ∷ first_bytes) refusal.Body
    ∷ after_first (started first_bytes) refusal.Number
    ∷ after_first first_old refusal.FirstByte
    -- the reader of a new scan: the shortest, bytes after it, numbers of two bytes and of one, the longest
    ∷ takes first_bytes first 6
    ∷ takes (first_bytes ++ (0xff ∷ 0x00 ∷ [])) first 6
    ∷ takes (0x01 ∷ 0x80 ∷ second_old) (second 128) 14
    ∷ takes (0xff ∷ third_old) (third 127) 7
    ∷ takes last_bytes (last 4294967295) 35
    -- each of the three numbers the largest, the others 0
    ∷ takes (most ++ first_old) (year_one 4294967295 0 0) 10
    ∷ takes (0x80 ∷ (most ++ (0x80 ∷ year1))) (year_one 0 4294967295 0) 10
    ∷ takes (0x80 ∷ 0x80 ∷ (most ++ year1)) (year_one 0 0 4294967295) 10
    -- a site cut short; padded, without an end mark in five bytes, too large at it
    ∷ refuses New [] refusal.InputEnds
    ∷ refuses New (0x00 ∷ []) refusal.InputEnds
    ∷ refuses New four refusal.InputEnds
    ∷ refuses New (0x00 ∷ 0x80 ∷ []) refusal.Number
    ∷ refuses New (0x00 ∷ 0x00 ∷ []) refusal.Number
    ∷ refuses New (0x00 ∷ first_bytes) refusal.Number
    ∷ refuses New unmarked refusal.Number
    ∷ refuses New (unmarked ++ first_bytes) refusal.Number
    ∷ refuses New above refusal.Number
    ∷ refuses New (above ++ first_old) refusal.Number
    -- the same of a tag
    ∷ refuses New (0x80 ∷ []) refusal.InputEnds
    ∷ refuses New (0x80 ∷ 0x00 ∷ []) refusal.InputEnds
    ∷ refuses New (0x80 ∷ four) refusal.InputEnds
    ∷ refuses New (0x80 ∷ 0x00 ∷ first_old) refusal.Number
    ∷ refuses New (0x80 ∷ (unmarked ++ first_old)) refusal.Number
    ∷ refuses New (0x80 ∷ (above ++ (0x80 ∷ year1))) refusal.Number
    -- and of a guard
    ∷ refuses New (0x80 ∷ 0x80 ∷ []) refusal.InputEnds
    ∷ refuses New (0x80 ∷ 0x80 ∷ 0x00 ∷ []) refusal.InputEnds
    ∷ refuses New (0x80 ∷ 0x80 ∷ four) refusal.InputEnds
    ∷ refuses New (0x80 ∷ 0x80 ∷ 0x00 ∷ 0x80 ∷ year1) refusal.Number
    ∷ refuses New (0x80 ∷ 0x80 ∷ (unmarked ++ (0x80 ∷ year1))) refusal.Number
    ∷ refuses New (0x80 ∷ 0x80 ∷ (above ++ year1)) refusal.Number
    -- a value cut short, and bad
    ∷ refuses New (0x80 ∷ 0x80 ∷ 0x80 ∷ []) refusal.InputEnds
    ∷ refuses New (0x80 ∷ 0x80 ∷ 0x80 ∷ 0x6f ∷ []) refusal.FirstByte
    ∷ refuses New (0x80 ∷ 0x80 ∷ 0x80 ∷ 0x60 ∷ []) refusal.Body
    -- a bad site before a tag cut short and before a bad value, a bad tag before a guard cut short and before a bad value, a bad guard
    -- before a value cut short and before a bad one
    ∷ refuses New (0x00 ∷ 0x80 ∷ 0x00 ∷ []) refusal.Number
    ∷ refuses New (above ++ four) refusal.Number
    ∷ refuses New (0x00 ∷ 0x80 ∷ 0x80 ∷ 0x80 ∷ 0x6f ∷ []) refusal.Number
    ∷ refuses New (0x80 ∷ 0x00 ∷ 0x80 ∷ 0x00 ∷ []) refusal.Number
    ∷ refuses New (0x80 ∷ (above ++ (0x80 ∷ 0x6f ∷ []))) refusal.Number
    ∷ refuses New (0x80 ∷ 0x80 ∷ 0x00 ∷ 0x80 ∷ []) refusal.Number
    ∷ refuses New (0x80 ∷ 0x80 ∷ (above ++ (0x6f ∷ []))) refusal.Number
    -- an old reader at the start of a new file, and at a new scan; a new one at a start, and at an old scan
    ∷ refuses Old (0x00 ∷ 0x82 ∷ []) refusal.Number
    ∷ refuses Old (started first_bytes) refusal.Number
    ∷ refuses Old first_bytes refusal.FirstByte
    ∷ refuses New (started first_bytes) refusal.Number
    ∷ refuses New first_old refusal.FirstByte
    -- scans written
    ∷ writes first first_bytes
    ∷ writes (year_one 127 0 0) (0xff ∷ first_old)
    ∷ writes (year_one 128 0 0) (0x01 ∷ 0x80 ∷ first_old)
    ∷ writes (year_one 16384 0 0) (0x01 ∷ 0x00 ∷ 0x80 ∷ first_old)
    ∷ writes (year_one 4294967295 0 0) (most ++ first_old)
    ∷ writes (second 127) (0xff ∷ second_old)
    ∷ writes (last 4294967295) last_bytes
    -- the start written: room for it, one byte too few, past the end
    ∷ starts 2 0 (Ok 2) (0x00 ∷ 0x82 ∷ [])
    ∷ starts 3 0 (Ok 2) (0x00 ∷ 0x82 ∷ 0xaa ∷ [])
    ∷ starts 3 1 (Ok 2) (0xaa ∷ 0x00 ∷ 0x82 ∷ [])
    ∷ starts 0 0 (Err refusal.ShortBuffer) []
    ∷ starts 1 0 (Err refusal.ShortBuffer) (0xaa ∷ [])
    ∷ starts 1 1 (Err refusal.ShortBuffer) (0xaa ∷ [])
    ∷ starts 2 1 (Err refusal.ShortBuffer) (0xaa ∷ 0xaa ∷ [])
    ∷ starts 3 2 (Err refusal.ShortBuffer) (0xaa ∷ 0xaa ∷ 0xaa ∷ [])
    ∷ starts 0 1 (Err refusal.ShortBuffer) []
    ∷ starts 2 3 (Err refusal.ShortBuffer) (0xaa ∷ 0xaa ∷ [])
    ∷ starts 3 4 (Err refusal.ShortBuffer) (0xaa ∷ 0xaa ∷ 0xaa ∷ [])
    -- a file call by call: room for all, one byte too few for the last scan, for the only one, for the start; a scan that is refused
    ∷ fills 2 0 [] (0x00 ∷ 0x82 ∷ [])
    ∷ fills 8 0 (first ∷ []) (started first_bytes)
    ∷ fills 10 1 (first ∷ []) (0xaa ∷ (started first_bytes ++ (0xaa ∷ [])))
    ∷ fills 21 0 (first ∷ second 127 ∷ []) (started (first_bytes ++ (0xff ∷ second_old)))
    ∷ fills 20 0 (first ∷ second 127 ∷ []) (started (first_bytes ++ filler 12))
    ∷ fills 7 0 (first ∷ []) (started (filler 5))
    ∷ fills 1 0 (first ∷ []) (0xaa ∷ [])
    ∷ fills 9 0 (scan_of 5 0 0 (packed_pair 0 0) ∷ first ∷ []) (started (first_bytes ++ (0xaa ∷ [])))
    -- new files read and written again are the same bytes; old ones become new ones of site 0; those damaged, of the scans before it
    ∷ row (bytes (file_bytes [])) (bytes (0x00 ∷ 0x82 ∷ []))
    ∷ becomes (0x00 ∷ 0x82 ∷ []) (0x00 ∷ 0x82 ∷ [])
    ∷ becomes (started first_bytes) (started first_bytes)
    ∷ becomes three three
    ∷ becomes [] (0x00 ∷ 0x82 ∷ [])
    ∷ becomes first_old (started first_bytes)
    ∷ becomes three_old (started (0x80 ∷ (second_old ++ (0x80 ∷ (third_old ++ (0x80 ∷ last_old))))))
    ∷ becomes (started (first_bytes ++ (0x00 ∷ 0x82 ∷ first_bytes))) (started first_bytes)
    -- one tag at two sites, within W, over G, back: no double, gap or backward step; words in the order of first scans, sites first
    ∷ reports 1024 5 60 (file_bytes (at 4 9 10 ∷ at 3 9 12 ∷ [])) (counts_with 2 0 2 0 0) (words_at 4 9 10 ++ words_at 3 9 12)
    ∷ reports 1024 0 10 (file_bytes (at 4 9 10 ∷ at 3 9 40 ∷ [])) (counts_with 2 0 2 0 0) (words_at 4 9 10 ++ words_at 3 9 40)
    ∷ reports 1024 0 10 (file_bytes (at 4 9 40 ∷ at 3 9 10 ∷ [])) (counts_with 2 0 2 0 0) (words_at 4 9 40 ++ words_at 3 9 10)
    -- two tags at one site; a site and a tag exchanged; the largest and 0
    ∷ reports 1024 5 60 (file_bytes (at 3 9 10 ∷ at 3 8 12 ∷ [])) (counts_with 2 0 2 0 0) (words_at 3 9 10 ++ words_at 3 8 12)
    ∷ reports 1024 5 60 (file_bytes (at 3 9 10 ∷ at 9 3 12 ∷ [])) (counts_with 2 0 2 0 0) (words_at 3 9 10 ++ words_at 9 3 12)
    ∷ reports 1024 5 60 (file_bytes (at 0 4294967295 10 ∷ at 4294967295 0 11 ∷ at 4294967295 4294967295 12 ∷ [])) (counts_with 3 0 3 0 0)
    (words_at 0 4294967295 10 ++ (words_at 4294967295 0 11 ++ words_at 4294967295 4294967295 12))
    -- a site and tag twice: a double, and with other posts between a double, a gap and a backward step
    ∷ reports 1024 5 60 (file_bytes (at 3 9 10 ∷ at 3 9 12 ∷ [])) (counts_with 2 1 1 0 0) (words_at 3 9 10)
    ∷ reports 1024 5 20 (file_bytes (at 3 9 10 ∷ at 4 9 11 ∷ at 3 9 12 ∷ at 4 9 40 ∷ [])) (counts_with 4 1 3 1 0)
    (words_at 3 9 10 ++ words_at 4 9 40)
    ∷ reports 1024 0 10 (file_bytes (at 3 9 30 ∷ at 3 8 10 ∷ at 3 9 10 ∷ [])) (counts_with 3 0 3 0 1) (words_at 3 9 10 ++ words_at 3 8 10)
    -- an old file's are of site 0; new ones of site 0, and of no scan
    ∷ reports 1024 60 60 (0x89 ∷ 0x81 ∷ (year1 ++ (0x88 ∷ 0x81 ∷ (year1 ++ (0x89 ∷ 0x82 ∷ year1))))) (counts_with 3 1 2 0 0)
    (year_words 0 9 ++ year_words 0 8)
    ∷ reports 1024 60 60 (started (0x80 ∷ 0x89 ∷ 0x81 ∷ (year1 ++ (0x81 ∷ 0x89 ∷ 0x81 ∷ year1)))) (counts_with 2 0 2 0 0)
    (year_words 0 9 ++ year_words 1 9)
    ∷ reports 1024 60 60 (0x00 ∷ 0x82 ∷ []) no_counts []
    -- damage of the start and of a site
    ∷ rejects 1024 60 (0x00 ∷ []) refusal.InputEnds
    ∷ rejects 1024 60 (0x00 ∷ 0x83 ∷ first_bytes) refusal.Number
    ∷ rejects 1024 60 (started (first_bytes ++ (0x00 ∷ 0x82 ∷ first_bytes))) refusal.Number
    -- too few words, enough, and one that stays
    ∷ rejects 768 60 (started first_bytes) refusal.Words
    ∷ rejects 1023 60 (started first_bytes) refusal.Words
    ∷ reports 1024 60 60 (started first_bytes) (counts_with 1 0 1 0 0) (year_words 0 0)
    ∷ reports 1025 60 60 (started first_bytes) (counts_with 1 0 1 0 0) (year_words 0 0)
    -- 256 posts, 16 tags at 16 sites each, and a scan more of one of them
    ∷ reports 1024 60 60 (file_bytes (posts 16)) (counts_with 256 0 256 0 0) (post_words 16)
    ∷ reports 1024 60 60 (file_bytes (posts 16 ++ (year_one 15 0 0 ∷ []))) (counts_with 257 1 256 0 0) (post_words 16)
    -- a 257th: a known tag at another site, another tag at a known site; damage after it, and in it
    ∷ rejects 1024 60 (file_bytes (posts 16 ++ (year_one 16 0 0 ∷ []))) refusal.Posts
    ∷ rejects 1024 60 (file_bytes (posts 16 ++ (year_one 0 16 0 ∷ [])) ++ (0x00 ∷ [])) refusal.Posts
    ∷ rejects 1024 60 (file_bytes (posts 16) ++ (0x90 ∷ 0x00 ∷ 0x80 ∷ [])) refusal.Number
    ∷ rejects 1024 60 (file_bytes (posts 16) ++ (0x90 ∷ 0x80 ∷ 0x80 ∷ 0x6f ∷ [])) refusal.FirstByte
    -- an old file of 256 tags, and of a 257th
    ∷ reports 1024 60 60 tags_old (counts_with 256 0 256 0 0) (words_at_site 0 256)
    ∷ rejects 1024 60 (tags_old ++ (0x02 ∷ 0x80 ∷ 0x80 ∷ year1)) refusal.Posts
    -- every beginning of a new scan is cut short
    ∷ (cuts 5 first_bytes ++ (cuts 13 (0x01 ∷ 0x80 ∷ second_old) ++ cuts 34 last_bytes))

-- every row
pub site_examples : map (λ (r : Row). r.given) site_rows ≡ map (λ (r : Row). r.stated) site_rows
unfolding site_rows started four third third_old first_bytes last_bytes three three_old in_layout after_first cuts takes refuses writes
    starts fills becomes clock_word at words_at year_words at_site posts words_at_site post_words tags_from tags_old places_on places
    count_in count place_count value_from groups varuint scan_from read_var_uint signed_count signed varint read_var_int int_count int
    read_int decimal_bytes is_leap month_length_of sum_below word_of fields_of capped count_of build_of build_checks build_pair check_of
    utc_fields offset_bytes field_count fraction_bytes body_from body_of header value_of decode_offset decode_fields decode_parts
    decode_fraction filled precision_with decode_body pair_from read_after read_by same is_body_of read_body read_length read_value put
    room_for put_after wrote_after contents_from contents in_turn read_number layout_of scan_bytes scan_check read_scan scans_in
    contents_of file_bytes written_in_turn file_in_turn check_file_of place_of with_last kind_beside kind_of tally_from words_for
    words_over lent_check file_check report_of words_after
site_examples = refl
