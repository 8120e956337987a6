-- What the tables of scans, sites and reports share: what a row states, the bytes of numbers and values, and rows of files and of reports.
-- Assumes nothing.
use Rattle.std.specs.Prelude.{ℕ, ◌-◌, List, [], ◌∷◌, ◌++◌, length, replicate, Result, Ok, Err}
use Rattle.ion.specs.declared.refusal.Refusal.{Refusal}
use Rattle.ion.specs.Pair.Pair.{packed_pair}
use Rattle.scans.specs.Scan.{scan_of}
use Rattle.scans.specs.File.{contents_of, check_file_of}
use Rattle.scans.specs.Report.{report_of, words_after}
use Rattle.scans.specs.declared.Layout.{Layout}
use Rattle.scans.specs.declared.Scan.{Scan}
use Rattle.scans.specs.declared.Counts.{Counts}

pub data Answer : Type 0 where
  layout : Layout → Answer
  scan : Result (Scan × ℕ) Refusal → Answer
  -- a file's scans before its end or damage, how they end, and its check
  file : List Scan → Result Unit Refusal → Result ℕ Refusal → Answer
  bytes : List ℕ → Answer
  -- a writer's answer, and the buffer after it
  written : Result ℕ Refusal → List ℕ → Answer
  -- a report, and the words after it
  report : Result Counts Refusal → List ℕ → Answer

-- what the definitions give, and what is stated
pub record Row : Type 0 where
  pub given : Answer
  pub stated : Answer

abbrev pub row : Answer → Answer → Row
row g s = record { given = g; stated = s }

-- ---- bytes

-- year 1 alone
abbrev pub year1 : List ℕ
year1 = 0x62 ∷ 0xc0 ∷ 0x81 ∷ []

abbrev pub p3 : List ℕ
p3 = 0x68 ∷ 0x80 ∷ 0x0f ∷ 0xe4 ∷ 0x82 ∷ 0x83 ∷ 0x84 ∷ 0x85 ∷ 0x86 ∷ []

-- the longest value: 9999-12-31T23:59:59.999999999999999999-23:59
abbrev pub longest : List ℕ
longest =
    0x6e ∷ 0x92 ∷ 0x4b ∷ 0x9f ∷ 0x4e ∷ 0x90 ∷ 0x81 ∷ 0x81 ∷ 0x97 ∷ 0xba ∷ 0xbb ∷ 0xd2
    ∷ 0x0d ∷ 0xe0 ∷ 0xb6 ∷ 0xb3 ∷ 0xa7 ∷ 0x63 ∷ 0xff ∷ 0xff ∷ []

-- the largest number, the same not marked, and the next one
abbrev pub most : List ℕ
most = 0x0f ∷ 0x7f ∷ 0x7f ∷ 0x7f ∷ 0xff ∷ []

abbrev pub unmarked : List ℕ
unmarked = 0x0f ∷ 0x7f ∷ 0x7f ∷ 0x7f ∷ 0x7f ∷ []

abbrev pub above : List ℕ
above = 0x10 ∷ 0x00 ∷ 0x00 ∷ 0x00 ∷ 0x80 ∷ []

-- ---- scans: each at its site and, of an old file, at site 0; and their bytes after the site

abbrev pub year_one : ℕ → ℕ → ℕ → Scan
year_one site tag guard = scan_of site tag guard (packed_pair 0x0004420000000000 0)

-- that of site, tag and guard 0
abbrev pub first : Scan
first = year_one 0 0 0

abbrev pub first_old : List ℕ
first_old = 0x80 ∷ 0x80 ∷ year1

abbrev pub second : ℕ → Scan
second site = scan_of site 300 7 (packed_pair 0x1f90864146805a00 0)

abbrev pub second_old : List ℕ
second_old = 0x02 ∷ 0xac ∷ 0x87 ∷ p3

abbrev pub last : ℕ → Scan
last site = scan_of site 4294967295 4294967295 (packed_pair 0x9c3f3f7efb920010 999999999999999999)

abbrev pub last_old : List ℕ
last_old = most ++ (most ++ longest)

-- ---- rows

abbrev pub holds : List ℕ → List Scan → Row
holds s xs = row (file (contents_of s).items (contents_of s).ending (check_file_of s)) (file xs (Ok tt) (Ok (length xs)))

abbrev pub damaged : List ℕ → List Scan → Refusal → Row
damaged s xs r = row (file (contents_of s).items (contents_of s).ending (check_file_of s)) (file xs (Err r) (Err r))

-- bytes AA, into which is written
abbrev pub filler : ℕ → List ℕ
filler n = replicate {A = ℕ} n 0xaa

-- words 7, which are lent
abbrev pub lent : ℕ → List ℕ
lent n = replicate {A = ℕ} n 7

-- with size words lent, of which those past the 1,024 stay
abbrev pub reports : ℕ → ℕ → ℕ → List ℕ → Counts → List ℕ → Row
reports size w g s c words =
    let after = words ++ (replicate {A = ℕ} (1024 - length words) 0 ++ replicate {A = ℕ} (size - 1024) 7) in
    row (report (report_of (lent size) w g s) (words_after (lent size) w g s)) (report (Ok c) after)

abbrev pub rejects : ℕ → ℕ → List ℕ → Refusal → Row
rejects size w s r = row (report (report_of (lent size) w 0 s) (words_after (lent size) w 0 s)) (report (Err r) (lent size))
