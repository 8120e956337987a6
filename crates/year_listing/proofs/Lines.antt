-- The lines of the listing, put one after another: each has eight bytes at most. Assumes nothing.
use mathlib.Core.Path.{ap}
use mathlib.Core.List.{List, [], ◌∷◌, map}
use Prim.Native.Nat.{ℕ, zero, suc, ◌+◌, ◌*◌, ◌≤◌, ◌<◌, zero-le}
use native.Mathlib.Omega.{arith}
use lib.Dec.{lit<}
use lib.ListN.{length, length-append, get_or, take}
use lib.Seq.{take_all}
use Rattle.std.specs.List.{range_with_len}
use Rattle.places.proofs.Laws.{fewest}
use Rattle.ion.specs.Calendar.Dates.{year_start}
use Rattle.ion.specs.Calendar.YearStarts.{year_starts}
use Rattle.ion.specs.Calls.Contents.{in_turn}
use Rattle.ion.specs.Calls.Output.{Run}
use Rattle.ion.specs.Calls.YearListing.{number_line, year_lines}
use Rattle.ion.specs.Numbers.Padded.{padded}
use Rattle.output.proofs.Runs.{each_none, each_room, each_put, run_is}
use Rattle.text.proofs.Digits.{length_padded}
use Rattle.year_table.proofs.Entries.{starts_length, year_start_below}

-- ---- room for all of them

-- a year's start has seven digits at most
line_length : (y : ℕ) → y < 10001 → length (number_line (year_start y)) ≤ 8
line_length y h =
    let n = year_start y in
    let digits = fewest 10 (lit< tt) 7 n (omega arith) (omega (arith, year_start_below y)) in
    omega (arith, length-append (padded 1 n) (10 ∷ []), length_padded 1 n, digits)

lines_length : (y n : ℕ) → y + n ≤ 10001 → length (in_turn number_line (map year_start (range_with_len y n))) ≤ 8 * n
unfolding in_turn
lines_length y zero h = zero-le
lines_length y (suc n) h =
    let rest = in_turn number_line (map year_start (range_with_len (y + 1) n)) in
    omega (arith, length-append (number_line (year_start y)) rest, line_length y (omega arith), lines_length (y + 1) n (omega arith))

pub listing_length : length year_lines ≤ 80008
unfolding year_lines year_starts
listing_length = lines_length 0 10001 (omega arith)

-- ---- the first of them, in the first `end` bytes of e, which was d

abbrev pub FirstLines : ℕ → List ℕ → List ℕ → ℕ → Type 0
FirstLines i d e end = Run d 0 (in_turn number_line (take i year_starts)) e end

pub no_lines : (d : List ℕ) → FirstLines 0 d d 0
no_lines d = each_none number_line d 0

module _ {i end : ℕ} {d e : List ℕ} (p : FirstLines i d e end) where
  module _ (h : i < 10001) (m : length year_lines ≤ length d) where
    within : i < length year_starts
    within = omega (arith, starts_length)

    room : 0 + length (in_turn number_line year_starts) ≤ length d
    unfolding year_lines
    room = omega (arith, m)

    pub line_room : end + length (number_line (get_or year_starts i 0)) ≤ length d
    line_room = each_room number_line 0 year_starts i p within room

    pub line_put : {f : List ℕ} {r : ℕ} → Run e end (number_line (get_or year_starts i 0)) f r → FirstLines (i + 1) d f r
    line_put = each_put number_line 0 year_starts i p within room

  pub all_lines : 10001 ≤ i → Run d 0 year_lines e end
  unfolding year_lines
  all_lines h = run_is p (ap (in_turn number_line) (take_all i year_starts (omega (arith, starts_length))))
