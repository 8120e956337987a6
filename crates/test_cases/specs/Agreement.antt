-- Whether an answer about scans is the recorded one. Assumes nothing.
use Rattle.std.specs.Prelude.{ℕ, ◌+◌, List, Bool, true, false, cond, ◌&&◌, eqb, leb, length, drop, get_or, Result}
use Rattle.std.specs.Result.{result_unwrap_or}
use Rattle.ion.specs.Pair.Pair.{same_pair}
use Rattle.ion.specs.Calls.Refusal.{number_in}
use Rattle.ion.specs.declared.refusal.Refusal.{Refusal}
use Rattle.scans.specs.Layout.{layout_of}
use Rattle.scans.specs.Scan.{scan_of, read_scan}
use Rattle.scans.specs.File.{check_file_of}
use Rattle.scans.specs.Tally.{no_scan}
use Rattle.scans.specs.declared.Layout.{Layout}
use Rattle.scans.specs.declared.Layout.TheVariants.{Old, New}
use Rattle.scans.specs.declared.Scan.{Scan}
use Rattle.test_answers.specs.Fields.{half_at, recorded_pair}

-- a layout among a record's bytes: 0 for the old one, 1 for the new one
unfoldable pub recorded_layout : List ℕ → ℕ → Layout
recorded_layout r at = cond (eqb (get_or r at 0) 0) Old New

abbrev pub same_layout : Layout → Layout → Bool
same_layout Old Old = true
same_layout Old New = false
same_layout New Old = false
same_layout New New = true

-- a scan among a record's bytes: site, tag, guard and pair
unfoldable pub recorded_scan : List ℕ → ℕ → Scan
recorded_scan r at = scan_of (half_at r at) (half_at r (at + 4)) (half_at r (at + 8)) (recorded_pair r (at + 12))

abbrev pub same_scan : Scan → Scan → Bool
same_scan x y = eqb x.site y.site && eqb x.tag y.tag && eqb x.guard y.guard && same_pair x.stamp y.stamp

-- a number, a scan, and how many bytes it takes; zeros beside a refusal
unfoldable pub is_read : Result (Scan × ℕ) Refusal → List ℕ → Bool
is_read a r =
    let x = result_unwrap_or a (no_scan, 0) in
    eqb (number_in a) (get_or r 0 0) && eqb x.1 (get_or r 30 0) && same_scan x.0 (recorded_scan r 2)

-- reading: the input stands after the number, the layout, the scan, and how many bytes are taken
unfoldable pub scan_agrees : List ℕ → Bool
scan_agrees r = leb 32 (length r) && is_read (read_scan (recorded_layout r 1) (drop 32 r)) r

-- checking a file, which stands after the number, its layout and how many scans it holds
unfoldable pub file_agrees : List ℕ → Bool
file_agrees r =
    let a = check_file_of (drop 4 r) in
    leb 4 (length r)
    && (leb (get_or r 1 0) 1
    && same_layout (layout_of (drop 4 r)) (recorded_layout r 1)
    && (eqb (number_in a) (get_or r 0 0) && eqb (result_unwrap_or a 0) (get_or r 2 0)))
