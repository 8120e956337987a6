-- A scan: site, tag and guard, then the timestamp's value. In the old layout it has no site, which is read as 0. Assumes nothing.
use Rattle.std.specs.Prelude.{ℕ, ◌+◌, List, ◌++◌, drop, Result, Ok}
use Rattle.ion.specs.Numbers.VarUInt.{varuint}
use Rattle.ion.specs.Calls.Answered.{and_then}
use Rattle.ion.specs.Calls.Check.{check_of}
use Rattle.ion.specs.Value.Encode.{value_of}
use Rattle.ion.specs.Value.ReadValue.{read_value}
use Rattle.ion.specs.declared.Timestamp.{Timestamp}
use Rattle.ion.specs.declared.refusal.Refusal.{Refusal}
use Rattle.scans.specs.Number.{read_number}
use Rattle.scans.specs.declared.Layout.{Layout}
use Rattle.scans.specs.declared.Layout.TheVariants.{Old, New}
use Rattle.scans.specs.declared.Scan.{Scan}

abbrev pub scan_of : ℕ → ℕ → ℕ → Timestamp → Scan
scan_of site tag guard s = record { site = site; tag = tag; guard = guard; stamp = s }

-- ---- writing, in the new layout only

unfoldable pub scan_bytes : Scan → List ℕ
scan_bytes x = varuint x.site ++ (varuint x.tag ++ (varuint x.guard ++ value_of x.stamp))

-- a scan's own check, which comes before the room's
unfoldable pub scan_check : Scan → Result Timestamp Refusal
scan_check x = check_of x.stamp

-- ---- reading

-- the site with which the bytes begin, and how many of them it takes
abbrev pub read_site : Layout → List ℕ → Result (ℕ × ℕ) Refusal
read_site Old s = Ok (0, 0)
read_site New s = read_number s

-- the scan with which the bytes begin, and how many of them it takes: site, tag, guard and value, and the first refusal of them
unfoldable pub read_scan : Layout → List ℕ → Result (Scan × ℕ) Refusal
read_scan layout s =
    and_then (read_site layout s) (λ site.
    and_then (read_number (drop site.1 s)) (λ tag.
    let m = site.1 + tag.1 in
    and_then (read_number (drop m s)) (λ guard.
    let n = m + guard.1 in
    and_then (read_value (drop n s)) (λ value. Ok (scan_of site.0 tag.0 guard.0 value.0, n + value.1)))))
