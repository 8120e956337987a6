-- The scans in bytes, one by one: what the reader's answer says of them. Assumes nothing.
use Rattle.std.proofs.Common.{◌≡◌, ℕ, ◌+◌, ◌-◌, ◌<◌, ◌≤◌, List, [], length, take, drop}
use Rattle.std.specs.Prelude.{Ok, Err}
use Rattle.ion.specs.Calls.Accepted.{Accepted}
use Rattle.ion.specs.Calls.Contents.{contents_with, before}
use Rattle.ion.specs.declared.refusal.Refusal.{Refusal}
use Rattle.contents.proofs.Items.{contents_stop}
use Rattle.contents.proofs.Passing.{none_left, pass_less, item_first}
use Rattle.scans.specs.Scan.{read_scan}
use Rattle.scans.specs.File.{scans_in}
use Rattle.scans.specs.declared.Layout.{Layout}
use Rattle.scans.specs.declared.Scan.{Scan}
use Rattle.value_reader.proofs.Readings.{read_is}
use Rattle.scan_laws.proofs.Reading.{in_parts}
use Rattle.scan_laws.proofs.Scans.{scan_advances, scan_within}

module _ (l : Layout) (s : List ℕ) where
  pub no_scan_left : length s ≡ 0 → scans_in l s ≡ contents_with [] (Ok tt)
  unfolding scans_in
  no_scan_left = none_left (read_scan l) s

  pub scan_stops : (r : Refusal) → read_scan l s ≡ Err r → 0 < length s → scans_in l s ≡ contents_with [] (Err r)
  unfolding scans_in
  scan_stops r e h = contents_stop (read_scan l) s h e

  module _ (x : Scan) (n : ℕ) (e : read_scan l s ≡ Ok (x, n)) where
    -- what stands after it in a slice `&s[n..]`
    pub scan_begins : scans_in l s ≡ before x (scans_in l (take (length s - n) (drop n s)))
    unfolding scans_in
    scan_begins = item_first (scan_advances l) e

    pub scan_fewer : length (take (length s - n) (drop n s)) < length s
    scan_fewer = pass_less (scan_advances l) e

    pub scan_ends : n ≤ length s
    scan_ends = (scan_within l s x n e).1

    pub scan_accepted : Accepted x.stamp
    scan_accepted = let p = in_parts l s x n e in (read_is (drop (p.i + p.j + p.k) s) x.stamp p.m p.value).accepted

pub ruleset steps = (no_scan_left, scan_stops, scan_ends)
