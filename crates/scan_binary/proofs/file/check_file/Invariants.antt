-- The loop of `file::check_file`: the scans passed are counted.
use Rattle.scans.specs.File.{scans_in}
use Rattle.scan_binary.proofs.Steps.{Checked}
use Rattle.scan_binary.proofs.file.check_file.Given as goal

abbrev pub invariant-loop-scan : goal.invariant-loop-scan
invariant-loop-scan l =
    let i = l.scan-iterator in
    record {
      checked : Checked l.s (scans_in i.layout i.left.now) l.scans;
      can : (goal.iterator-loop-scan).can_next i;
      ends : (goal.iterator-loop-scan).is_finite i;
    }
