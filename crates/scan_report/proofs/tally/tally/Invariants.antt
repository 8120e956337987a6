-- The loop of `tally`: the scans passed are tallied.
use Rattle.scans.specs.File.{scans_in}
use Rattle.scan_report.proofs.Tallying.{Tallying}
use Rattle.scan_report.proofs.tally.tally.Given as goal

abbrev pub invariant-loop-scan : goal.invariant-loop-scan
invariant-loop-scan l =
    let i = l.scan-iterator in
    record {
      tallying : Tallying l.w l.g l.s (scans_in i.layout i.left.now) l.counts l.last;
      can : (goal.iterator-loop-scan).can_next i;
      ends : (goal.iterator-loop-scan).is_finite i;
    }
