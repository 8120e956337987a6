-- `file::check_file` meets its contract.
use Rattle.std.proofs.Common.{rules}
use Rattle.scan_binary.proofs.Steps.{next, some_left, answer}
use Rattle.scan_binary.proofs.file.check_file.Goals as goal

pub returns-in_err-scan : goal.returns-in_err-scan
returns-in_err-scan c =
    let e = answer c.loop-scan.invariant.checked (rw c.in_err-scan.was at c.in-Some.ensures.steps).0 in search (rules, e)

pub overflow_add-scans : goal.overflow_add-scans
overflow_add-scans c =
    let h = some_left c.loop-scan.invariant.checked (rw c.in_ok-scan.was at c.in-Some.ensures.steps) in search (rules, h)

pub loop-scan-preserved : goal.loop-scan-preserved
loop-scan-preserved c =
    record { checked = next c.loop-scan.invariant.checked (rw c.in_ok-scan.was at c.in-Some.ensures.steps); can = tt; ends = tt }

pub returns : goal.returns
returns c = answer c.loop-scan.invariant.checked c.in-None.ensures.steps.0
