-- `LastKept::len` meets its contract.
use Rattle.scan_report.proofs.Kept.{kept_length}
use Rattle.scan_report.proofs.last_kept.LastKept.len.Goals as goal

pub returns : goal.returns
returns c = kept_length c.self.invariant c.self.view_is
