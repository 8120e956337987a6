-- `LastKept::count` meets its contract.
use Rattle.scan_report.proofs.Kept.{count_at}
use Rattle.scan_report.proofs.last_kept.LastKept.count.Goals as goal

pub returns : goal.returns
returns c = count_at c.self.invariant c.self.view_is c.args.place _ c.requires.place
