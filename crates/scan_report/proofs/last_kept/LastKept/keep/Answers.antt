-- `LastKept::keep` meets its contract.
use Rattle.scan_report.proofs.Kept.{kept_next, kept_there}
use Rattle.scan_report.proofs.last_kept.LastKept.keep.Goals as goal

pub invariant_of-self : goal.invariant_of-self
invariant_of-self c =
    let r = c.requires in
    kept_next c.self.invariant c.self.view_is c.args.x c.args.place r.place c.args.count r.counted c.if-place-self.true r.room

pub invariant_of-self-else-place-self : goal.invariant_of-self-else-place-self
invariant_of-self-else-place-self c =
    let r = c.requires in
    kept_there c.self.invariant c.self.view_is c.args.x c.args.place r.place c.args.count r.counted c.if-place-self.false
