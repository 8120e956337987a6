-- `Scans::next` meets its contract.
use Rattle.std.proofs.Common.{sym, ◌∙◌, rules}
use Rattle.scan_laws.proofs.Passing.{scan_fewer}
use Rattle.scan_binary.proofs.Steps.{begins}
use Rattle.scan_binary.proofs.file.ScansIterator.next.Goals as goal

pub returns-in-Ok-clause-steps : goal.returns-in-Ok-clause-steps
returns-in-Ok-clause-steps c = begins _ _ (sym c.read_scan.ensures ∙ c.in-Ok.is)

pub returns-in-Ok-clause-goes : goal.returns-in-Ok-clause-goes
returns-in-Ok-clause-goes c = let h = scan_fewer _ _ _ _ (sym c.read_scan.ensures ∙ c.in-Ok.is) in search (rules, h)
