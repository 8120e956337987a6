-- `parts::put_marked` meets its contract.
use Rattle.std.proofs.Common.{arith}
use Rattle.ion.specs.Text.Format.{marked}
use Rattle.output.proofs.Runs.{run_two}
use Rattle.timestamp_text.proofs.Lengths.{lengths}
use Rattle.timestamp_text.proofs.parts.put_marked.Goals as goal

pub returns : goal.returns
unfolding marked
returns c = run_two c.put_byte-next.ensures c.put_two.ensures (grind (arith, lengths))
