-- `offset::put_clock` meets its contract.
use Rattle.std.proofs.Common.{arith}
use Rattle.ion.specs.Text.Format.{clock_text}
use Rattle.output.proofs.Runs.{run_two}
use Rattle.timestamp_text.proofs.Lengths.{lengths}
use Rattle.timestamp_text.proofs.offset.put_clock.Goals as goal

pub returns : goal.returns
unfolding clock_text
returns c =
    run_two (run_two c.put_byte-hours.ensures c.put_two-next.ensures (grind (arith, lengths))) c.put_marked.ensures
    (grind (arith, lengths))
