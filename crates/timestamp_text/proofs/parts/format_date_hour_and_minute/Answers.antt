-- `parts::format_date_hour_and_minute` meets its contract.
use Rattle.std.proofs.Common.{arith}
use Rattle.output.proofs.Runs.{run_two}
use Rattle.timestamp_text.proofs.Lengths.{lengths}
use Rattle.timestamp_text.proofs.parts.format_date_hour_and_minute.Goals as goal

pub returns : goal.returns
returns c =
    run_two (run_two c.format_date-next.ensures c.put_marked-minute.ensures (grind (arith, lengths))) c.put_marked.ensures
    (grind (arith, lengths))
