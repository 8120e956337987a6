-- `parts::format_date` meets its contract.
use Rattle.std.proofs.Common.{arith}
use Rattle.output.proofs.Runs.{run_two}
use Rattle.timestamp_text.proofs.Lengths.{lengths}
use Rattle.timestamp_text.proofs.parts.format_date.Goals as goal

pub returns : goal.returns
returns c = run_two c.format_year_and_month-next.ensures c.put_marked.ensures (grind (arith, lengths))
