-- `parts::format_to_fraction` meets its contract.
use Rattle.std.proofs.Common.{arith}
use Rattle.output.proofs.Runs.{run_two}
use Rattle.timestamp_text.proofs.Lengths.{seconds}
use Rattle.timestamp_text.proofs.parts.format_to_fraction.Goals as goal

pub returns : goal.returns
returns c =
    run_two (run_two c.format_date_hour_and_minute-minute.ensures c.put_marked-second.ensures (grind (arith, seconds)))
    c.format_fractional_seconds.ensures (grind (arith, seconds))
