-- The loop of `digits::read_run`: the digits passed are the first, and make the value.
use Rattle.std.proofs.Common.{◌≡◌}
use Rattle.text_reader.proofs.Reading.{Read}
use Rattle.text_reader.proofs.digits.read_run.Given as goal

abbrev pub invariant-loop-b : goal.invariant-loop-b
invariant-loop-b l = (l.count ≡ l.b-index) × Read l.r l.b-index l.value
