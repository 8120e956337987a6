-- `shortest::Shortest::read_minutes` meets its contract.
use Rattle.value_reader.proofs.FormSteps.{minutes_bounds}
use Rattle.value_reader.proofs.shortest.ShortestForms.read_minutes.Goals as goal

pub returns-clause-bounds : goal.returns-clause-bounds
returns-clause-bounds c = minutes_bounds c.args.s.now c.type_inv.s c.read_i64.result c.read_i64.ensures.value
