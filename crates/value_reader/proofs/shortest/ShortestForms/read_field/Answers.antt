-- `shortest::Shortest::read_field` meets its contract.
use Rattle.value_reader.proofs.FormSteps.{field_bounds}
use Rattle.value_reader.proofs.shortest.ShortestForms.read_field.Goals as goal

pub returns-clause-bounds : goal.returns-clause-bounds
returns-clause-bounds c = field_bounds c.args.s.now c.type_inv.s c.args.at c.read_u64.result c.read_u64.ensures.value
