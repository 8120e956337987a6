-- `padded::Padded::read_field` meets its contract.
use Rattle.padded_reader.proofs.Bounds.{uint_bounds}
use Rattle.padded_reader.proofs.padded.PaddedForms.read_field.Goals as goal

pub returns-clause-bounds : goal.returns-clause-bounds
returns-clause-bounds c = uint_bounds 16383 c.args.at c.args.s.now c.read_padded_u64.result c.read_padded_u64.ensures.value
