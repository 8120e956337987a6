-- The tests made one after the other are the whole test.
use Rattle.std.proofs.Common.{arith}
use Rattle.std.proofs.lemmas.Grind.{common_steps}
use Rattle.ion.specs.Pair.Word.{fields_of}
use Rattle.timestamp.proofs.FieldTests.{valid_by}
use Rattle.timestamp.proofs.accepted.is_valid.Goals as goal

pub returns : goal.returns
returns c = valid_by (fields_of c.args.w) c.args.attoseconds c.is_multiple.result (grind (arith, common_steps))
