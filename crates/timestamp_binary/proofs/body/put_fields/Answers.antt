-- `body::put_fields` meets its contract.
use Rattle.std.proofs.Common.{arith}
use Rattle.output.proofs.Runs.{each_none, each_room, each_put}
use Rattle.ion.specs.Numbers.VarUInt.{varuint}
use Rattle.timestamp_binary.proofs.body.put_fields.Goals as goal

pub loop-field-init : goal.loop-field-init
loop-field-init c = each_none varuint _ _

pub put-next-requires : goal.put-next-requires
put-next-requires c = omega (arith, each_room varuint 0 _ _ c.loop-field.invariant c.loop-field-test.true c.requires)

pub loop-field-preserved : goal.loop-field-preserved
loop-field-preserved c = each_put varuint 0 _ _ c.loop-field.invariant c.loop-field-test.true c.requires c.put-next.ensures
