-- `var_int::read_i64` meets its contract.
use Rattle.std.proofs.Common.{arith}
use Rattle.std.proofs.lemmas.Grind.{common_steps}
use Rattle.padded_reader.proofs.Saturation.{passed_first, passed_more}
use Rattle.padded_reader.proofs.var_int.read_i64.Goals as goal

pub loop-count-init : goal.loop-count-init
loop-count-init c =
    let b = c.in_ok-b.field-0.now in
    passed_first c.args.s.now c.args.at b (grind (arith, common_steps)) (grind (arith, common_steps)) c.if-b-ge-END_FLAG.false

pub loop-count-preserved : goal.loop-count-preserved
loop-count-preserved c =
    let b = c.in_ok-b-2.field-0.now in
    passed_more c.loop-count.invariant b _ (omega arith) (grind (arith, common_steps)) (grind (arith, common_steps)) (omega arith)
    (grind (arith, common_steps))
