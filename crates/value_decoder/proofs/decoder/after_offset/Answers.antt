-- `decoder::after_offset` meets its contract.
use Rattle.std.proofs.Common.{arith, drop}
use Rattle.std.proofs.lemmas.Grind.{common_steps}
use Rattle.ion.specs.Value.Decode.{decode_fields}
use Rattle.value_decoder.proofs.FieldSteps.{found_encodable}
use Rattle.value_decoder.proofs.decoder.after_offset.Goals as goal

pub returns-clause-encodable : goal.returns-clause-encodable
returns-clause-encodable g c =
    found_encodable g.F.Forms.numbers g.F.Forms.fraction c.args.offset c.args.s.now
    (decode_fields g.F.Forms.numbers 6 (drop c.args.at c.args.s.now)) c.in_ok-fields.fields (grind (arith, common_steps))
    c.if-fields-eq0.false c.if-fields-eq4.false c.fields_from.result c.in_ok-digits.digits c.in_ok-digits.coefficient
    (grind (arith, common_steps)) c.requires (grind (arith, common_steps)) (grind (arith, common_steps)) (grind (arith, common_steps))
    (grind (arith, common_steps))
