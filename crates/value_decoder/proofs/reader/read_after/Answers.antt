-- `reader::read_after` meets its contract.
use Rattle.std.proofs.Common.{arith, sym}
use Rattle.std.proofs.lemmas.Grind.{common_steps}
use Rattle.value_decoder.proofs.PartsReadings.{parts_ok, parts_err}
use Rattle.value_decoder.proofs.reader.read_after.Goals as goal

pub returns-in_err-read_parts : goal.returns-in_err-read_parts
returns-in_err-read_parts g c =
    let after = parts_err g.F.Forms.numbers g.F.Forms.fraction g.F.Forms.length_of c.args.s.now c.args.header c.args.n in
    let answer = after (grind (arith, common_steps)) c.in_ok-x.x (grind (arith, common_steps)) _ c.in_err-read_parts.ensures in
    grind (arith, common_steps)

pub returns : goal.returns
returns g c =
    let after = parts_ok g.F.Forms.numbers g.F.Forms.fraction g.F.Forms.length_of c.args.s.now c.args.header c.args.n in
    sym (after (grind (arith, common_steps)) c.in_ok-x.x (grind (arith, common_steps)) _ c.in_ok-read_parts.ensures)
