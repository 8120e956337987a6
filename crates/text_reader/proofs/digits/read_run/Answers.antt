-- `digits::read_run` meets its contract: a digit more.
use Rattle.std.proofs.Common.{arith, sym, ◌∙◌}
use Rattle.text_reader.proofs.Reading.{read_more}
use Rattle.text_reader.proofs.digits.read_run.Goals as goal

pub loop-b-preserved : goal.loop-b-preserved
loop-b-preserved c =
    let digit = sym c.is_digit.ensures ∙ c.if-not-is_digit.false in
    let one_more = rw c.loop-b.invariant.0 at c.one_more-value.ensures in
    (omega arith, read_more c.loop-b.invariant.1 _ c.loop-b-test.true digit one_more)
