-- `text_formatter::put_digits` meets its contract.
use Rattle.std.proofs.Common.{inl, inr, arith}
use lib.Dec.{lit<}
use Rattle.text.proofs.Digits.{length_padded}
use Rattle.text.proofs.Padding.{padding_next, padding_all}
use Rattle.text.proofs.text_formatter.put_digits.Goals as goal
use Rattle.text.proofs.text_formatter.put_digits.Goals.{else-width-end-via-then-width-end+else-q-eq0, else-width-end-via-else-width-end}

pub returns-then-q-eq0 : goal.returns-then-q-eq0
returns-then-q-eq0 c =
    record {
      bytes = padding_all (lit< tt) c.loop-i.invariant c.if-width-end.true c.if-q-eq0.true;
      next = omega (arith, c.loop-i.invariant.ends, length_padded c.args.width c.args.value);
    }

pub loop-i-preserved : goal.loop-i-preserved
loop-i-preserved c =
    padding_next (lit< tt) c.loop-i.invariant
    (elim c.else-width-end.branch [
      | else-width-end-via-then-width-end+else-q-eq0 w ↦ inr w.if-q-eq0.false
      | else-width-end-via-else-width-end w ↦ inl w.if-width-end.false
    ])
