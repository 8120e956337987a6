-- `text_formatter::digit_count` meets its contract.
use Rattle.std.proofs.Common.{arith, ◌/◌}
use lib.Dec.{lit≤}
use Rattle.text.proofs.Digits.{count_most, count_split}
use Rattle.text.proofs.text_formatter.digit_count.Goals as goal

pub overflow_add-result : goal.overflow_add-result
overflow_add-result c = omega (arith, count_most 5 (c.args.value / 100000) (lit≤ tt) (omega arith))

pub returns-then-value-lt10000000000 : goal.returns-then-value-lt10000000000
returns-then-value-lt10000000000 c = omega (arith, count_split 5 c.args.value (omega arith))

pub overflow_add-result-then-value-lt1000000000000000 : goal.overflow_add-result-then-value-lt1000000000000000
overflow_add-result-then-value-lt1000000000000000 c =
    omega (arith, count_most 5 (c.args.value / 10000000000) (lit≤ tt) (omega arith))

pub returns-then-value-lt1000000000000000 : goal.returns-then-value-lt1000000000000000
returns-then-value-lt1000000000000000 c = omega (arith, count_split 10 c.args.value (omega arith))

pub overflow_add-result-2 : goal.overflow_add-result-2
overflow_add-result-2 c = omega (arith, count_most 5 (c.args.value / 1000000000000000) (lit≤ tt) (omega arith))

pub returns : goal.returns
returns c = omega (arith, count_split 15 c.args.value (omega arith))
