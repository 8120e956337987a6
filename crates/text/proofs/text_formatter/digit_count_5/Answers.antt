-- `text_formatter::digit_count_5` meets its contract.
use Rattle.std.proofs.Common.{sym, arith}
use lib.Dec.{lit<}
use Rattle.places.proofs.Laws.{place_last}
use Rattle.text.proofs.Digits.{count_is}
use Rattle.text.proofs.text_formatter.digit_count_5.Goals as goal

pub returns-in-0-to-9 : goal.returns-in-0-to-9
returns-in-0-to-9 c = sym (place_last 10 (lit< tt) _ (omega arith))

pub returns-in-10-to-99 : goal.returns-in-10-to-99
returns-in-10-to-99 c = count_is 1 _ (omega arith) (omega arith)

pub returns-in-100-to-999 : goal.returns-in-100-to-999
returns-in-100-to-999 c = count_is 2 _ (omega arith) (omega arith)

pub returns-in-1000-to-9999 : goal.returns-in-1000-to-9999
returns-in-1000-to-9999 c = count_is 3 _ (omega arith) (omega arith)

pub returns-in_default : goal.returns-in_default
returns-in_default c = count_is 4 _ (omega arith) (omega arith)
