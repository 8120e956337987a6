-- `text_into` meets its contract: in each branch, the form that the precision picks.
use Rattle.std.proofs.Common.{sym, arith}
use Rattle.output.proofs.Runs.{run_two, run_is}
use Rattle.timestamp_text.proofs.Lengths.{year_form, month_form, day_form, minute_form, second_form, texts}
use Rattle.timestamp_text.proofs.text_into.Goals as goal

pub returns-in-0 : goal.returns-in-0
returns-in-0 c =
    run_is (run_two c.put_four-year.ensures c.put_byte.ensures (grind (arith, texts)))
    (sym (year_form c.args.f c.args.attoseconds c.in-0.is))

pub returns-in-1 : goal.returns-in-1
returns-in-1 c =
    run_is (run_two c.format_year_and_month-month.ensures c.put_byte-in-1.ensures (grind (arith, texts)))
    (sym (month_form c.args.f c.args.attoseconds c.in-1.is))

pub returns-in-2 : goal.returns-in-2
returns-in-2 c =
    run_is (run_two c.format_date-day.ensures c.put_byte-in-2.ensures (grind (arith, texts)))
    (sym (day_form c.args.f c.args.attoseconds c.in-2.is))

pub returns-in-3 : goal.returns-in-3
returns-in-3 c =
    run_is (run_two c.format_date_hour_and_minute-minute.ensures c.format_offset.ensures (grind (arith, texts)))
    (sym (minute_form c.args.f c.args.attoseconds c.in-3.is))

pub returns-in-4-to-4294967295 : goal.returns-in-4-to-4294967295
returns-in-4-to-4294967295 c =
    run_is (run_two c.format_to_fraction-fraction.ensures c.format_offset-in-4-to-4294967295.ensures (grind (arith, texts)))
    (sym (second_form c.args.f c.args.attoseconds (grind arith) (grind arith) (grind arith) (grind arith)))
