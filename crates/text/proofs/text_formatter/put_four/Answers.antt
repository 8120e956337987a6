-- `text_formatter::put_four` meets its contract.
use Rattle.std.proofs.Common.{arith, ◌/◌, ◌%◌}
use lib.Dec.{lit<, lit≤}
use Rattle.places.proofs.Padded.{padded_split}
use Rattle.ion.specs.Numbers.Padded.{digit}
use Rattle.output.proofs.Runs.{run_before, run_is}
use Rattle.text.proofs.Digits.{length_exact}
use Rattle.text.proofs.text_formatter.put_four.Goals as goal

pub returns : goal.returns
returns c =
    let v = c.args.value in
    let e = c.put_two-end.ensures in
    let m = length_exact 2 (v / 100) (lit≤ tt) (omega arith) in
    let n = length_exact 2 (v % 100) (lit≤ tt) (omega arith) in
    run_is (run_before e c.put_two.ensures (omega arith) (omega (arith, e.next)))
    (padded_split 10 digit (lit< tt) 2 2 v (lit≤ tt) (lit≤ tt) c.requires.1)
