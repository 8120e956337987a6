-- `put_text` meets its contract: a text and a line feed.
use Rattle.std.proofs.Common.{arith}
use Rattle.output.proofs.Runs.{run_two}
use Rattle.timestamp_text.proofs.Lengths.{longest}
use Rattle.listing.proofs.Puts.{text_valid, text_run}
use Rattle.listing.proofs.put_text.Goals as goal

pub text_into-end-requires : goal.text_into-end-requires
text_into-end-requires c =
    let v = text_valid c.args.s c.unpack.ensures c.requires.1 in
    (omega (arith, longest c.unpack.result c.args.s.attoseconds v), v)

pub put-requires : goal.put-requires
put-requires c =
    let v = text_valid c.args.s c.unpack.ensures c.requires.1 in
    rw c.as_slice.ensures (omega (arith, longest c.unpack.result c.args.s.attoseconds v))

pub returns-clause-run : goal.returns-clause-run
returns-clause-run c =
    let v = text_valid c.args.s c.unpack.ensures c.requires.1 in
    let l = rw c.as_slice.ensures at c.put.ensures in
    run_two (text_run c.args.s c.unpack.ensures c.text_into-end.ensures) l
    (omega (arith, l.next, longest c.unpack.result c.args.s.attoseconds v))

pub returns-clause-bound : goal.returns-clause-bound
returns-clause-bound c =
    let v = text_valid c.args.s c.unpack.ensures c.requires.1 in
    omega (arith, rw c.as_slice.ensures at c.put.ensures.next, longest c.unpack.result c.args.s.attoseconds v)
