-- `list` meets its contract.
use Rattle.std.proofs.Common.{arith}
use Rattle.year_listing.proofs.Lines.{no_lines, line_room, line_put, all_lines}
use Rattle.year_listing.proofs.list.Goals as goal

pub loop-start-init : goal.loop-start-init
loop-start-init c = no_lines c.args.buf.now

pub put_line-end-requires : goal.put_line-end-requires
put_line-end-requires c =
    let l = c.loop-start in
    rw c.year_starts-start-items.ensures (omega (arith, line_room l.invariant c.loop-start-test.true c.requires, l.auto.buf))

pub loop-start-preserved : goal.loop-start-preserved
loop-start-preserved c =
    line_put c.loop-start.invariant c.loop-start-test.true c.requires (rw c.year_starts-start-items.ensures at c.put_line-end.ensures)

pub returns : goal.returns
returns c = all_lines c.loop-start.invariant c.loop-start-test.false
