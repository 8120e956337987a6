-- `read_full` meets its contract: a turn adds what it read, or nothing.
use Rattle.std.proofs.Common.{rules}
use Rattle.input.proofs.Parts.{none_read, more_read}
use Rattle.input.proofs.read_full.Goals as goal
use Rattle.input.proofs.read_full.Goals.{in-Ok, in-Err+else-ne}

pub loop-preserved : goal.loop-preserved
loop-preserved g c =
    let i = c.loop.invariant in
    elim c.match-read.branch [
      | in-Ok w ↦
          let p = w.in-Ok.ensures in
          let h = more_read c.loop.at c.loop.buf c.read.new.buf i.1 _ _ _ i.2 w.in-Ok.n p.bound.0 p.bytes.0 in
          (search rules, search rules, rw w.at-is h)
      | in-Err+else-ne w ↦
          let h = none_read c.loop.at c.loop.buf c.read.new.buf i.1 _ _ _ i.2 w.in-Err.ensures.bytes in
          (search rules, search rules, rw w.at-is h)
    ]
