-- The loop of `list`: the lines of the years passed are written, and `end` is the index after them.
use Rattle.year_listing.proofs.Lines.{FirstLines}
use Rattle.year_listing.proofs.list.Given as goal

abbrev pub invariant-loop-start : goal.invariant-loop-start
invariant-loop-start l = FirstLines l.start-index l.fn.buf l.buf l.end
