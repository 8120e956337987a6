-- The loop of `list`: of the input the values passed are listed. What is left of it falls.
use Rattle.std.proofs.Common.{length}
use Rattle.listing.proofs.Listed.{Listed}
use Rattle.listing.proofs.list.Given as goal

abbrev pub invariant-loop-rest : goal.invariant-loop-rest
invariant-loop-rest l = Listed l.input l.rest l.initial.buf l.buf l.end

abbrev pub decreases-loop-rest : goal.decreases-loop-rest
decreases-loop-rest l = length l.rest
