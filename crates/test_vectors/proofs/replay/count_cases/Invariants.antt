-- The loop of `replay::count_cases`: so far it counted as it will in the end. What is left of the file falls.
use Rattle.std.proofs.Common.{length}
use Rattle.test_vectors.specs.Records.{Counted}
use Rattle.test_vectors.proofs.replay.count_cases.Given as goal

abbrev pub invariant-loop-kind : goal.invariant-loop-kind
invariant-loop-kind l = Counted (length l.bytes) l.tally (length l.rest)

abbrev pub decreases-loop-kind : goal.decreases-loop-kind
decreases-loop-kind l = length l.rest
