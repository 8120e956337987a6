-- The loop of `replay::count_sources`: so far it counted as it will in the end. What is left of the file falls.
use Rattle.std.proofs.Common.{length}
use Rattle.test_vectors.specs.Records.{Counted}
use Rattle.test_vectors.proofs.replay.count_sources.Given as goal

abbrev pub invariant-loop-name : goal.invariant-loop-name
invariant-loop-name g l = Counted (length l.file) l.total (length l.rest)

abbrev pub decreases-loop-name : goal.decreases-loop-name
decreases-loop-name g l = length l.rest
