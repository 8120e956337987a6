-- The loop of `var_int::read_i64`: the groups that were passed, with those that are left, are the whole VarInt.
use Rattle.padded_reader.proofs.Saturation.{Passed}
use Rattle.padded_reader.proofs.var_int.read_i64.Given as goal

abbrev pub invariant-loop-count : goal.invariant-loop-count
invariant-loop-count l = Passed l.s l.at l.negative l.magnitude l.count
