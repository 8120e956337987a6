-- The bytes of a scan are few. Assumes nothing.
use Rattle.std.proofs.Common.{ℕ, ◌+◌, ◌<◌, ◌≤◌, ◌^◌, List, ◌++◌, length, length-append, arith}
use Rattle.ion.specs.Numbers.VarUInt.{varuint}
use Rattle.binary.proofs.VarUInts.{length_varuint, groups_u64}

-- a site, a tag or a guard has ten bytes at most
pub number_few : (m : ℕ) (s : List ℕ) → m < 2 ^ 32 → length (varuint m ++ s) ≤ length s + 10
number_few m s h = omega (arith, length_varuint m, groups_u64 m (omega arith), length-append (varuint m) s)

pub ruleset parts = (number_few)
