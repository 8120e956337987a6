-- The loop of `int::read_u64`: the bytes that are left, below those of the value, make the whole number.
use Rattle.std.proofs.Common.{◌≡◌, drop}
use Rattle.places.specs.Places.{plain, value_from}
use Rattle.ion.specs.Numbers.Int.{big_endian}
use Rattle.binary.proofs.int.read_u64.Given as goal

abbrev pub invariant-loop-byte : goal.invariant-loop-byte
invariant-loop-byte l = big_endian l.s ≡ value_from 256 plain l.value (drop l.byte-index l.s)
