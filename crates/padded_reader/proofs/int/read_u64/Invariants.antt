-- The loop of `int::read_u64`: the bytes that are left, below those of the magnitude, make the whole of it.
use Rattle.std.proofs.Common.{◌≡◌, ◌^◌, ◌<◌, drop}
use Rattle.places.specs.Places.{plain, value_from}
use Rattle.ion.specs.Numbers.PaddedNumbers.{padded_int_magnitude}
use Rattle.padded_reader.proofs.int.read_u64.Given as goal

abbrev pub invariant-loop-byte : goal.invariant-loop-byte
invariant-loop-byte l =
    record {
      fits : l.magnitude < 2 ^ 64;
      whole : padded_int_magnitude l.s ≡ value_from 256 plain l.magnitude (drop l.byte-index l.rest);
    }
