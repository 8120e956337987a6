-- `padded::Padded::read_length` meets its contract.
use Rattle.std.proofs.Common.{arith, sym}
use Rattle.padded_reader.proofs.Bounds.{uint_room}
use Rattle.padded_reader.proofs.padded.PaddedForms.read_length.Goals as goal

pub returns-in-Ok-clause-room : goal.returns-in-Ok-clause-room
returns-in-Ok-clause-room c =
    let found = c.in-Ok in
    omega (arith, uint_room 64 0 c.args.s.now found.length found.n (sym found.ensures.value))
