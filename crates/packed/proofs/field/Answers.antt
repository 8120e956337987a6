-- The mask: one bit, moved up by less than 64 places, is not cut, and less one it is as many ones. Assumes nothing.
use native.Mathlib.Nat.{mod-eq_of_lt, one-mul}
use lib.Bits.{and_mask}
use lib.Pow.{pow-lt}
use Rattle.packed.proofs.field.Goals as goal

pub returns : goal.returns
returns c = rw (one-mul, mod-eq_of_lt (pow-lt c.requires.1)) (and_mask _ c.args.width)
