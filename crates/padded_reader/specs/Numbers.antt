-- The numbers of a body as far as 64 bits hold them: a VarInt of more is read as their largest, an Int of more is not read. Assumes
-- nothing.
use Rattle.std.specs.Prelude.{ℕ, ◌-◌, ◌^◌, min, cond, List, ltb, Option, None, Some, Result, Ok, Err}
use Rattle.ion.specs.Numbers.VarInt.{signed_magnitude}
use Rattle.ion.specs.Numbers.PaddedNumbers.{padded_int_sign, padded_int_magnitude}
use Rattle.ion.specs.declared.number.NumberError.{NumberError}
use Rattle.ion.specs.declared.number.SignedMagnitude.{SignedMagnitude}

-- the magnitude that was read, or the largest of 64 bits
abbrev pub saturated : Result (SignedMagnitude × ℕ) NumberError → Result (SignedMagnitude × ℕ) NumberError
saturated (Ok x) = Ok (signed_magnitude x.0.negative (min x.0.magnitude (2 ^ 64 - 1)), x.1)
saturated (Err e) = Err e

-- the Int of up to 64 bits that the bytes are, all of them
unfoldable pub padded_int : List ℕ → Option SignedMagnitude
padded_int s = cond (ltb (padded_int_magnitude s) (2 ^ 64)) (Some (signed_magnitude (padded_int_sign s) (padded_int_magnitude s))) None
