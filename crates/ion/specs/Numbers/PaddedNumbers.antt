-- Numbers of Ion binary in any form: a VarUInt and a VarInt of up to ten bytes, in which groups of value 0 may stand in front, and an
-- Int of any number of bytes, in which bytes of value 0 may. Assumes nothing.
use Rattle.std.specs.Prelude.{ℕ, ◌%◌, ◌^◌, Bool, false, List, [], ◌∷◌, leb, Result, Ok, Err}
use Rattle.ion.specs.Numbers.VarUInt.{scan_from}
use Rattle.ion.specs.Numbers.VarInt.{signed_magnitude, unsign}
use Rattle.ion.specs.Numbers.Int.{big_endian}
use Rattle.ion.specs.declared.number.NumberError.{NumberError}
use Rattle.ion.specs.declared.number.NumberError.TheVariants.{Cut}
use Rattle.ion.specs.declared.number.SignedMagnitude.{SignedMagnitude}

-- the most bytes of a VarUInt or a VarInt
abbrev pub longest : ℕ
longest = 10

-- more than ten groups hold: no limit at all
abbrev pub unlimited : ℕ
unlimited = 2 ^ 70

-- the VarUInt up to l, in any form, with which the bytes begin
unfoldable pub read_padded_var_uint : ℕ → List ℕ → Result (ℕ × ℕ) NumberError
read_padded_var_uint l s = scan_from l longest 0 0 s

-- a magnitude with a sign, whatever its shortest form is
abbrev pub with_sign : Bool → Result (ℕ × ℕ) NumberError → Result (SignedMagnitude × ℕ) NumberError
with_sign g (Ok x) = Ok (signed_magnitude g x.0, x.1)
with_sign g (Err e) = Err e

-- the VarInt of a magnitude up to l, in any form, with which the bytes begin; the sign of 0 is told
unfoldable pub read_padded_var_int : ℕ → List ℕ → Result (SignedMagnitude × ℕ) NumberError
read_padded_var_int l [] = Err Cut
read_padded_var_int l (b ∷ r) = with_sign (leb 64 (b % 128)) (scan_from l longest 0 0 (unsign b ∷ r))

-- the sign and the magnitude of the Int that the bytes are, all of them: the first one's highest bit is the sign, no bytes are 0
unfoldable pub padded_int_sign : List ℕ → Bool
padded_int_sign [] = false
padded_int_sign (b ∷ r) = leb 128 b

unfoldable pub padded_int_magnitude : List ℕ → ℕ
padded_int_magnitude [] = 0
padded_int_magnitude (b ∷ r) = big_endian (b % 128 ∷ r)
