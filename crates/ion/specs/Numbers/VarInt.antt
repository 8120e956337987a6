-- VarInt of Ion binary: the groups of a magnitude, as a VarUInt has them, with the sign in bit 40 hexadecimal of the first byte,
-- which so holds six bits of the magnitude. Assumes nothing.
use Rattle.std.specs.Prelude.{ℕ, ◌+◌, ◌*◌, ◌/◌, ◌%◌, Bool, true, false, cond, List, [], ◌∷◌, eqb, leb, ℤ, pos, negsuc, nat_abs, Result, Ok, Err}
use Rattle.ion.specs.Numbers.VarUInt.{groups, group_count, scan_from}
use Rattle.ion.specs.declared.number.NumberError.{NumberError}
use Rattle.ion.specs.declared.number.NumberError.TheVariants.{Cut, Bad}
use Rattle.ion.specs.declared.number.SignedMagnitude.{SignedMagnitude}

abbrev pub is_negative : ℤ → Bool
is_negative (pos n) = false
is_negative (negsuc n) = true

-- as few groups as hold m and one bit in front of it
unfoldable pub signed_count : ℕ → ℕ
signed_count m = group_count (2 * m)

-- the sign in the first byte
abbrev pub sign_first : Bool → List ℕ → List ℕ
sign_first false s = s
sign_first true [] = []
sign_first true (b ∷ r) = (b + 64) ∷ r

-- the bytes of a sign and a magnitude; negative zero is `signed true 0`
unfoldable pub signed : Bool → ℕ → List ℕ
signed g m = sign_first g (groups (signed_count m) m)

unfoldable pub varint : ℤ → List ℕ
varint z = signed (is_negative z) (nat_abs z)

abbrev pub signed_magnitude : Bool → ℕ → SignedMagnitude
signed_magnitude g m = record { negative = g; magnitude = m }

-- a magnitude of n bytes, where that is how many it has in its shortest form
abbrev pub if_shortest : Bool → Result (ℕ × ℕ) NumberError → Result (SignedMagnitude × ℕ) NumberError
if_shortest g (Ok x) = cond (eqb (signed_count x.0) x.1) (Ok (signed_magnitude g x.0, x.1)) (Err Bad)
if_shortest g (Err e) = Err e

-- a first byte without its sign
abbrev pub unsign : ℕ → ℕ
unsign b = b / 128 * 128 + b % 64

-- the VarInt of a magnitude up to l, in its shortest form, with which the bytes begin
unfoldable pub read_var_int : ℕ → List ℕ → Result (SignedMagnitude × ℕ) NumberError
read_var_int l [] = Err Cut
read_var_int l (b ∷ r) = if_shortest (leb 64 (b % 128)) (scan_from l (signed_count l) 0 0 (unsign b ∷ r))
