-- A decimal of Ion binary that is not below zero: the exponent as a VarInt, then the coefficient as an Int. Assumes nothing.
use Rattle.std.specs.Prelude.{ℕ, cond, ◌&&◌, List, [], ◌++◌, eqb, ℤ, nat_abs}
use Rattle.ion.specs.Numbers.VarInt.{varint}
use Rattle.ion.specs.Numbers.Int.{int}

-- zero with exponent 0 is no bytes
unfoldable pub decimal_bytes : ℕ → ℤ → List ℕ
decimal_bytes c e = cond (eqb c 0 && eqb (nat_abs e) 0) [] (varint e ++ int c)
