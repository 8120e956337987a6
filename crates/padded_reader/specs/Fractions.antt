-- The fraction of a body as a number of digits and a coefficient. Assumes nothing.
use Rattle.std.specs.Prelude.{ℕ, ◌^◌, cond, ◌&&◌, List, eqb, leb, ltb, Option, None, Some, option_and_then}
use Rattle.ion.specs.Pair.Fraction.{digits_of, below_zero}
use Rattle.ion.specs.Value.ReadPaddedValue.{exponent_of, decode_padded_fraction}
use Rattle.ion.specs.declared.Decimal.{Decimal}
use Rattle.ion.specs.declared.number.SignedMagnitude.{SignedMagnitude}

-- the decimal of an exponent and a coefficient
abbrev pub decimal_of : SignedMagnitude → SignedMagnitude → Decimal
decimal_of e c = record { negative = c.negative; coefficient = c.magnitude; exponent = exponent_of e.negative e.magnitude }

-- a number of digits and a coefficient: up to 18 digits and 64 bits, and without digits only zero
abbrev pub units_of : ℕ → ℕ → Option (ℕ × ℕ)
units_of d c = cond (eqb d 0) (cond (eqb c 0) (Some (0, 0)) None) (cond (leb d 18 && ltb c (2 ^ 64)) (Some (d, c)) None)

-- those of a decimal that is not below zero
abbrev pub coefficient_units : Decimal → Option (ℕ × ℕ)
coefficient_units q = cond (below_zero q) None (units_of (digits_of q.exponent) q.coefficient)

-- those of the decimal that all bytes are
unfoldable pub padded_fraction : List ℕ → Option (ℕ × ℕ)
padded_fraction s = option_and_then coefficient_units (decode_padded_fraction s)
