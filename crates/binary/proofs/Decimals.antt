-- The bytes of a decimal: those of its exponent and of its coefficient, none for zero with exponent 0. Assumes nothing.
use mathlib.Core.Path.{◌≡◌, sym, ap, ◌∙◌}
use mathlib.Core.Bool.{true, false, ◌&&◌, and-false}
use mathlib.Core.List.{List, [], ◌++◌}
use Prim.Native.Nat.{ℕ, suc, ◌+◌}
use native.Mathlib.Omega.{arith}
use borrow.Author.Tests.{ne_eqb}
use lib.Dec.{eqb}
use lib.IntN.{ℤ, negsuc, nat_abs}
use lib.ListN.{length, length-append}
use Rattle.ion.specs.Numbers.VarInt.{is_negative, signed_count, varint}
use Rattle.ion.specs.Numbers.Int.{int_count, int}
use Rattle.ion.specs.Numbers.Decimal.{decimal_bytes}
use mir.Facts.{to_z-of_z}
use Rattle.std.proofs.lemmas.List.{nil_from_length}
use Rattle.binary.proofs.VarInts.{length_signed, signed_u64}
use Rattle.binary.proofs.Ints.{length_int, int_most}

-- ---- the two cases

module _ (c : ℕ) (e : ℤ) where
  pub decimal_none : (eqb c 0 && eqb (nat_abs e) 0) ≡ true → decimal_bytes c e ≡ []
  unfolding decimal_bytes
  decimal_none h = rw h

  pub decimal_some : (eqb c 0 && eqb (nat_abs e) 0) ≡ false → decimal_bytes c e ≡ varint e ++ int c
  unfolding decimal_bytes
  decimal_some h = rw h

  pub length_none : (eqb c 0 && eqb (nat_abs e) 0) ≡ true → length (decimal_bytes c e) ≡ 0
  length_none h = ap length (decimal_none h)

  pub length_some : (eqb c 0 && eqb (nat_abs e) 0) ≡ false → length (decimal_bytes c e) ≡ signed_count (nat_abs e) + int_count c
  unfolding varint
  length_some h =
      ap length (decimal_some h)
      ∙ omega (arith, length-append (varint e) (int c), length_signed (is_negative e) (nat_abs e), length_int c)

-- no room is left as it is
pub decimal_empty : (c : ℕ) (e : ℤ) (d : List ℕ) → length d ≡ length (decimal_bytes c e) → (eqb c 0 && eqb (nat_abs e) 0) ≡ true
    → d ≡ decimal_bytes c e
decimal_empty c e d l h = nil_from_length d (l ∙ length_none c e h) ∙ sym (decimal_none c e h)

pub ruleset decimals = (decimal_empty, decimal_some, length_none, length_some, length_signed, length_int, signed_u64, int_most, to_z-of_z)

-- a fraction, whose exponent is below 0, always has both parts
pub decimal_fraction : (c d : ℕ) → decimal_bytes c (negsuc d) ≡ varint (negsuc d) ++ int c
decimal_fraction c d = decimal_some c (negsuc d) (rw (ne_eqb (suc d) 0 (λ e. omega arith)) (and-false (eqb c 0)))
