-- Numbers and fractions in their shortest form, step by step. Assumes nothing.
use mathlib.Core.Path.{◌≡◌, refl, sym, ap, ◌∙◌}
use mathlib.Core.Bool.{Bool, true, false, cond, ◌&&◌}
use mathlib.Core.List.{List, [], ◌∷◌}
use Prim.Native.Nat.{ℕ, ◌+◌, ◌≤◌, ◌<◌}
use native.Mathlib.Omega.{arith}
use borrow.Author.Tests.{lt-ltb}
use lib.Dec.{ltb}
use lib.ListN.{length, drop, get_or, length-drop, drop_of_length-le}
use lib.Seq.{drop-drop}
use mir.Syntax.{w8}
use mir.Val.{Fits}
use Rattle.std.specs.Prelude.{Option, None, Some, Result, Ok, Err, IfOk}
use Rattle.places.proofs.Below.{below_drop}
use Rattle.ion.specs.Numbers.VarUInt.{read_var_uint}
use Rattle.ion.specs.Numbers.VarInt.{read_var_int}
use Rattle.ion.specs.Numbers.Int.{read_int}
use Rattle.ion.specs.Value.Decode.{coefficient_from, fraction_from, decode_fraction}
use Rattle.ion.specs.declared.number.NumberError.{NumberError}
use Rattle.ion.specs.declared.number.SignedMagnitude.{SignedMagnitude}
use Rattle.binary.proofs.VarUInts.{read_varuint_is, read_within}
use Rattle.binary.proofs.VarInts.{read_signed_is, read_signed_within}

-- ---- a field and an offset: their bytes lie within s, and they are no larger than they may be

module _ (s : List ℕ) (fits : (i : ℕ) → Fits w8 (get_or s i 0)) where
  pub field_bounds : (n : ℕ) (r : Result (ℕ × ℕ) NumberError) → r ≡ read_var_uint 16383 (drop n s)
      → IfOk r (λ x. (x.0 ≤ 16383) × (n + x.1 ≤ length s))
  field_bounds n (Ok (m, j)) e =
      let low = read_varuint_is 16383 (drop n s) m j (below_drop 256 n s (λ i. (fits i).fits)) (sym e) in
      (low.0, omega (arith, read_within 16383 (drop n s) m j (sym e), length-drop n s))
  field_bounds n (Err c) e = tt

  pub minutes_bounds : (r : Result (SignedMagnitude × ℕ) NumberError) → r ≡ read_var_int 1439 s
      → IfOk r (λ x. (x.0.magnitude ≤ 1439) × (x.1 ≤ length s))
  minutes_bounds (Ok (x, j)) e =
      let low = read_signed_is 1439 s x.negative x.magnitude j (λ i. (fits i).fits) (sym e) in
      (low.0, (read_signed_within 1439 s x.negative x.magnitude j (sym e)).1)
  minutes_bounds (Err c) e = tt

-- ---- the fraction that the bytes of s from index at on are

-- where a byte is left, there is an exponent
pub fraction_next : (t : List ℕ) → 0 < length t → decode_fraction t ≡ fraction_from t (read_var_int 63 t)
unfolding decode_fraction
fraction_next [] h = absurd (omega arith)
fraction_next (b ∷ t) h = refl

module _ (s : List ℕ) (at : ℕ) where
  pub fraction_none : length s ≤ at → decode_fraction (drop at s) ≡ Some (0, 0)
  unfolding decode_fraction
  fraction_none h = rw (drop_of_length-le s h)

  fraction_at_lem : at < length s → decode_fraction (drop at s) ≡ fraction_from (drop at s) (read_var_int 63 (drop at s))
  fraction_at_lem h = fraction_next (drop at s) (omega (arith, length-drop at s))

  pub fraction_bad : (c : NumberError) → at < length s → read_var_int 63 (drop at s) ≡ Err c → decode_fraction (drop at s) ≡ None
  fraction_bad c h e = fraction_at_lem h ∙ ap (fraction_from (drop at s)) e

  -- after an exponent x of n bytes
  module _ (x : SignedMagnitude) (n : ℕ) (e : read_var_int 63 (drop at s) ≡ Ok (x, n)) where
    pub exponent_room : at + n ≤ length s
    exponent_room = omega (arith, read_signed_within 63 (drop at s) x.negative x.magnitude n e, length-drop at s)

    pub exponent_low : ((i : ℕ) → Fits w8 (get_or s i 0)) → x.magnitude ≤ 63
    exponent_low b = (read_signed_is 63 (drop at s) x.negative x.magnitude n (below_drop 256 at s (λ i. (b i).fits)) e).0

    exponent_lem : (t : Bool) → at < length s → (x.negative && ltb 0 x.magnitude) ≡ t
        → decode_fraction (drop at s) ≡ cond t (coefficient_from x.magnitude (read_int (drop (at + n) s))) None
    exponent_lem t h d = fraction_at_lem h ∙ ap (fraction_from (drop at s)) e ∙ rw (d, drop-drop n at s)

    -- with the coefficient o, or none
    pub fraction_some : at < length s → x.negative ≡ true → (x.magnitude ≡ 0 → ⊥) → (o : Option ℕ) → read_int (drop (at + n) s) ≡ o
        → decode_fraction (drop at s) ≡ coefficient_from x.magnitude o
    fraction_some h g z o w =
        exponent_lem true h (rw (g, lt-ltb 0 x.magnitude (omega arith))) ∙ ap (coefficient_from x.magnitude) w

    pub fraction_positive : at < length s → x.negative ≡ false → decode_fraction (drop at s) ≡ None
    fraction_positive h g = exponent_lem false h (rw g)

    pub fraction_zero : at < length s → x.negative ≡ true → x.magnitude ≡ 0 → decode_fraction (drop at s) ≡ None
    fraction_zero h g z = exponent_lem false h (rw (g, z))

-- ---- lists of laws, for the code

pub ruleset numbers = (field_bounds, minutes_bounds)

pub ruleset fractions = (fraction_none, fraction_bad, exponent_room, exponent_low, fraction_positive, fraction_zero)
