-- A fraction as the code reads it: its units are those of the exponent as far as 64 bits hold it, and of the coefficient where they do.
-- Assumes nothing.
use mathlib.Core.Path.{◌≡◌, refl, sym, ap, ◌∙◌}
use mathlib.Core.Bool.{Bool, true, false, not, cond, ◌&&◌, and-false}
use mathlib.Core.List.{List}
use Prim.Native.Nat.{ℕ, zero, suc, ◌+◌, ◌-◌, ◌^◌, ◌≤◌, ◌<◌, min}
use native.Mathlib.Decide.{dec_le}
use native.Mathlib.Omega.{arith}
use borrow.Author.Tests.{lt-leb, ltb-false, le-ltb, ne_eqb}
use lib.Dec.{eqb, leb, ltb}
use lib.ListN.{length, take, drop, drop_of_length-le}
use lib.Seq.{drop-cons, drop-drop}
use Rattle.std.specs.Prelude.{Option, None, Some, option_and_then, Result, Ok, Err}
use Rattle.places.proofs.Slices.{rest_slice}
use Rattle.ion.specs.Numbers.VarInt.{signed_magnitude}
use Rattle.ion.specs.Numbers.PaddedNumbers.{unlimited, read_padded_var_int, padded_int_sign, padded_int_magnitude}
use Rattle.ion.specs.Pair.Fraction.{digits_of}
use Rattle.ion.specs.Value.ReadPaddedValue.{exponent_of, decimal_from, decode_padded_fraction}
use Rattle.ion.specs.declared.number.NumberError.{NumberError}
use Rattle.ion.specs.declared.number.SignedMagnitude.{SignedMagnitude}
use Rattle.binary.proofs.Groups.{ok_pair}
use Rattle.padded_reader.specs.Numbers.{saturated, padded_int}
use Rattle.padded_reader.specs.Fractions.{decimal_of, units_of, coefficient_units, padded_fraction}

-- ---- the units of numbers that 64 bits do not hold

abbrev most : ℕ
most = 2 ^ 64 - 1

digits_negative : (m : ℕ) → digits_of (exponent_of true m) ≡ m
digits_negative zero = refl
digits_negative (suc m) = refl

digits_capped : (g : Bool) (m : ℕ) → digits_of (exponent_of g (min m most)) ≡ min (digits_of (exponent_of g m)) most
digits_capped false m = omega arith
digits_capped true m = digits_negative (min m most) ∙ ap (λ (d : ℕ). min d most) (sym (digits_negative m))

units_capped : (d c : ℕ) → units_of (min d most) c ≡ units_of d c
units_capped d c = go (dec_le d most)
  where
    go : Dec (d ≤ most) → units_of (min d most) c ≡ units_of d c
    go (yes h) = let e : min d most ≡ d = omega arith in rw e
    go (no h) =
        let e : min d most ≡ most = omega arith in
        rw (e, ne_eqb d 0 (λ z. omega arith), lt-leb d 18 (omega arith))

none_either : {A : Type 0} (t : Bool) → cond {A = Option A} t None None ≡ None
none_either true = refl
none_either false = refl

units_large : (d c : ℕ) → 2 ^ 64 ≤ c → units_of d c ≡ None
units_large d c h = rw (ne_eqb c 0 (λ z. omega arith), le-ltb c (2 ^ 64) h, and-false (leb d 18)) (none_either (eqb d 0))

-- the units of an exponent with a coefficient that may be missing
abbrev units_with : SignedMagnitude → Option SignedMagnitude → Option (ℕ × ℕ)
units_with x = option_and_then (λ (q : SignedMagnitude). coefficient_units (decimal_of x q))

units_read : (g h : Bool) (m c : ℕ)
    → coefficient_units (decimal_of (signed_magnitude g m) (signed_magnitude h c))
    ≡ units_with (signed_magnitude g (min m most)) (cond (ltb c (2 ^ 64)) (Some (signed_magnitude h c)) None)
units_read g h m c = go (ltb c (2 ^ 64)) refl
  where
    below : Bool
    below = h && not (eqb c 0)

    d : ℕ
    d = digits_of (exponent_of g m)

    go : (t : Bool) → ltb c (2 ^ 64) ≡ t
        → cond below None (units_of d c) ≡ units_with (signed_magnitude g (min m most)) (cond t (Some (signed_magnitude h c)) None)
    go true e = ap (cond below None) (sym (ap (λ (x : ℕ). units_of x c) (digits_capped g m) ∙ units_capped d c))
    go false e = ap (cond below None) (units_large d c (ltb-false c (2 ^ 64) e)) ∙ none_either below

-- ---- the bytes from index at on

module _ (s : List ℕ) (at : ℕ) where
  pub fraction_none : length s ≤ at → padded_fraction (drop at s) ≡ Some (0, 0)
  unfolding padded_fraction decode_padded_fraction padded_int_sign padded_int_magnitude
  fraction_none h = rw (drop_of_length-le s h)

  opened : at < length s → decode_padded_fraction (drop at s) ≡ decimal_from (drop at s) (read_padded_var_int unlimited (drop at s))
  unfolding decode_padded_fraction
  opened h = rw (drop-cons s at 0 h)

  pub fraction_err : (e : NumberError) → at < length s → Err e ≡ saturated (read_padded_var_int unlimited (drop at s))
      → padded_fraction (drop at s) ≡ None
  unfolding padded_fraction
  fraction_err e h f = ap (option_and_then coefficient_units) (opened h) ∙ go (read_padded_var_int unlimited (drop at s)) f
    where
      go : (x : Result (SignedMagnitude × ℕ) NumberError) → Err e ≡ saturated x
          → option_and_then coefficient_units (decimal_from (drop at s) x) ≡ None
      go (Ok x) f = absurd (cc)
      go (Err x) f = refl

  -- x the exponent, of n bytes
  module _ (x : SignedMagnitude) (n : ℕ) (h : at < length s) (f : Ok (x, n) ≡ saturated (read_padded_var_int unlimited (drop at s))) where
    fraction_some : padded_fraction (drop at s) ≡ units_with x (padded_int (drop (at + n) s))
    unfolding padded_fraction padded_int
    fraction_some = ap (option_and_then coefficient_units) (opened h) ∙ go (read_padded_var_int unlimited (drop at s)) f
      where
        go : (y : Result (SignedMagnitude × ℕ) NumberError) → Ok (x, n) ≡ saturated y
            → option_and_then coefficient_units (decimal_from (drop at s) y) ≡ units_with x (padded_int (drop (at + n) s))
        go (Ok y) f =
            let p = ok_pair f in
            let t = drop (at + n) s in
            let e : drop y.1 (drop at s) ≡ t = drop-drop y.1 at s ∙ ap (λ (k : ℕ). drop (at + k) s) (sym p.1) in
            rw (p.0, e) (units_read y.0.negative (padded_int_sign t) y.0.magnitude (padded_int_magnitude t))
        go (Err e) f = absurd (cc)

    -- q what the reader of the bytes after it answers
    coefficient_read : (q : Option SignedMagnitude) → q ≡ padded_int (take (length s - (at + n)) (drop (at + n) s))
        → padded_fraction (drop at s) ≡ units_with x q
    coefficient_read q g = fraction_some ∙ ap (units_with x) (sym (g ∙ ap padded_int (rest_slice s (at + n))))

    pub coefficient_none : None ≡ padded_int (take (length s - (at + n)) (drop (at + n) s)) → padded_fraction (drop at s) ≡ None
    coefficient_none g = coefficient_read None g

    pub coefficient_some : (c : SignedMagnitude) → Some c ≡ padded_int (take (length s - (at + n)) (drop (at + n) s))
        → padded_fraction (drop at s) ≡ coefficient_units (decimal_of x c)
    coefficient_some c g = coefficient_read (Some c) g

pub ruleset reading = (fraction_none, fraction_err, coefficient_none, coefficient_some)
