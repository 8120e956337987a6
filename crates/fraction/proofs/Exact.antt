-- A decimal's attoseconds are the fraction times 10^18, whatever its exponent, without what is past the eighteenth digit. Assumes nothing.
use mathlib.Core.Path.{◌≡◌, sym, ap, ◌∙◌}
use Prim.Native.Nat.{ℕ, suc, ◌*◌, ◌/◌, ◌^◌, ◌≤◌, ◌<◌, min}
use native.Mathlib.Nat.{mul_assoc, mul_comm, zero-mul, mul-le-mul, mul-lt-mul_of_pos_right, lt_trans}
use native.Mathlib.Decide.{dec_le, ℕ_discrete}
use native.Mathlib.Omega.{arith}
use lib.Dec.{lit<}
use lib.IntN.{ℤ, pos, negsuc}
use Rattle.ion.specs.Pair.Fraction.{scale, capped, digits_of, attoseconds_of}
use Rattle.fraction.proofs.Scales.{power_pos, whole}
use Rattle.fraction.proofs.Capped.{cap_high}
use Rattle.fraction.proofs.Quotients.{up_to_lem, none_left}

-- a 64-bit coefficient has fewer attoseconds than 10^38
small : (c : ℕ) → c < 2 ^ 64 → c * 10 ^ 18 < 10 ^ 38
small c h = lt_trans (mul-lt-mul_of_pos_right {k = 10 ^ 18} h (power_pos 18)) (lit< tt)

-- so that the definition may stop dividing there
pub attoseconds_exact : (c digits : ℕ) → c < 2 ^ 64 → attoseconds_of c digits ≡ c * 10 ^ 18 / 10 ^ digits
attoseconds_exact c digits h = go (dec_le digits 38)
  where
    go : Dec (digits ≤ 38) → attoseconds_of c digits ≡ c * 10 ^ 18 / 10 ^ digits
    go (yes l) = let e : min digits 38 ≡ digits = omega arith in ap (λ (k : ℕ). c * 10 ^ 18 / 10 ^ k) e
    go (no n) =
        let a = c * 10 ^ 18 in
        none_left a 38 (min digits 38) (small c h) (omega arith) ∙ sym (none_left a 38 digits (small c h) (omega arith))

-- up to eighteen digits nothing is dropped
pub none_dropped : (c digits : ℕ) → digits ≤ 18 → attoseconds_of c digits * 10 ^ digits ≡ c * 10 ^ 18
none_dropped c digits h =
    let e : min digits 18 ≡ digits = omega arith in
    let w : 10 ^ digits * scale digits ≡ 10 ^ 18 = rw e at (whole digits) in
    ap (λ (a : ℕ). a * 10 ^ digits) (sym (up_to_lem c digits h))
    ∙ mul_assoc c (scale digits) (10 ^ digits)
    ∙ ap (λ (k : ℕ). c * k) (mul_comm (scale digits) (10 ^ digits) ∙ w)

-- a coefficient times a power of ten, in attoseconds, rounded down
unfoldable pub times_power : ℕ → ℤ → ℕ
times_power c (pos n) = c * (10 ^ n * 10 ^ 18)
times_power c (negsuc n) = c * 10 ^ 18 / 10 ^ suc n

-- an exponent above 0 changes only how much a second or more is
pub decimal_exact : (c : ℕ) (exponent : ℤ) → c < 2 ^ 64 → capped (attoseconds_of c (digits_of exponent)) ≡ capped (times_power c exponent)
unfolding times_power
decimal_exact c (negsuc n) h = ap capped (attoseconds_exact c (suc n) h)
decimal_exact c (pos n) h = go (ℕ_discrete c 0)
  where
    go : Dec (c ≡ 0) → capped (attoseconds_of c 0) ≡ capped (c * (10 ^ n * 10 ^ 18))
    go (yes e) = rw e (ap capped (sym (zero-mul (10 ^ n * 10 ^ 18))))
    go (no k) =
        let p : 10 ^ 18 ≤ 10 ^ n * 10 ^ 18 = omega (arith, power_pos n) in
        let one : 1 ≤ c = omega arith in
        let q : 1 * 10 ^ 18 ≤ c * (10 ^ n * 10 ^ 18) = mul-le-mul one p in
        cap_high (attoseconds_of c 0) (omega (arith, none_dropped c 0 (omega arith)))
        ∙ sym (cap_high (c * (10 ^ n * 10 ^ 18)) (omega arith))
