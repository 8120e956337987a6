-- A second or more, which is kept as 10^18, and units of the last of a number of digits. Assumes nothing.
use mathlib.Core.Path.{◌≡◌, ap, subst, ◌∙◌}
use Prim.Native.Nat.{ℕ, ◌*◌, ◌%◌, ◌^◌, ◌≤◌, ◌<◌, min}
use native.Mathlib.Nat.{mul-le-mul_right, mul-lt-mul_of_pos_right}
use native.Mathlib.Decide.{dec_lt}
use native.Mathlib.Omega.{arith}
use Rattle.ion.specs.Pair.Fraction.{scale, capped}
use Rattle.fraction.proofs.Scales.{scale_pos, whole}

pub cap_low : (v : ℕ) → v < 10 ^ 18 → capped v ≡ v
unfolding capped
cap_low v h = omega arith

pub cap_high : (v : ℕ) → 10 ^ 18 ≤ v → capped v ≡ 10 ^ 18
unfolding capped
cap_high v h = omega arith

-- what is below a second is not changed, so it keeps what it is a multiple of
pub cap_multiple : (v k : ℕ) → v % k ≡ 0 → capped v < 10 ^ 18 → capped v % k ≡ 0
cap_multiple v k e h = go (dec_lt v (10 ^ 18))
  where
    go : Dec (v < 10 ^ 18) → capped v % k ≡ 0
    go (yes l) = ap (λ (n : ℕ). n % k) (cap_low v l) ∙ e
    go (no n) = let l : 10 ^ 18 ≤ v = omega arith in absurd (omega (arith, cap_high v l))

-- n units are a second or more where n is the power of the digits or more
pub scaled_high : (n d : ℕ) → 10 ^ min d 18 ≤ n → 10 ^ 18 ≤ n * scale d
scaled_high n d l = subst (λ (k : ℕ). k ≤ n * scale d) (whole d) (mul-le-mul_right (scale d) l)

pub scaled_low : (n d : ℕ) → n < 10 ^ min d 18 → n * scale d < 10 ^ 18
scaled_low n d l = subst (λ (k : ℕ). n * scale d < k) (whole d) (mul-lt-mul_of_pos_right l (scale_pos d))

-- for the code
pub ruleset scaled = (cap_high, cap_low, scaled_high, scaled_low)
