-- A coefficient times 10^18, divided by a power of ten. Assumes nothing.
use mathlib.Core.Path.{◌≡◌, sym, ap, ◌∙◌}
use Prim.Native.Nat.{ℕ, ◌+◌, ◌-◌, ◌*◌, ◌/◌, ◌^◌, ◌≤◌, ◌<◌, min}
use native.Mathlib.Nat.{mul_assoc, mul-div_cancel, mul-div-mul_right, div-eq_of_lt, div-div-eq-div-mul, pow-le-pow_right, lt_trans}
use native.Mathlib.Nat.{lt_of_lt_of_le}
use native.Mathlib.Decide.{dec_le}
use native.Mathlib.Omega.{arith}
use lib.Dec.{lit<}
use lib.Pow.{pow-add}
use Rattle.ion.specs.Pair.Fraction.{scale, attoseconds_of}
use Rattle.fraction.proofs.Scales.{power_pos}

-- up to eighteen digits it is multiplied instead
pub up_to_lem : (n d : ℕ) → d ≤ 18 → n * scale d ≡ attoseconds_of n d
up_to_lem n d h =
    let e : 18 - d + min d 38 ≡ 18 = omega arith in
    let w : scale d * 10 ^ min d 38 ≡ 10 ^ 18 = sym (pow-add 10 (18 - d) (min d 38)) ∙ ap (λ (k : ℕ). 10 ^ k) e in
    sym (rw (← w, ← mul_assoc) (mul-div_cancel (n * scale d) (power_pos (min d 38))))

-- past them it loses digits
pub past : (n d : ℕ) → 18 < d → n / 10 ^ min (d - 18) 20 ≡ attoseconds_of n d
past n d h =
    let e : min d 38 ≡ min (d - 18) 20 + 18 = omega arith in
    sym (rw (e, pow-add 10 (min (d - 18) 20) 18) (mul-div-mul_right n (10 ^ min (d - 18) 20) (power_pos 18)))

-- a number of m digits loses them all with m or more
pub none_left : (n m k : ℕ) → n < 10 ^ m → m ≤ k → n / 10 ^ k ≡ 0
none_left n m k h l = div-eq_of_lt (lt_of_lt_of_le h (pow-le-pow_right {n = 10} (lit< tt) l))

-- and with more than eighteen it is divided twice
pub twice : (n d : ℕ) → n < 2 ^ 64 → 18 < d → n / 10 ^ 18 / 10 ^ min (d - 18) 18 ≡ n / 10 ^ min d 20
twice n d h l =
    div-div-eq-div-mul n (10 ^ 18) (10 ^ min (d - 18) 18) ∙ ap (λ (m : ℕ). n / m) (sym (pow-add 10 18 (min (d - 18) 18))) ∙ go (dec_le d 20)
  where
    go : Dec (d ≤ 20) → n / 10 ^ (18 + min (d - 18) 18) ≡ n / 10 ^ min d 20
    go (yes k) = let e : 18 + min (d - 18) 18 ≡ min d 20 = omega arith in ap (λ (m : ℕ). n / 10 ^ m) e
    go (no k) =
        let twenty : n < 10 ^ 20 = lt_trans h (lit< tt) in
        none_left n 20 (18 + min (d - 18) 18) twenty (omega arith) ∙ sym (none_left n 20 (min d 20) twenty (omega arith))

-- for the code
pub ruleset quotients = (power_pos, twice)

pub ruleset decimals = (up_to_lem, past)
