-- The table of powers of ten, and attoseconds cut to a number of digits. Assumes nothing.
use mathlib.Core.Path.{◌≡◌, sym, ap, subst, ◌∙◌}
use mathlib.Core.Bool.{Bool}
use mathlib.Core.List.{List}
use Prim.Native.Nat.{ℕ, ◌+◌, ◌-◌, ◌*◌, ◌/◌, ◌%◌, ◌^◌, ◌≤◌, ◌<◌, min}
use native.Mathlib.Nat.{one-le-pow, mul-mod_left, div-add-mod', div-lt_iff_lt-mul}
use native.Mathlib.Omega.{arith}
use lib.Dec.{T, eqb, eqb→eq, lit<}
use lib.ListN.{length, get_or}
use lib.Pow.{pow-add}
use Rattle.places.proofs.Table.{every, at}
use Rattle.ion.specs.Pair.Fraction.{scale, cut_to}

abbrev is_power : ℕ → ℕ → Bool
is_power k x = eqb x (10 ^ k)

-- the table's rule: one test, which antt computes over the whole table, gives every entry
pub entry : (xs : List ℕ) → T (every is_power 0 xs) → (k : ℕ) → k < length xs → get_or xs k 0 ≡ 10 ^ k
entry xs t k h = eqb→eq (get_or xs k 0) (10 ^ k) (at is_power xs t k h)

pub power_pos : (n : ℕ) → 0 < 10 ^ n
power_pos n = one-le-pow n 10 (lit< tt)

pub scale_pos : (d : ℕ) → 0 < scale d
scale_pos d = power_pos (18 - d)

-- digits kept and digits cut make up the second
pub whole : (d : ℕ) → 10 ^ min d 18 * scale d ≡ 10 ^ 18
whole d = let e : min d 18 + (18 - d) ≡ 18 = omega arith in sym (pow-add 10 (min d 18) (18 - d)) ∙ ap (λ (n : ℕ). 10 ^ n) e

pub cut_multiple : (d a : ℕ) → cut_to d a % scale d ≡ 0
cut_multiple d a = mul-mod_left (a / scale d) (scale d)

-- what is a multiple already stays
pub cut_same : (d a : ℕ) → a % scale d ≡ 0 → cut_to d a ≡ a
cut_same d a h = omega (arith, div-add-mod' a (scale d), h)

-- a fraction in units of the last of its digits has no more digits than those
pub units_lt : (d a : ℕ) → d ≤ 18 → a < 10 ^ 18 → a / scale d < 10 ^ d
units_lt d a h l =
    let e : min d 18 ≡ d = omega arith in
    (div-lt_iff_lt-mul (scale_pos d)).1 (subst (λ (n : ℕ). a < n) (sym (rw e at (whole d))) l)
