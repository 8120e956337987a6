-- The text of a known offset by its sign. Assumes nothing.
use mathlib.Core.Path.{◌≡◌, refl}
use mathlib.Core.Bool.{true, false, true≢false, false≢true}
use mathlib.Core.List.{◌∷◌}
use Prim.Native.Char.{code}
use Prim.Native.Nat.{zero, suc, ◌+◌}
use native.Mathlib.Omega.{arith}
use lib.IntN.{ℤ, pos, negsuc, nat_abs, ◌-ℤ◌}
use lib.Signed.{lt_z}
use borrow.Author.Differences.{lt-true, lt-false}
use Rattle.ion.specs.Text.Format.{clock_text, zero_text, minutes_text}

pub minutes_below : (z : ℤ) → lt_z z (pos 0) ≡ true → minutes_text z ≡ code "-" ∷ clock_text (nat_abs (pos 0 -ℤ z))
unfolding minutes_text
minutes_below (pos n) h = absurd (omega (arith, lt-true (pos n) (pos 0) h))
minutes_below (negsuc n) h = let e : 0 + suc n ≡ suc n = omega arith in rw e

pub minutes_above : (z : ℤ) → lt_z (pos 0) z ≡ true → minutes_text z ≡ code "+" ∷ clock_text (nat_abs z)
unfolding minutes_text
minutes_above (pos zero) h = absurd (omega (arith, lt-true (pos 0) (pos 0) h))
minutes_above (pos (suc n)) h = refl
minutes_above (negsuc n) h = absurd (false≢true h)

pub minutes_none : (z : ℤ) → lt_z z (pos 0) ≡ false → lt_z (pos 0) z ≡ false → minutes_text z ≡ zero_text
unfolding minutes_text
minutes_none (pos zero) h k = refl
minutes_none (pos (suc n)) h k = absurd (omega (arith, lt-false (pos 0) (pos (suc n)) k))
minutes_none (negsuc n) h k = absurd (true≢false h)

-- for the code
pub ruleset signs = (minutes_below, minutes_above, minutes_none)
