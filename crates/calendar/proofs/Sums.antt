-- Sums of lengths. Assumes nothing.
use mathlib.Core.Path.{◌≡◌}
use mathlib.Core.Logic.{◌⊎◌, inl, inr}
use Prim.Native.Nat.{ℕ, zero, suc, ◌+◌, ◌≤◌, ◌<◌}
use native.Mathlib.Nat.{eq-or-lt_of_le, le_of_suc-le-suc, not-suc-le-zero, le_refl}
use native.Mathlib.Numerals.{add-one}
use native.Mathlib.Omega.{arith}
use Rattle.ion.specs.Calendar.Dates.{sum_below}

pub sum_more : (f : ℕ → ℕ) (n : ℕ) → sum_below f (n + 1) ≡ sum_below f n + f n
unfolding sum_below
sum_more f n = rw add-one

-- what lies at a lies before b
pub sum_past : (f : ℕ → ℕ) (a b : ℕ) → a < b → sum_below f a + f a ≤ sum_below f b
unfolding sum_below
sum_past f a zero h = absurd (not-suc-le-zero h)
sum_past f a (suc b) h = go (sum_past f a b) (eq-or-lt_of_le (le_of_suc-le-suc h))
  where
    go : (a < b → sum_below f a + f a ≤ sum_below f b) → (a ≡ b) ⊎ (a < b) → sum_below f a + f a ≤ sum_below f b + f b
    go ih (inl e) = rw e (le_refl (sum_below f b + f b))
    go ih (inr l) = omega (arith, ih l)
