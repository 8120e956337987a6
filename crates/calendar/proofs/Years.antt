-- The number of 1 January in closed form: the leap years before a year are counted by quotients rounded up. Assumes nothing.
use mathlib.Core.Path.{◌≡◌, refl, sym, ap, ◌∙◌}
use mathlib.Core.Bool.{Bool, true, false, not, ◌&&◌, ◌||◌}
use Prim.Native.Nat.{ℕ, zero, suc, ◌+◌, ◌-◌, ◌*◌, ◌/◌, ◌%◌, ◌≤◌, ◌<◌, zero-le}
use native.Mathlib.Nat.{le_refl, add-div_right, div-add-mod', mod-lt, add-zero}
use native.Mathlib.Omega.{arith}
use lib.Arith.{digits_div}
use lib.Dec.{eqb, eqb-suc-zero, lit<}
use Rattle.ion.specs.Calendar.Dates.{is_leap, leap_day, sum_below, year_start}

-- one more to the quotient rounded up, where the divisor divides
ceil_step : (k y : ℕ) → 0 < k → (suc y + (k - 1)) / k ≡ (y + (k - 1)) / k + leap_day (eqb (y % k) 0)
ceil_step k y h = go (y % k) refl
  where
    q : ℕ
    q = y / k

    up : (suc y + (k - 1)) / k ≡ q + 1
    up = ap (λ (n : ℕ). n / k) (let e : suc y + (k - 1) ≡ y + k = omega arith in e) ∙ add-div_right y h

    go : (r : ℕ) → y % k ≡ r → (suc y + (k - 1)) / k ≡ (y + (k - 1)) / k + leap_day (eqb r 0)
    go zero e =
        let low : y + (k - 1) ≡ q * k + (k - 1) = omega (arith, div-add-mod' y k, e) in
        up ∙ ap (λ (n : ℕ). n + 1) (sym (ap (λ (n : ℕ). n / k) low ∙ digits_div q (let l : k - 1 < k = omega arith in l)))
    go (suc r) e =
        let low : y + (k - 1) ≡ (q + 1) * k + r = omega (arith, div-add-mod' y k, e) in
        let l : r < k = omega (arith, mod-lt y h, e) in
        rw (eqb-suc-zero r) (up ∙ sym (ap (λ (n : ℕ). n / k) low ∙ digits_div (q + 1) l) ∙ sym (add-zero _))

test_le : (a b : ℕ) → (a ≡ 0 → b ≡ 0) → leap_day (eqb a 0) ≤ leap_day (eqb b 0)
test_le zero b f = rw (f refl) (le_refl 1)
test_le (suc a) b f = rw (eqb-suc-zero a) zero-le

-- the leap years before year y
unfoldable pub leaps_before : ℕ → ℕ
leaps_before y = (y + 3) / 4 - (y + 99) / 100 + (y + 399) / 400

leap_count : (p q r : Bool) → leap_day r ≤ leap_day q → leap_day q ≤ leap_day p
    → leap_day ((p && not q) || r) + leap_day q ≡ leap_day p + leap_day r
leap_count true true true h k = refl
leap_count true true false h k = refl
leap_count true false true h k = omega arith
leap_count true false false h k = refl
leap_count false true r h k = omega arith
leap_count false false true h k = omega arith
leap_count false false false h k = refl

-- the quotients as unknowns: `omega` would go into each division
regroup : (A B C A' B' C' p q r d : ℕ) → A' ≡ A + p → B' ≡ B + q → C' ≡ C + r → q ≤ p → B ≤ A → d + q ≡ p + r
    → A' - B' + C' ≡ A - B + C + d
regroup A B C A' B' C' p q r d a b c k l e = omega arith

leap_step : (y : ℕ) → leaps_before (suc y) ≡ leaps_before y + leap_day (is_leap y)
unfolding leaps_before is_leap
leap_step y =
    let h : leap_day (eqb (y % 400) 0) ≤ leap_day (eqb (y % 100) 0) = test_le (y % 400) (y % 100) (omega arith) in
    let k : leap_day (eqb (y % 100) 0) ≤ leap_day (eqb (y % 4) 0) = test_le (y % 100) (y % 4) (omega arith) in
    regroup _ _ _ _ _ _ _ _ _ _ (ceil_step 4 y (lit< tt)) (ceil_step 100 y (lit< tt)) (ceil_step 400 y (lit< tt)) k (omega arith)
    (leap_count (eqb (y % 4) 0) (eqb (y % 100) 0) (eqb (y % 400) 0) h k)

-- the closed form is the sum
pub year_start_lem : (y : ℕ) → year_start y ≡ 365 * y + leaps_before y
unfolding sum_below leaps_before
year_start_lem zero = refl
year_start_lem (suc y) = omega (arith, year_start_lem y, leap_step y)

-- for the code
pub ruleset year_starts = (year_start_lem)
