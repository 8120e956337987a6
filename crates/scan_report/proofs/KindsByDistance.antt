-- What a scan is beside the last kept one, by the distance of their counts. Assumes nothing.
use Rattle.std.proofs.Common.{◌≡◌, sym, ap, ◌∙◌, ℕ, ◌+◌, ◌*◌, ◌/◌, ◌%◌, ◌^◌, ◌≤◌, ◌<◌, cond, ◌&&◌, ◌||◌, eqb, ltb, arith}
use native.Mathlib.Decide.{dec_lt}
use Rattle.std.proofs.lemmas.Int.{ints}
use borrow.Author.Tests.{lt-ltb, le-ltb, eq-eqb, ne_eqb}
use Rattle.std.specs.Ordering.{nat_cmp, is_lt}
use Rattle.ion.specs.Calls.Order.{size_of_difference, distance_of_counts}
use Rattle.ion.specs.declared.Distance.{Distance}
use Rattle.order.proofs.Orders.{by_order}
use Rattle.std.proofs.lemmas.Bool.Decides.{nat_tests}
use Rattle.scan_report.specs.Longer.{is_longer}
use Rattle.scans.specs.Tally.{seconds, kind_beside}
use Rattle.scans.specs.declared.Kind.{Kind}
use Rattle.scans.specs.declared.Kind.TheVariants.{Double, Kept, Gap, Backward}

-- by the distance from the last kept one
abbrev pub kind_at : ℕ → ℕ → Distance → Kind
kind_at w g d =
    cond (ltb d.seconds w) Double
    (cond (is_lt d.order) Backward
    (cond (is_longer g d) Gap Kept))

earlier : (n m : ℕ) → is_lt (nat_cmp n m) ≡ ltb n m
earlier n m =
    by_order n m (λ o. is_lt o ≡ ltb n m) (λ h. sym (lt-ltb n m h)) (λ e. sym (le-ltb n m (omega arith)))
    (λ h. sym (le-ltb n m (omega arith)))

-- less than w seconds
less : (n w : ℕ) → ltb n (w * 10 ^ 18) ≡ ltb (n / 10 ^ 18) w
less n w = go (dec_lt n (w * 10 ^ 18))
  where
    go : Dec (n < w * 10 ^ 18) → ltb n (w * 10 ^ 18) ≡ ltb (n / 10 ^ 18) w
    go (yes h) = lt-ltb n (w * 10 ^ 18) h ∙ sym (lt-ltb (n / 10 ^ 18) w (omega arith))
    go (no h) = le-ltb n (w * 10 ^ 18) (omega arith) ∙ sym (le-ltb (n / 10 ^ 18) w (omega arith))

-- more than g seconds
more : (n g : ℕ) → ltb (g * 10 ^ 18) n ≡ (ltb g (n / 10 ^ 18) || (eqb (n / 10 ^ 18) g && ltb 0 (n % 10 ^ 18)))
more n g = go (dec_lt g (n / 10 ^ 18)) (dec_lt (g * 10 ^ 18) n) (dec_lt (n / 10 ^ 18) g)
  where
    go : Dec (g < n / 10 ^ 18) → Dec (g * 10 ^ 18 < n) → Dec (n / 10 ^ 18 < g)
        → ltb (g * 10 ^ 18) n ≡ (ltb g (n / 10 ^ 18) || (eqb (n / 10 ^ 18) g && ltb 0 (n % 10 ^ 18)))
    go (yes h) d e = lt-ltb (g * 10 ^ 18) n (omega arith) ∙ rw (lt-ltb g (n / 10 ^ 18) h)
    go (no h) (yes k) e =
        rw (le-ltb g (n / 10 ^ 18) (omega arith), eq-eqb (n / 10 ^ 18) g (omega arith), lt-ltb 0 (n % 10 ^ 18) (omega arith))
        (lt-ltb (g * 10 ^ 18) n k)
    go (no h) (no k) (yes l) =
        rw (le-ltb g (n / 10 ^ 18) (omega arith), ne_eqb (n / 10 ^ 18) g (λ e. omega arith)) (le-ltb (g * 10 ^ 18) n (omega arith))
    go (no h) (no k) (no l) =
        rw (le-ltb g (n / 10 ^ 18) (omega arith), eq-eqb (n / 10 ^ 18) g (omega arith), le-ltb 0 (n % 10 ^ 18) (omega arith))
        (le-ltb (g * 10 ^ 18) n (omega arith))

-- counted from the last kept one
after_last : (m n g : ℕ) → m ≤ n → ltb (m + g * 10 ^ 18) n ≡ ltb (g * 10 ^ 18) (size_of_difference n m)
after_last m n g h = go (dec_lt (m + g * 10 ^ 18) n)
  where
    go : Dec (m + g * 10 ^ 18 < n) → ltb (m + g * 10 ^ 18) n ≡ ltb (g * 10 ^ 18) (size_of_difference n m)
    go (yes l) = lt-ltb (m + g * 10 ^ 18) n l ∙ sym (lt-ltb (g * 10 ^ 18) (size_of_difference n m) (omega (arith, ints)))
    go (no l) = le-ltb (m + g * 10 ^ 18) n (omega arith) ∙ sym (le-ltb (g * 10 ^ 18) (size_of_difference n m) (omega (arith, ints)))

pub kind_by_distance : (w g m n : ℕ) → kind_beside w g m n ≡ kind_at w g (distance_of_counts n m)
unfolding kind_beside
kind_by_distance w g m n = rw (earlier n m) (go (dec_lt n m))
  where
    z : ℕ
    z = size_of_difference n m

    go : Dec (n < m)
        → cond (ltb z (seconds w)) Double (cond (ltb n m) Backward (cond (ltb (m + seconds g) n) Gap Kept))
        ≡ cond (ltb (z / 10 ^ 18) w) Double
        (cond (ltb n m) Backward (cond (ltb g (z / 10 ^ 18) || (eqb (z / 10 ^ 18) g && ltb 0 (z % 10 ^ 18))) Gap Kept))
    go (yes h) = rw (lt-ltb n m h, less (size_of_difference n m) w)
    go (no h) =
        rw (le-ltb n m (omega arith), less (size_of_difference n m) w, after_last m n g (omega arith), more (size_of_difference n m) g)

-- for the code
pub kind_is : (w g m n : ℕ) {d : Distance} → d ≡ distance_of_counts n m → kind_beside w g m n ≡ kind_at w g d
kind_is w g m n e = kind_by_distance w g m n ∙ ap (kind_at w g) (sym e)

pub ruleset kinds = (kind_is, nat_tests)
