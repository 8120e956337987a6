-- The order of two numbers, and of two pairs of numbers. Assumes nothing.
use mathlib.Core.Path.{◌≡◌, refl, sym, ap, subst, ◌∙◌}
use mathlib.Core.Bool.{true, false≢true}
use Prim.Native.Nat.{ℕ, ◌+◌, ◌≤◌, ◌<◌}
use native.Mathlib.Nat.{le_of_lt}
use native.Mathlib.Decide.{dec_lt}
use native.Mathlib.Omega.{arith}
use lib.Dec.{eqb}
use borrow.Author.Tests.{lt-ltb, le-ltb, eq-eqb, ne_eqb, eqb-true}
use Rattle.std.specs.Ordering.{nat_cmp, ordering_then, ordering_reverse, is_eq, is_le}
use Rattle.std.specs.declared.cmp.Ordering.{Ordering}
use Rattle.std.specs.declared.cmp.Ordering.TheVariants.{Less, Equal, Greater}
use Rattle.ion.specs.Calls.Order.{order_of_pairs}

module _ (m n : ℕ) where
  pub order_less : m < n → nat_cmp m n ≡ Less
  order_less h = rw (lt-ltb m n h)

  pub order_more : n < m → nat_cmp m n ≡ Greater
  order_more h = let k : n ≤ m = omega arith in rw (le-ltb m n k, ne_eqb m n (λ e. omega arith))

  pub order_same : m ≡ n → nat_cmp m n ≡ Equal
  order_same h = let k : n ≤ m = omega arith in rw (le-ltb m n k, eq-eqb m n h)

  -- what holds of each order where the numbers lie so, holds of their order
  pub by_order : (P : Ordering → Type 0) → (m < n → P Less) → (m ≡ n → P Equal) → (n < m → P Greater) → P (nat_cmp m n)
  by_order P less same more = go (dec_lt m n) (dec_lt n m)
    where
      go : Dec (m < n) → Dec (n < m) → P (nat_cmp m n)
      go (yes h) l = subst P (sym (order_less h)) (less h)
      go (no h) (yes l) = subst P (sym (order_more l)) (more l)
      go (no h) (no l) = let e : m ≡ n = omega arith in subst P (sym (order_same e)) (same e)

-- two numbers lie as two others do
pub order_alike : (m n s t : ℕ) → (m < n → s < t) → (m ≡ n → s ≡ t) → (n < m → t < s) → nat_cmp m n ≡ nat_cmp s t
order_alike m n s t less same more =
    by_order m n (λ z. z ≡ nat_cmp s t)
    (λ h. sym (order_less s t (less h)))
    (λ e. sym (order_same s t (same e)))
    (λ h. sym (order_more s t (more h)))

-- both are as far from the others
pub order_shift : (m n s t : ℕ) → m + t ≡ n + s → nat_cmp m n ≡ nat_cmp s t
order_shift m n s t e = order_alike m n s t (λ h. omega arith) (λ h. omega arith) (λ h. omega arith)

-- ---- what the order says

module _ (m n : ℕ) where
  pub order_at_most : is_le (nat_cmp m n) ≡ true → m ≤ n
  order_at_most = by_order m n (λ z. is_le z ≡ true → m ≤ n) (λ h e. le_of_lt h) (λ h e. omega arith) (λ h e. absurd (false≢true e))

  pub at_most_order : m ≤ n → is_le (nat_cmp m n) ≡ true
  at_most_order l = by_order m n (λ z. is_le z ≡ true) (λ h. refl) (λ h. refl) (λ h. absurd (omega arith))

  pub order_zero : is_eq (nat_cmp m n) ≡ eqb m n
  order_zero =
      by_order m n (λ z. is_eq z ≡ eqb m n)
      (λ h. sym (ne_eqb m n (λ e. omega arith)))
      (λ h. sym (eq-eqb m n h))
      (λ h. sym (ne_eqb m n (λ e. omega arith)))

  pub order_equal : nat_cmp m n ≡ Equal → m ≡ n
  order_equal e = eqb-true m n (sym order_zero ∙ ap is_eq e)

  -- the other way round it is turned
  pub order_turned : nat_cmp n m ≡ ordering_reverse (nat_cmp m n)
  order_turned = by_order m n (λ z. nat_cmp n m ≡ ordering_reverse z) (order_more n m) (λ e. order_same n m (sym e)) (order_less n m)

-- ---- pairs

-- the first numbers decide where they differ, else the second
pub pairs_first : (m a n b : ℕ) → (m ≡ n → ⊥) → order_of_pairs m a n b ≡ nat_cmp m n
pairs_first m a n b h = by_order m n (λ z. ordering_then z (nat_cmp a b) ≡ z) (λ l. refl) (λ e. absurd (h e)) (λ l. refl)

pub pairs_second : (m a n b : ℕ) → m ≡ n → order_of_pairs m a n b ≡ nat_cmp a b
pairs_second m a n b e = rw (order_same m n e)

-- only the order of the first numbers counts
pub pairs_alike : (m n s t a b : ℕ) → nat_cmp m n ≡ nat_cmp s t → order_of_pairs m a n b ≡ order_of_pairs s a t b
pairs_alike m n s t a b e = ap (λ (z : Ordering). ordering_then z (nat_cmp a b)) e
