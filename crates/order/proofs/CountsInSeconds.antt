-- Orders and differences of counts, each of whole seconds and the attoseconds after them, K attoseconds a second. Assumes nothing.
use mathlib.Core.Path.{◌≡◌, sym, ap, ap₂, ◌∙◌}
use Prim.Native.Nat.{ℕ, suc, ◌+◌, ◌-◌, ◌*◌, ◌≤◌, ◌<◌}
use native.Mathlib.Nat.{lt_of_lt_of_le, mul-le-mul_right, suc-mul, add-mul}
use native.Mathlib.Decide.{ℕ_discrete}
use native.Mathlib.Omega.{arith}
use lib.IntN.{pos, ◌-ℤ◌}
use Rattle.integers.proofs.Parts.{apart, sub_parts, nat_abs_parts}
use Rattle.std.specs.Ordering.{nat_cmp}
use Rattle.ion.specs.Calls.Order.{size_of_difference, order_of_pairs, distant, distance_of_counts}
use Rattle.order.proofs.Orders.{order_alike, order_shift, pairs_first, pairs_second, pairs_alike}

-- the size in natural numbers: of the two subtractions, cut off at 0, one is 0
size_cut : (m n : ℕ) → size_of_difference m n ≡ (m - n) + (n - m)
size_cut m n = let z = pos m -ℤ pos n in omega (arith, sub_parts (pos m) (pos n), nat_abs_parts z, apart z)

pub size_shift : (m n s t : ℕ) → m + t ≡ n + s → size_of_difference m n ≡ size_of_difference s t
size_shift m n s t e = omega (arith, size_cut m n, size_cut s t)

pub size_sym : (m n : ℕ) → size_of_difference m n ≡ size_of_difference n m
size_sym m n = omega (arith, size_cut m n, size_cut n m)

module _ (K : ℕ) where
  earlier : (s t a b : ℕ) → a < K → s < t → s * K + a < t * K + b
  earlier s t a b ha h = let l : suc s * K ≤ t * K = mul-le-mul_right K h in let e : suc s * K ≡ s * K + K = suc-mul s K in omega arith

  -- seconds that are as far from others make counts that are
  pub shift_counts : (m n s t a b : ℕ) → m + t ≡ n + s → (m * K + a) + (t * K + b) ≡ (n * K + b) + (s * K + a)
  shift_counts m n s t a b e =
      let l : m * K + t * K ≡ n * K + s * K = sym (add-mul m t K) ∙ ap (λ (x : ℕ). x * K) e ∙ add-mul n s K in
      omega arith

  module _ (s t a b : ℕ) (ha : a < K) (hb : b < K) where
    pub pairs_count : order_of_pairs s a t b ≡ nat_cmp (s * K + a) (t * K + b)
    pairs_count = go (ℕ_discrete s t)
      where
        go : Dec (s ≡ t) → order_of_pairs s a t b ≡ nat_cmp (s * K + a) (t * K + b)
        go (yes e) =
            let k : s * K ≡ t * K = ap (λ (x : ℕ). x * K) e in
            pairs_second s a t b e ∙ order_alike a b (s * K + a) (t * K + b) (λ h. omega arith) (λ h. omega arith) (λ h. omega arith)
        go (no h) =
            pairs_first s a t b h
            ∙ order_alike s t (s * K + a) (t * K + b) (earlier s t a b ha) (λ e. absurd (h e)) (earlier t s b a hb)

    -- whatever other seconds lie as these do
    pub pairs_like : (m n : ℕ) → nat_cmp m n ≡ nat_cmp s t → order_of_pairs m a n b ≡ nat_cmp (s * K + a) (t * K + b)
    pairs_like m n e = pairs_alike m n s t a b e ∙ pairs_count

-- numbers of two digits lie as their first digits do, whatever the bases
pub digits_alike :
    (B C m n s t a b : ℕ) → C ≤ B → a < C → b < C →
    nat_cmp m n ≡ nat_cmp s t → nat_cmp (m * B + a) (n * B + b) ≡ nat_cmp (s * C + a) (t * C + b)
digits_alike B C m n s t a b l ha hb e =
    sym (pairs_count B m n a b (lt_of_lt_of_le ha l) (lt_of_lt_of_le hb l)) ∙ pairs_like C s t a b ha hb m n e

-- the distance with a given order, of a first count that is earlier
pub earlier_distance : (m n : ℕ) → distant (nat_cmp m n) (size_of_difference n m) ≡ distance_of_counts m n
earlier_distance m n = ap (distant (nat_cmp m n)) (size_sym n m)

-- ---- lists of laws, for the code

pub ruleset turned = (earlier_distance)

-- counts that are as far from others
pub distance_shift : (m n s t : ℕ) → m + t ≡ n + s → distance_of_counts m n ≡ distance_of_counts s t
distance_shift m n s t e = ap₂ distant (order_shift m n s t e) (size_shift m n s t e)

pub ruleset shifted = (order_shift, distance_shift)

pub ruleset counts = (pairs_count)
