-- Places of k bits: how many a number of so many bits has, and from its leading zeros. Assumes nothing.
use mathlib.Core.Path.{◌≡◌, sym, ap, ◌∙◌}
use Prim.Native.Nat.{ℕ, zero, suc, ◌+◌, ◌-◌, ◌*◌, ◌/◌, ◌^◌, ◌≤◌, ◌<◌}
use native.Mathlib.Nat.{pow-zero, pow-suc, mul-zero, mul-suc, mul_comm, zero-div, mod-lt, div-add-mod', one-le-pow}
use native.Mathlib.Omega.{arith}
use lib.Count.{count_leading_zeros, leading_length}
use lib.Pow.{pow_pos, pow-add, pow_mono, pow-lt}
use Rattle.places.specs.Places.{place_count}
use Rattle.places.proofs.Laws.{fewest, place_some, place_is}

pow_mul : (k n : ℕ) → 2 ^ (k * n) ≡ (2 ^ k) ^ n
pow_mul k zero = ap (λ (m : ℕ). 2 ^ m) (mul-zero k) ∙ sym (pow-zero (2 ^ k))
pow_mul k (suc n) =
    ap (λ (m : ℕ). 2 ^ m) (mul-suc k n) ∙ pow-add 2 (k * n) k ∙ ap (λ (m : ℕ). m * 2 ^ k) (pow_mul k n) ∙ sym (pow-suc (2 ^ k) n)

module _ (k : ℕ) (hk : 0 < k) where
  above : 1 < 2 ^ k
  above = pow-lt hk

  -- a number of n bits, 0 having none
  bits_places : (n v : ℕ) → v < 2 ^ n → 2 ^ n ≤ 2 * v + 1 → place_count (2 ^ k) v ≡ suc ((n - 1) / k)
  bits_places zero v h l =
      omega (
        arith,
        place_some (2 ^ k) above v,
        zero-div k,
        fewest (2 ^ k) above 1 v (omega arith) (omega (arith, one-le-pow 1 (2 ^ k) (pow_pos k))),
      )
  bits_places (suc c) v h l =
      let n = c / k in
      let r = mod-lt c hk in
      let d = div-add-mod' c k in
      let e = mul_comm k n in
      let f = mul-suc k n in
      let up : 2 ^ suc c ≤ 2 ^ (k * suc n) = pow_mono (omega arith) in
      let down : 2 ^ (k * n) ≤ 2 ^ c = pow_mono (omega arith) in
      let z : suc c - 1 ≡ c = omega arith in
      rw z (place_is (2 ^ k) above n v (omega (arith, pow_mul k n, pow-suc 2 c)) (omega (arith, pow_mul k (suc n))))

  pub zeros_places : (w v : ℕ) → v < 2 ^ w → place_count (2 ^ k) v ≡ suc ((w - count_leading_zeros w v - 1) / k)
  zeros_places w v h =
      let s = leading_length w v h in
      let e : w - count_leading_zeros w v ≡ s.0 = omega arith in
      rw e (bits_places s.0 v s.2 s.3)

  -- the same of twice a number, which has a bit more, and of 0
  double_bits : (n v : ℕ) → v < 2 ^ n → 2 ^ n ≤ 2 * v + 1 → place_count (2 ^ k) (2 * v) ≡ suc (n / k)
  double_bits zero v h l = bits_places 0 (2 * v) (omega arith) (omega arith)
  double_bits (suc c) v h l =
      let p = pow-suc 2 c in
      let q = pow-suc 2 (suc c) in
      let e : suc (suc c) - 1 ≡ suc c = omega arith in
      bits_places (suc (suc c)) (2 * v) (omega arith) (omega arith) ∙ ap (λ (x : ℕ). suc (x / k)) e

  pub double_zeros : (w v : ℕ) → v < 2 ^ w → place_count (2 ^ k) (2 * v) ≡ suc ((w - count_leading_zeros w v) / k)
  double_zeros w v h =
      let s = leading_length w v h in
      let e : w - count_leading_zeros w v ≡ s.0 = omega arith in
      rw e (double_bits s.0 v s.2 s.3)
