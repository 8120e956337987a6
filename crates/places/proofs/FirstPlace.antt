-- The first place of a number, for every base: it stands in front of the others, and in a base 2 * h it is below h where its places hold
-- twice the number. Assumes nothing.
use mathlib.Core.Path.{◌≡◌, ap, ◌∙◌}
use mathlib.Core.List.{List, ◌∷◌}
use Prim.Native.Nat.{ℕ, suc, ◌+◌, ◌*◌, ◌/◌, ◌%◌, ◌^◌, ◌≤◌, ◌<◌}
use native.Mathlib.Nat.{pow-succ', mul_assoc, div-lt_iff_lt-mul, one-le-pow, mod-eq_of_lt}
use native.Mathlib.Omega.{arith}
use Rattle.places.specs.Places.{places_on}
use Rattle.places.proofs.Laws.{places_add}

pub places_first : (b : ℕ) → 1 < b → (f : ℕ → ℕ) (n q : ℕ) (t : List ℕ)
    → places_on b f (suc n) q t ≡ f (q / b ^ n % b) ∷ places_on b f n q t
unfolding places_on
places_first b hb f n q t =
    let e : suc n ≡ 1 + n = omega arith in
    ap (λ (k : ℕ). places_on b f k q t) e ∙ places_add b hb f 1 n q t

module _ (h n m : ℕ) (z : 0 < h) where
  abbrev power : ℕ
  power = (2 * h) ^ n

  doubled : h * power * 2 ≡ (2 * h) ^ suc n
  doubled = omega (arith, pow-succ' (2 * h) n, mul_assoc 2 h power)

  some : 1 ≤ power
  some = one-le-pow n (2 * h) (omega arith)

  pub first_below : 2 * m < (2 * h) ^ suc n → m / (2 * h) ^ n < h
  first_below l = (div-lt_iff_lt-mul some).1 (omega (arith, doubled))

  pub below_first : m < (2 * h) ^ suc n → m / (2 * h) ^ n % (2 * h) < h → 2 * m < (2 * h) ^ suc n
  below_first l k =
      let q : m / power < 2 * h = (div-lt_iff_lt-mul some).1 (rw (pow-succ' (2 * h) n) at l) in
      let e : m / power < h = rw (mod-eq_of_lt q) at k in
      omega (arith, doubled, (div-lt_iff_lt-mul some).0 e)
