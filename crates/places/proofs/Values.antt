-- A list of places and the number that they make, for every base. Assumes nothing.
use mathlib.Core.Path.{◌≡◌, refl, sym, ap, ◌∙◌}
use mathlib.Core.List.{List, [], ◌∷◌, ◌++◌, append-nil}
use Prim.Native.Nat.{ℕ, suc, ◌+◌, ◌*◌, ◌^◌, ◌≤◌, ◌<◌}
use native.Mathlib.Nat.{pow-zero, pow-succ', add-zero, zero-add, mul_assoc, mul-one, one-mul, one-le-pow, le_of_eq, le_trans}
use native.Mathlib.Nat.{mul-le-mul_right, le-add_right, le-mul_of_pos_right, lt_of_lt_of_le}
use native.Mathlib.Omega.{arith}
use lib.Arith.{digits_lt, digits_div, digits_mod}
use lib.ListN.{length}
use Rattle.places.specs.Places.{plain, places_on, places, value_from}
use Rattle.places.proofs.Below.{Below}

-- one power more
power_more : (b v n : ℕ) → v * b ^ suc n ≡ v * b * b ^ n
power_more b v n = ap (λ (x : ℕ). v * x) (pow-succ' b n) ∙ sym (mul_assoc v b (b ^ n))

module _ (b : ℕ) where
  -- a place in front of r is the lowest of one place more
  pub place_more : (f : ℕ → ℕ) (k v d : ℕ) (r : List ℕ) → d < b → places_on b f k v (f d ∷ r) ≡ places_on b f (suc k) (v * b + d) r
  unfolding places_on
  place_more f k v d r h = rw (digits_div v h, digits_mod v h)

  -- ---- bytes that f makes of places, the place of each told by g

  module _ (f g : ℕ → ℕ) where
    abbrev pub Bytes : List ℕ → Type 0
    Bytes [] = Unit
    Bytes (c ∷ r) = ((g c < b) × (f (g c) ≡ c)) × Bytes r

    -- a list of places is that of the number that they make
    places_value : (k v : ℕ) (s t : List ℕ) → Bytes s → places_on b f (k + length s) (value_from b g v s) t ≡ places_on b f k v (s ++ t)
    unfolding value_from
    places_value k v [] t h = ap (λ (n : ℕ). places_on b f n v t) (add-zero k)
    places_value k v (c ∷ r) t h =
        let e : k + suc (length r) ≡ suc k + length r = omega arith in
        ap (λ (n : ℕ). places_on b f n (value_from b g (v * b + g c) r) t) e
        ∙ places_value (suc k) (v * b + g c) r t h.1
        ∙ sym (place_more f k v (g c) (r ++ t) h.0.0)
        ∙ ap (λ (x : ℕ). places_on b f k v (x ∷ r ++ t)) h.0.1

    pub bytes_are : (s : List ℕ) → Bytes s → places b f (length s) (value_from b g 0 s) ≡ s
    unfolding places places_on
    bytes_are s h =
        ap (λ (n : ℕ). places_on b f n (value_from b g 0 s) []) (sym (zero-add (length s)))
        ∙ places_value 0 0 s [] h
        ∙ append-nil s

    -- they make less than b to their number
    below_next : (v : ℕ) (s : List ℕ) → Bytes s → value_from b g v s < suc v * b ^ length s
    unfolding value_from
    below_next v [] h = rw (pow-zero b, mul-one) (omega arith)
    below_next v (c ∷ r) h =
        let p = b ^ length r in
        let l : suc (v * b + g c) ≤ suc v * b = digits_lt (omega arith) h.0.0 in
        rw (power_more b (suc v) (length r)) (lt_of_lt_of_le (below_next (v * b + g c) r h.1) (mul-le-mul_right p l))

    pub bytes_below : (s : List ℕ) → Bytes s → value_from b g 0 s < b ^ length s
    bytes_below s h = rw (one-mul (b ^ length s)) at (below_next 0 s h)

  -- ---- places that are their own bytes

  pub plain_bytes : (s : List ℕ) → Below b s → Bytes plain plain s
  plain_bytes [] h = tt
  plain_bytes (d ∷ r) h = ((h 0, refl), plain_bytes r (λ i. h (suc i)))

  pub value_is : (s : List ℕ) → Below b s → places b plain (length s) (value_from b plain 0 s) ≡ s
  value_is s h = bytes_are plain plain s (plain_bytes s h)

  -- places below those of v make at least v of them
  value_least : (v : ℕ) (s : List ℕ) → v * b ^ length s ≤ value_from b plain v s
  unfolding value_from
  value_least v [] = le_of_eq (ap (λ (x : ℕ). v * x) (pow-zero b) ∙ mul-one v)
  value_least v (d ∷ r) =
      let p = b ^ length r in
      le_trans (le_of_eq (power_more b v (length r))) (le_trans (mul-le-mul_right p (le-add_right (v * b) d)) (value_least (v * b + d) r))

  pub value_above : 0 < b → (v : ℕ) (s : List ℕ) → v ≤ value_from b plain v s
  value_above h v s = le_trans (le-mul_of_pos_right v (one-le-pow (length s) b h)) (value_least v s)
