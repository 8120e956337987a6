-- The laws of padded numbers, for every base above 1 and with the width a variable. Assumes nothing.
use mathlib.Core.Path.{◌≡◌, sym, ap, ap₂, ◌∙◌}
use mathlib.Core.List.{[], ◌++◌}
use Prim.Native.Nat.{ℕ, ◌+◌, ◌-◌, ◌/◌, ◌%◌, ◌^◌, ◌≤◌, ◌<◌, max}
use native.Mathlib.Nat.{mod-lt, one-le-pow, div-lt_iff_lt-mul}
use native.Mathlib.Omega.{arith}
use lib.Pow.{pow-add}
use lib.ListN.{length, drop}
use Rattle.places.specs.Places.{places, place_count}
use Rattle.places.specs.Padded.{padded_places, LastPlaces}
use Rattle.places.proofs.Laws.{length_places, fewest, places_append, places_add, places_mod, drop_places}

module _ (b : ℕ) (f : ℕ → ℕ) where
  pub length_padded : (w n : ℕ) → length (padded_places b f w n) ≡ max w (place_count b n)
  unfolding padded_places
  length_padded w n = length_places b f (max w (place_count b n)) n

  pub places_padded : (w n k : ℕ) → k ≡ max w (place_count b n) → places b f k n ≡ padded_places b f w n
  unfolding padded_places
  places_padded w n k e = ap (λ (m : ℕ). places b f m n) e

  module _ (hb : 1 < b) where
    power_pos : (k : ℕ) → 0 < b ^ k
    power_pos k = one-le-pow k b (omega arith)

    -- a number below b ^ w takes w places
    pub padded_places_lem : (w n : ℕ) → 1 ≤ w → n < b ^ w → padded_places b f w n ≡ places b f w n
    padded_places_lem w n l h = sym (places_padded w n w (omega (arith, fewest b hb w n l h)))

    -- k places of n are the remainder by b ^ k
    padded_rest : (k n : ℕ) → 1 ≤ k → padded_places b f k (n % b ^ k) ≡ places b f k n
    unfolding places
    padded_rest k n l = padded_places_lem k (n % b ^ k) l (mod-lt n (power_pos k)) ∙ places_mod b hb f k n []

    pub last_places : (w n : ℕ) → LastPlaces b f w n
    unfolding padded_places
    last_places w n k l h =
        let c = max w (place_count b n) in
        let e : length (places b f c n) ≡ c = length_places b f c n in
        let s : c ≡ c - k + k = omega arith in
        rw e (ap (λ (m : ℕ). drop (c - k) (places b f m n)) s ∙ drop_places b hb f (c - k) k n ∙ sym (padded_rest k n l))

    -- a number below b ^ (j + k), written as its first j places and its last k
    pub padded_split : (j k n : ℕ) → 1 ≤ j → 1 ≤ k → n < b ^ (j + k)
        → padded_places b f j (n / b ^ k) ++ padded_places b f k (n % b ^ k) ≡ padded_places b f (j + k) n
    unfolding places
    padded_split j k n h l m =
        let t : n / b ^ k < b ^ j = (div-lt_iff_lt-mul (power_pos k)).1 (rw (pow-add b j k) at m) in
        ap₂ ◌++◌ (padded_places_lem j (n / b ^ k) h t) (padded_rest k n l)
        ∙ places_append b f j (n / b ^ k) [] (places b f k n)
        ∙ sym (padded_places_lem (j + k) n (omega arith) m ∙ places_add b hb f j k n [])
