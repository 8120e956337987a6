-- A number in places of a base b, highest first: seven-bit groups, bytes, decimal digits. Assumes nothing.
use Rattle.std.specs.Prelude.{ℕ, zero, suc, ◌+◌, ◌*◌, ◌/◌, ◌%◌, List, [], ◌∷◌}

-- a place that is its own byte
abbrev pub plain : ℕ → ℕ
plain d = d

-- the byte of a place where that of 0 is c
abbrev pub byte_from : ℕ → ℕ → ℕ
byte_from c d = c + d

-- the k lowest places of q in front of t, the byte of each made by f
unfoldable pub places_on : ℕ → (ℕ → ℕ) → ℕ → ℕ → List ℕ → List ℕ
places_on b f zero q t = t
places_on b f (suc k) q t = places_on b f k (q / b) (f (q % b) ∷ t)

unfoldable pub places : ℕ → (ℕ → ℕ) → ℕ → ℕ → List ℕ
places b f k n = places_on b f k n []

-- how many places q has, none for 0; the second argument is how many are looked for at most
unfoldable pub count_in : ℕ → ℕ → ℕ → ℕ
count_in b zero q = zero
count_in b (suc g) zero = zero
count_in b (suc g) (suc q) = suc (count_in b g (suc q / b))

-- how many places n has, none for 0: a number n has no more than n
unfoldable pub count : ℕ → ℕ → ℕ
count b n = count_in b n n

-- how many places n has, one for 0
unfoldable pub place_count : ℕ → ℕ → ℕ
place_count b n = suc (count b (n / b))

-- the number whose places, below those of v, are the bytes of a list, by the place g of each
unfoldable pub value_from : ℕ → (ℕ → ℕ) → ℕ → List ℕ → ℕ
value_from b g v [] = v
value_from b g v (c ∷ r) = value_from b g (v * b + g c) r
