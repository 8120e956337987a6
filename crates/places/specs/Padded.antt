-- Numbers in places of a base b with zeros in front, and the law of their last bytes. Assumes nothing.
use Rattle.std.specs.Prelude.{ℕ, ◌-◌, ◌%◌, ◌^◌, ◌≤◌, max, List, ◌≡◌, length, drop}
use Rattle.places.specs.Places.{places, place_count}

-- n with zeros in front up to the width w, the byte of each place made by f; a wider number in full
unfoldable pub padded_places : ℕ → (ℕ → ℕ) → ℕ → ℕ → List ℕ
padded_places b f w n = places b f (max w (place_count b n)) n

-- the last k bytes of s
abbrev pub last_bytes : ℕ → List ℕ → List ℕ
last_bytes k s = drop (length s - k) s

-- for each k from 1 to the number of bytes, the last k of them are the remainder of n by b ^ k, padded to k places
abbrev pub LastPlaces : ℕ → (ℕ → ℕ) → ℕ → ℕ → Type 0
LastPlaces b f w n =
    (k : ℕ) → 1 ≤ k → k ≤ length (padded_places b f w n) → last_bytes k (padded_places b f w n) ≡ padded_places b f k (n % b ^ k)
