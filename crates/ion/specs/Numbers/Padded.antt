-- Numbers in decimal, as text. Assumes nothing.
use Rattle.std.specs.Prelude.{ℕ, ◌+◌, List}
use Rattle.places.specs.Places.{places, place_count}
use Rattle.places.specs.Padded.{padded_places}

-- a digit as text
abbrev pub digit : ℕ → ℕ
digit d = 48 + d

-- the k lowest digits of n
abbrev pub last_digits : ℕ → ℕ → List ℕ
last_digits k n = places 10 digit k n

-- how many digits n has, one for 0
abbrev pub digit_count : ℕ → ℕ
digit_count n = place_count 10 n

-- n in decimal, with zeros in front up to the width w; a wider number in full
abbrev pub padded : ℕ → ℕ → List ℕ
padded w n = padded_places 10 digit w n
