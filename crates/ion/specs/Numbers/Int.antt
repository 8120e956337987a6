-- The magnitude of an Int of Ion binary: big-endian bytes, of which the first one's highest bit is the sign and so clear.
-- Assumes nothing.
use Rattle.std.specs.Prelude.{ℕ, ◌*◌, ◌^◌, cond, ◌&&◌, List, eqb, ltb, length, Option, None, Some}
use Rattle.places.specs.Places.{plain, places, count, value_from}

-- as few bytes as hold m and a clear bit in front of it, none for 0
unfoldable pub int_count : ℕ → ℕ
int_count m = count 256 (2 * m)

unfoldable pub int : ℕ → List ℕ
int m = places 256 plain (int_count m) m

-- the number that big-endian bytes make
abbrev pub big_endian : List ℕ → ℕ
big_endian s = value_from 256 plain 0 s

-- the number of 64 bits whose shortest form the bytes are, all of them
unfoldable pub read_int : List ℕ → Option ℕ
read_int s = cond (ltb (big_endian s) (2 ^ 64) && eqb (int_count (big_endian s)) (length s)) (Some (big_endian s)) None
