-- VarUInt of Ion binary: a number in groups of seven bits, highest first, a byte each, the last byte marked by 128.
-- Assumes nothing.
use Rattle.std.specs.Prelude.{ℕ, zero, suc, ◌+◌, ◌*◌, ◌/◌, ◌%◌, Bool, false, cond, List, [], ◌∷◌, eqb, leb, ltb, Result, Ok, Err}
use Rattle.places.specs.Places.{plain, places_on, place_count}
use Rattle.ion.specs.declared.number.NumberError.{NumberError}
use Rattle.ion.specs.declared.number.NumberError.TheVariants.{Cut, Bad}

-- m in n bytes
unfoldable pub groups : ℕ → ℕ → List ℕ
groups zero m = []
groups (suc n) m = places_on 128 plain n (m / 128) ((128 + m % 128) ∷ [])

-- the number of seven-bit groups of m, one for 0
abbrev pub group_count : ℕ → ℕ
group_count m = place_count 128 m

-- m in as few bytes as hold it
unfoldable pub varuint : ℕ → List ℕ
varuint m = groups (group_count m) m

-- a value of k bytes that may be l at most
abbrev pub up_to : ℕ → ℕ → ℕ → Result (ℕ × ℕ) NumberError
up_to l v k = cond (ltb l v) (Err Bad) (Ok (v, k))

-- what a reader that has the value v of k bytes finds in the bytes that follow, of which it takes n at most: a value up to l
-- at a marked byte, the end of the input before one, or neither
unfoldable pub scan_from : ℕ → ℕ → ℕ → ℕ → List ℕ → Result (ℕ × ℕ) NumberError
scan_from l zero v k s = Err Bad
scan_from l (suc n) v k [] = Err Cut
scan_from l (suc n) v k (b ∷ r) =
    cond (leb 128 b) (up_to l (v * 128 + b % 128) (k + 1)) (scan_from l n (v * 128 + b % 128) (k + 1) r)

-- a first byte 0 with any byte after it: no shortest form begins so
abbrev pub zero_first : List ℕ → Bool
zero_first [] = false
zero_first (a ∷ []) = false
zero_first (a ∷ b ∷ r) = eqb a 0

-- the VarUInt up to l, in its shortest form, with which the bytes begin
unfoldable pub read_var_uint : ℕ → List ℕ → Result (ℕ × ℕ) NumberError
read_var_uint l s = cond (zero_first s) (Err Bad) (scan_from l (group_count l) 0 0 s)
