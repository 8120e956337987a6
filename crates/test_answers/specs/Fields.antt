-- The fields of a record's bytes: big-endian numbers at fixed places, where a byte past the end is 0. Assumes nothing.
use Rattle.std.specs.Prelude.{ℕ, ◌+◌, ◌*◌, ◌/◌, ◌%◌, ◌^◌, Bool, ◌&&◌, ◌||◌, List, [], ◌∷◌, eqb, leb, ltb, get_or}
use Rattle.std.specs.Int.{w32, w64, from_be_bytes, cast_signed}
use Rattle.ion.specs.Pair.Pair.{packed_pair}
use Rattle.ion.specs.declared.Timestamp.{Timestamp}
use Rattle.test_field_sets.specs.FieldSets.{field_set}
use Rattle.test_field_sets.specs.declared.FieldSet.{FieldSet}

-- the number in four bytes from index at on
unfoldable pub half_at : List ℕ → ℕ → ℕ
half_at s at = from_be_bytes w32 (get_or s at 0 ∷ get_or s (at + 1) 0 ∷ get_or s (at + 2) 0 ∷ get_or s (at + 3) 0 ∷ [])

-- the number in eight
unfoldable pub word_at : List ℕ → ℕ → ℕ
word_at s at = half_at s at * 2 ^ 32 + half_at s (at + 4)

-- a pair: two such numbers
unfoldable pub recorded_pair : List ℕ → ℕ → Timestamp
recorded_pair s at = packed_pair (word_at s at) (word_at s (at + 8))

-- the field set of 48 bytes: a sum of 1, 2 and 4 says how month, day, hour and minute are given, and a fraction has two numbers, of which
-- one that is no decimal needs the low halves; signed numbers are in two's complement
unfoldable pub field_set_at : List ℕ → FieldSet
field_set_at s =
    let how = get_or s 1 0 in
    field_set (get_or s 0 0) (eqb (how % 2) 1) (eqb (how / 2 % 2) 1) (eqb (how / 4 % 2) 1)
    (half_at s 2) (half_at s 6) (half_at s 10) (half_at s 14) (half_at s 18) (half_at s 22)
    (get_or s 26 0) (half_at s 31) (half_at s 39) (word_at s 27) (cast_signed w64 (word_at s 35))
    (get_or s 43 0) (cast_signed w32 (half_at s 44))

-- whether it is such a sum, and the high halves are 0 where they are not needed
unfoldable pub is_field_set : List ℕ → Bool
is_field_set s = ltb (get_or s 1 0) 8 && (leb 5 (get_or s 26 0) || (eqb (half_at s 27) 0 && eqb (half_at s 35) 0))
