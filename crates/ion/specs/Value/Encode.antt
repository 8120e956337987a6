-- A timestamp's value in Ion binary: descriptor, perhaps a length, and body. Assumes nothing.
use Rattle.std.specs.Prelude.{ℕ, zero, suc, ◌+◌, ◌/◌, true, cond, List, [], ◌∷◌, ◌++◌, leb, negsuc, length, take, Option, None, Some}
use Rattle.ion.specs.Numbers.VarUInt.{varuint}
use Rattle.ion.specs.Numbers.VarInt.{signed, varint}
use Rattle.ion.specs.Numbers.Decimal.{decimal_bytes}
use Rattle.ion.specs.Pair.Offset.{offset_of}
use Rattle.ion.specs.Pair.Word.{fields_of}
use Rattle.ion.specs.Pair.Pair.{word_in}
use Rattle.ion.specs.Pair.Fraction.{scale}
use Rattle.ion.specs.Calls.Contents.{in_turn}
use Rattle.ion.specs.Calls.Utc.{utc_fields}
use Rattle.ion.specs.declared.Fields.{Fields}
use Rattle.ion.specs.declared.offset.OffsetMinutes.{OffsetMinutes}
use Rattle.ion.specs.declared.Timestamp.{Timestamp}

-- an offset in minutes, negative zero where it is unknown
unfoldable pub offset_bytes : Option OffsetMinutes → List ℕ
offset_bytes None = signed true 0
offset_bytes (Some m) = varint m.0

abbrev pub varuints : List ℕ → List ℕ
varuints l = in_turn varuint l

abbrev pub field_list : Fields → List ℕ
field_list f = f.year ∷ f.month ∷ f.day ∷ f.hour ∷ f.minute ∷ f.second ∷ []

-- how many of them there are at a precision: the hour comes with the minute
unfoldable pub field_count : ℕ → ℕ
field_count p = cond (leb 3 p) (p + 2) (p + 1)

-- exponent and coefficient of a fraction with digits, and nothing of one without
unfoldable pub fraction_bytes : ℕ → ℕ → List ℕ
fraction_bytes zero c = []
fraction_bytes (suc d) c = decimal_bytes c (negsuc d)

-- the body of an offset, UTC fields and a coefficient
unfoldable pub body_from : Option OffsetMinutes → Fields → ℕ → List ℕ
body_from o u c = offset_bytes o ++ (varuints (take (field_count u.precision) (field_list u)) ++ fraction_bytes u.digits c)

unfoldable pub body_of : Timestamp → List ℕ
body_of s =
    let f = fields_of (word_in s) in
    body_from (offset_of f.offset) (utc_fields f) (s.attoseconds / scale f.digits)

-- the descriptor, and the length where it is above 13
unfoldable pub header : ℕ → List ℕ
header n = cond (leb n 13) ((0x60 + n) ∷ []) (0x6e ∷ varuint n)

unfoldable pub value_of : Timestamp → List ℕ
value_of s = header (length (body_of s)) ++ body_of s
