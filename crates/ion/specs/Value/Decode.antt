-- The parts of a body of Ion binary, by the way in which its numbers and its fraction are read; and those of a body in its shortest form.
-- Assumes nothing.
use Rattle.std.specs.Prelude.{ℕ, zero, suc, ◌-◌, ◌*◌, Bool, true, false, cond, not, ◌&&◌, List}
use Rattle.std.specs.Prelude.{[], ◌∷◌, ◌++◌, eqb, leb, ltb, pos, negsuc, length, drop, get_or, Option, None, Some, Result, Ok, Err}
use Rattle.std.specs.Option.{option_map}
use Rattle.ion.specs.Numbers.VarUInt.{read_var_uint}
use Rattle.ion.specs.Numbers.VarInt.{read_var_int}
use Rattle.ion.specs.Numbers.Int.{read_int}
use Rattle.ion.specs.Pair.Offset.{offset_minutes, raw_of}
use Rattle.ion.specs.Calendar.Shift.{shifted}
use Rattle.ion.specs.Pair.Word.{word_of}
use Rattle.ion.specs.Pair.Pair.{packed_pair}
use Rattle.ion.specs.Pair.Fraction.{scale}
use Rattle.ion.specs.Calls.Accepted.{time_in}
use Rattle.ion.specs.Calls.Utc.{with_time}
use Rattle.ion.specs.declared.Fields.{Fields}
use Rattle.ion.specs.declared.Body.{Body}
use Rattle.ion.specs.declared.offset.OffsetMinutes.{OffsetMinutes}
use Rattle.ion.specs.declared.Timestamp.{Timestamp}
use Rattle.ion.specs.declared.number.NumberError.{NumberError}
use Rattle.ion.specs.declared.number.SignedMagnitude.{SignedMagnitude}

-- how numbers are read: up to a limit, the number with which bytes begin, and how many bytes it takes
pub record Numbers : Type 0 where
  pub uint : ℕ → List ℕ → Result (ℕ × ℕ) NumberError
  pub int : ℕ → List ℕ → Result (SignedMagnitude × ℕ) NumberError

-- the parts: an offset, up to six UTC fields, and a fraction
pub record Parts (A : Type 0) : Type 0 where
  pub offset : Option OffsetMinutes
  pub fields : List ℕ
  pub fraction : A

-- ---- the offset

-- negative zero is unknown
abbrev pub signed_offset : Bool → ℕ → Option OffsetMinutes
signed_offset false m = Some (offset_minutes (pos m))
signed_offset true zero = None
signed_offset true (suc m) = Some (offset_minutes (negsuc m))

abbrev pub offset_from : List ℕ → Result (SignedMagnitude × ℕ) NumberError → Option (Option OffsetMinutes × List ℕ)
offset_from s (Ok x) = Some (signed_offset x.0.negative x.0.magnitude, drop x.1 s)
offset_from s (Err e) = None

-- ---- the fields

abbrev pub one_more : ℕ → Option (List ℕ × List ℕ) → Option (List ℕ × List ℕ)
one_more v (Some p) = Some (v ∷ p.0, p.1)
one_more v None = None

abbrev pub field_from : (List ℕ → Option (List ℕ × List ℕ)) → List ℕ → Result (ℕ × ℕ) NumberError → Option (List ℕ × List ℕ)
field_from after s (Ok x) = one_more x.0 (after (drop x.1 s))
field_from after s (Err e) = None

-- a year, or more, and no hour without its minute
abbrev pub is_field_count : ℕ → Bool
is_field_count k = not (eqb k 0) && not (eqb k 4)

-- ---- all parts, one after another

module _ (n : Numbers) where
  -- the offset, and what follows it
  unfoldable pub decode_offset : List ℕ → Option (Option OffsetMinutes × List ℕ)
  decode_offset s = offset_from s (n.int 1439 s)

  -- up to k fields, and what follows them; none is above 16383, the most that the word's widest, the year, can hold
  unfoldable pub decode_fields : ℕ → List ℕ → Option (List ℕ × List ℕ)
  decode_fields zero s = Some ([], s)
  decode_fields (suc k) [] = Some ([], [])
  decode_fields (suc k) (b ∷ s) = field_from (decode_fields k) (b ∷ s) (n.uint 16383 (b ∷ s))

  -- the fraction is all that is left
  module _ {A : Type 0} (fraction : List ℕ → Option A) where
    abbrev pub after_fields : Option OffsetMinutes → List ℕ → Option A → Option (Parts A)
    after_fields o l (Some q) = Some (record { offset = o; fields = l; fraction = q })
    after_fields o l None = None

    abbrev pub after_offset : Option OffsetMinutes → Option (List ℕ × List ℕ) → Option (Parts A)
    after_offset o (Some p) = cond (is_field_count (length p.0)) (after_fields o p.0 (fraction p.1)) None
    after_offset o None = None

    abbrev pub from_offset : Option (Option OffsetMinutes × List ℕ) → Option (Parts A)
    from_offset (Some p) = after_offset p.0 (decode_fields 6 p.1)
    from_offset None = None

    unfoldable pub decode_parts : List ℕ → Option (Parts A)
    decode_parts s = from_offset (decode_offset s)

-- ---- the parts as UTC fields and a coefficient

abbrev pub first_values : List ℕ
first_values = 0 ∷ 1 ∷ 1 ∷ 0 ∷ 0 ∷ 0 ∷ []

-- all six fields; those that are not there have their first values
unfoldable pub filled : List ℕ → List ℕ
filled l = l ++ drop (length l) first_values

-- the precision with k fields
unfoldable pub precision_with : ℕ → ℕ
precision_with k = cond (leb k 3) (k - 1) (k - 2)

-- six fields, a precision and digits; a UTC form has no offset
abbrev pub fields_from : List ℕ → ℕ → ℕ → Fields
fields_from v p d =
    record {
      year = get_or v 0 0;
      month = get_or v 1 0;
      day = get_or v 2 0;
      hour = get_or v 3 0;
      minute = get_or v 4 0;
      second = get_or v 5 0;
      precision = p;
      digits = d;
      offset = raw_of None;
    }

abbrev pub body_with : Option OffsetMinutes → List ℕ → ℕ → ℕ → Body
body_with o l d c = record { offset = o; utc = fields_from (filled l) (precision_with (length l)) d; coefficient = c }

-- with digits and coefficient as the fraction
abbrev pub body_in : Parts (ℕ × ℕ) → Body
body_in x = body_with x.offset x.fields x.fraction.0 x.fraction.1

abbrev pub body_by : Numbers → (List ℕ → Option (ℕ × ℕ)) → List ℕ → Option Body
body_by n fraction s = option_map body_in (decode_parts n fraction s)

-- ---- in the shortest form

abbrev pub shortest : Numbers
shortest = record { uint = read_var_uint; int = read_var_int }

-- digits and coefficient: an exponent below 0, then all that is left
abbrev pub coefficient_from : ℕ → Option ℕ → Option (ℕ × ℕ)
coefficient_from d (Some c) = Some (d, c)
coefficient_from d None = None

abbrev pub fraction_from : List ℕ → Result (SignedMagnitude × ℕ) NumberError → Option (ℕ × ℕ)
fraction_from s (Ok x) =
    cond (x.0.negative && ltb 0 x.0.magnitude) (coefficient_from x.0.magnitude (read_int (drop x.1 s))) None
fraction_from s (Err e) = None

unfoldable pub decode_fraction : List ℕ → Option (ℕ × ℕ)
decode_fraction [] = Some (0, 0)
decode_fraction (b ∷ s) = fraction_from (b ∷ s) (read_var_int 63 (b ∷ s))

unfoldable pub decode_body : List ℕ → Option Body
decode_body s = body_by shortest decode_fraction s

-- ---- the pair of a body: UTC fields are moved to local ones by the offset

abbrev pub local_by : Option OffsetMinutes → Fields → Fields
local_by None u = with_time u (time_in u) (raw_of None)
local_by (Some m) u = with_time u (shifted (time_in u) m.0) (raw_of (Some m))

unfoldable pub pair_from : Body → Timestamp
pair_from x = packed_pair (word_of (local_by x.offset x.utc)) (x.coefficient * scale x.utc.digits)
