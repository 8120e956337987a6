-- The forms of a timestamp's value that the Ion specification allows, said without the reader. Assumes nothing.
use Rattle.std.specs.Prelude.{ℕ, suc, ◌+◌, ◌*◌, ◌/◌, ◌^◌, ◌≤◌, ◌<◌, ◌≡◌, Bool, true, false, List, [], ◌∷◌, ◌++◌, nat_abs, length, take}
use Rattle.std.specs.Prelude.{Option, None, Some}
use Rattle.places.specs.Places.{plain, places}
use Rattle.ion.specs.Numbers.VarUInt.{groups}
use Rattle.ion.specs.Numbers.VarInt.{is_negative, sign_first}
use Rattle.ion.specs.Numbers.PaddedNumbers.{longest}
use Rattle.ion.specs.Pair.Offset.{offset_of}
use Rattle.ion.specs.Pair.Word.{fields_of}
use Rattle.ion.specs.Pair.Pair.{word_in}
use Rattle.ion.specs.Pair.Fraction.{scale}
use Rattle.ion.specs.Calls.Utc.{utc_fields}
use Rattle.ion.specs.Value.Encode.{field_list, field_count}
use Rattle.ion.specs.declared.Fields.{Fields}
use Rattle.ion.specs.declared.offset.OffsetMinutes.{OffsetMinutes}
use Rattle.ion.specs.declared.Timestamp.{Timestamp}

-- ---- numbers

-- m in some number of bytes that holds it
pub record VarUIntForm (m : ℕ) (s : List ℕ) : Type 0 where
  pub width : ℕ
  pub some : 0 < width
  pub most : width ≤ longest
  pub holds : m < 128 ^ width
  pub bytes : s ≡ groups width m

-- a sign and a magnitude in some number of bytes that holds both
pub record VarIntForm (g : Bool) (m : ℕ) (s : List ℕ) : Type 0 where
  pub width : ℕ
  pub some : 0 < width
  pub most : width ≤ longest
  pub holds : 2 * m < 128 ^ width
  pub bytes : s ≡ sign_first g (groups width m)

-- the sign of an Int, in its first byte
abbrev pub sign_int : Bool → List ℕ → List ℕ
sign_int false s = s
sign_int true [] = []
sign_int true (b ∷ r) = (b + 128) ∷ r

-- a coefficient's sign and magnitude in any number of bytes that holds both; no bytes are a zero without sign
pub record IntForm (h : Bool) (c : ℕ) (s : List ℕ) : Type 0 where
  pub width : ℕ
  pub some : h ≡ true → 0 < width
  pub holds : 2 * c < 256 ^ width
  pub bytes : s ≡ sign_int h (places 256 plain width c)

-- ---- the parts of a body, by the forms of their numbers

-- an unknown offset is negative zero
abbrev pub OffsetForm : (Bool → ℕ → List ℕ → Type 0) → Option OffsetMinutes → List ℕ → Type 0
OffsetForm Int None s = Int true 0 s
OffsetForm Int (Some m) s = Int (is_negative m.0) (nat_abs m.0) s

pub data FieldsForm (UInt : ℕ → List ℕ → Type 0) : List ℕ → List ℕ → Type 0 where
  none : FieldsForm UInt [] []
  more : {v : ℕ} {l s t : List ℕ} → UInt v s → FieldsForm UInt l t → FieldsForm UInt (v ∷ l) (s ++ t)

-- a number of digits and a coefficient: without digits nothing, or a zero of either sign with an exponent of 0, of either sign, or
-- more; with digits an exponent below 0, and a coefficient that is not below 0
pub data FractionForm : ℕ → ℕ → List ℕ → Type 0 where
  none : FractionForm 0 0 []
  ignored : {g h : Bool} {m : ℕ} {s t : List ℕ} → (g ≡ true → m ≡ 0) → VarIntForm g m s → IntForm h 0 t → FractionForm 0 0 (s ++ t)
  digits : {h : Bool} {d c : ℕ} {s t : List ℕ} → (h ≡ true → c ≡ 0) → VarIntForm true (suc d) s → IntForm h c t
      → FractionForm (suc d) c (s ++ t)

-- ---- the whole

-- a body of the timestamp of local fields and attoseconds: it has UTC fields, and a fraction only after a second
pub record BodyForm (f : Fields) (a : ℕ) (b : List ℕ) : Type 0 where
  pub offset_bytes : List ℕ
  pub fields_bytes : List ℕ
  pub fraction_bytes : List ℕ
  pub bytes : b ≡ offset_bytes ++ (fields_bytes ++ fraction_bytes)
  pub offset : OffsetForm VarIntForm (offset_of f.offset) offset_bytes
  pub fields : FieldsForm VarUIntForm (take (field_count (utc_fields f).precision) (field_list (utc_fields f))) fields_bytes
  pub fraction : FractionForm f.digits (a / scale f.digits) fraction_bytes
  pub late : f.precision < 4 → fraction_bytes ≡ []

-- a value of a timestamp: a descriptor with the length, or 6E and a length
pub data Form (s : Timestamp) : List ℕ → Type 0 where
  short : {b : List ℕ} → BodyForm (fields_of (word_in s)) s.attoseconds b → length b ≤ 13 → Form s ((0x60 + length b) ∷ b)
  long : {b h : List ℕ} → BodyForm (fields_of (word_in s)) s.attoseconds b → length b ≤ 64 → VarUIntForm (length b) h
      → Form s (0x6e ∷ (h ++ b))
