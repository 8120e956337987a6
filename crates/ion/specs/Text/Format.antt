-- The text of a timestamp, by `Timestamp::format` and the Ion specification. Assumes nothing.
use Rattle.std.specs.Prelude.{ℕ, zero, suc, ◌/◌, ◌%◌, cond, List, [], ◌∷◌, ◌++◌, eqb, ℤ, pos, negsuc, Option, None, Some}
use Prim.Native.Char.{code}
use Rattle.ion.specs.Text.Ascii.{ascii}
use Rattle.ion.specs.Numbers.Padded.{padded}
use Rattle.ion.specs.Pair.Offset.{offset_of}
use Rattle.ion.specs.Pair.Word.{fields_of}
use Rattle.ion.specs.Pair.Pair.{word_in}
use Rattle.ion.specs.Pair.Fraction.{scale}
use Rattle.ion.specs.declared.Fields.{Fields}
use Rattle.ion.specs.declared.offset.OffsetMinutes.{OffsetMinutes}
use Rattle.ion.specs.declared.Timestamp.{Timestamp}

-- a mark and two digits
unfoldable pub marked : ℕ → ℕ → List ℕ
marked mark n = mark ∷ padded 2 n

-- a point and all digits of a fraction, or nothing
unfoldable pub fraction_text : ℕ → ℕ → List ℕ
fraction_text digits a = cond (eqb digits 0) [] (code "." ∷ padded digits (a / scale digits))

-- hours and minutes
unfoldable pub clock_text : ℕ → List ℕ
clock_text n = padded 2 (n / 60) ++ marked (code ":") (n % 60)

abbrev pub unknown_text : List ℕ
unknown_text = ascii "-00:00"

abbrev pub zero_text : List ℕ
zero_text = ascii "+00:00"

-- a known offset in minutes: a sign, hours and minutes
unfoldable pub minutes_text : ℤ → List ℕ
minutes_text (pos zero) = zero_text
minutes_text (pos (suc n)) = code "+" ∷ clock_text (suc n)
minutes_text (negsuc n) = code "-" ∷ clock_text (suc n)

unfoldable pub offset_text : Option OffsetMinutes → List ℕ
offset_text None = unknown_text
offset_text (Some m) = minutes_text m.0

-- the five forms
unfoldable pub fields_text : Fields → ℕ → List ℕ
fields_text f a =
    let p = f.precision in
    let year = padded 4 f.year in
    let month = marked (code "-") f.month in
    let day = marked (code "-") f.day in
    let hour = marked (code "T") f.hour in
    let minute = marked (code ":") f.minute in
    let second = marked (code ":") f.second in
    let fraction = fraction_text f.digits a in
    let offset = offset_text (offset_of f.offset) in
    cond (eqb p 0) (year ++ ascii "T")
    (cond (eqb p 1) (year ++ month ++ ascii "T")
    (cond (eqb p 2) (year ++ month ++ day ++ ascii "T")
    (cond (eqb p 3) (year ++ month ++ day ++ hour ++ minute ++ offset)
    (year ++ month ++ day ++ hour ++ minute ++ second ++ fraction ++ offset))))

unfoldable pub text_of : Timestamp → List ℕ
text_of s = fields_text (fields_of (word_in s)) s.attoseconds
