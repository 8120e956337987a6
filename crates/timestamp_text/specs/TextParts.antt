-- The text of a timestamp up to each of its fields, and how long it is. Assumes nothing.
use Rattle.std.specs.Prelude.{ℕ, ◌+◌, cond, List, ◌++◌, eqb}
use Prim.Native.Char.{code}
use Rattle.ion.specs.Numbers.Padded.{padded}
use Rattle.ion.specs.Text.Format.{marked, fraction_text}
use Rattle.ion.specs.declared.Fields.{Fields}

-- ---- up to each field, with what stands before it

abbrev pub to_month : Fields → List ℕ
to_month f = padded 4 f.year ++ marked (code "-") f.month

abbrev pub to_day : Fields → List ℕ
to_day f = to_month f ++ marked (code "-") f.day

abbrev pub to_hour : Fields → List ℕ
to_hour f = to_day f ++ marked (code "T") f.hour

abbrev pub to_minute : Fields → List ℕ
to_minute f = to_hour f ++ marked (code ":") f.minute

abbrev pub to_second : Fields → List ℕ
to_second f = to_minute f ++ marked (code ":") f.second

abbrev pub to_fraction : Fields → ℕ → List ℕ
to_fraction f a = to_second f ++ fraction_text f.digits a

-- ---- lengths

-- that of a point and the digits of a fraction, or of nothing
abbrev pub fraction_length : ℕ → ℕ
fraction_length digits = cond (eqb digits 0) 0 (1 + digits)

-- that of the whole, by the precision and the number of digits
abbrev pub text_length : ℕ → ℕ → ℕ
text_length p digits =
    cond (eqb p 0) 5 (cond (eqb p 1) 8 (cond (eqb p 2) 11 (cond (eqb p 3) 22 (25 + fraction_length digits))))
