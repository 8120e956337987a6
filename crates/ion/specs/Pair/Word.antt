-- The packed word: year 14 bits, month 4, day 5, hour 5, minute 6, second 6, precision 3, digits 5, offset 12, four zero bits.
-- Assumes nothing.
use Rattle.std.specs.Prelude.{ℕ, List, [], ◌∷◌, get_or}
use Rattle.ion.specs.Pair.Layout.{join, parts, Within}
use Rattle.ion.specs.Pair.Offset.{raw_offset}
use Rattle.ion.specs.declared.Fields.{Fields}

-- high to low; the last width is that of the four zero bits
abbrev pub widths : List ℕ
widths = 14 ∷ 4 ∷ 5 ∷ 5 ∷ 6 ∷ 6 ∷ 3 ∷ 5 ∷ 12 ∷ 4 ∷ []

abbrev pub values_of : Fields → List ℕ
values_of f = f.year ∷ f.month ∷ f.day ∷ f.hour ∷ f.minute ∷ f.second ∷ f.precision ∷ f.digits ∷ f.offset.0 ∷ 0 ∷ []

abbrev pub from_values : List ℕ → Fields
from_values l =
    record {
      year = get_or l 0 0;
      month = get_or l 1 0;
      day = get_or l 2 0;
      hour = get_or l 3 0;
      minute = get_or l 4 0;
      second = get_or l 5 0;
      precision = get_or l 6 0;
      digits = get_or l 7 0;
      offset = raw_offset (get_or l 8 0);
    }

-- each field has no more bits than its place
abbrev pub InRange : Fields → Type 0
InRange f = Within widths (values_of f)

-- the word of the fields, and the fields of a word
unfoldable pub word_of : Fields → ℕ
word_of f = join widths (values_of f)

unfoldable pub fields_of : ℕ → Fields
fields_of w = from_values (parts widths w)
