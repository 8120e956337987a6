-- The laws of the packed word, each an instance of one over every list of widths. Assumes nothing.
use mathlib.Core.Path.{◌≡◌, refl, ap, ◌∙◌}
use Prim.Native.Nat.{ℕ, ◌%◌, ◌^◌, ◌<◌}
use native.Mathlib.Nat.{mod-eq_of_lt}
use native.Mathlib.Omega.{arith}
use lib.ListN.{set}
use Rattle.ion.specs.Pair.Layout.{join, parts, field_at, Before}
use Rattle.ion.specs.Pair.Word.{widths, values_of, from_values, InRange, word_of, fields_of}
use Rattle.ion.specs.declared.Fields.{Fields}
use Rattle.packed.proofs.Joins.{parts_join, join_parts, join_lt, join_before, before_join}

-- the fields of a word, one by one
pub record Unpacked (w : ℕ) (f : Fields) : Type 0 where
  pub year : f.year ≡ field_at 50 14 w
  pub month : f.month ≡ field_at 46 4 w
  pub day : f.day ≡ field_at 41 5 w
  pub hour : f.hour ≡ field_at 36 5 w
  pub minute : f.minute ≡ field_at 30 6 w
  pub second : f.second ≡ field_at 24 6 w
  pub precision : f.precision ≡ field_at 21 3 w
  pub digits : f.digits ≡ field_at 16 5 w
  pub offset : f.offset.0 ≡ field_at 4 12 w

pub unpacked : (w : ℕ) → Unpacked w (fields_of w)
unfolding fields_of
unpacked w =
    record {
      year = refl;
      month = refl;
      day = refl;
      hour = refl;
      minute = refl;
      second = refl;
      precision = refl;
      digits = refl;
      offset = refl;
    }

-- what is read is what was put in: all the fields together
pub unpack_pack : (f : Fields) → InRange f → fields_of (word_of f) ≡ f
unfolding fields_of word_of
unpack_pack f h = ap from_values (parts_join widths (values_of f) h)

-- a word whose low four bits are 0 is assembled again from what was read out of it
pub pack_unpack : (w : ℕ) → w < 2 ^ 64 → w % 2 ^ 4 ≡ 0 → word_of (fields_of w) ≡ w
unfolding fields_of word_of
pack_unpack w h z = ap (λ (n : ℕ). join widths (set (parts widths w) 9 n)) low ∙ join_parts widths w ∙ mod-eq_of_lt h
  where
    low : 0 ≡ field_at 0 4 w
    low = omega arith

pub word_lt : (f : Fields) → InRange f → word_of f < 2 ^ 64
unfolding word_of
word_lt f h = join_lt widths (values_of f) h

pub word_low : (f : Fields) → InRange f → word_of f % 2 ^ 4 ≡ 0
unfolding word_of
word_low f h = omega arith

-- the order of words is the order of the fields, high to low
pub word_before : (f g : Fields) → InRange f → InRange g → Before (values_of f) (values_of g) → word_of f < word_of g
unfolding word_of
word_before f g hf hg b = join_before widths (values_of f) (values_of g) hf hg b

pub before_word : (f g : Fields) → InRange f → InRange g → word_of f < word_of g → Before (values_of f) (values_of g)
unfolding word_of
before_word f g hf hg l = before_join widths (values_of f) (values_of g) hf hg l
