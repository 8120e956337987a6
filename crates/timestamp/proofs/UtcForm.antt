-- The UTC form of valid fields: a date and a time in a year from 0 to 10000, which fits the word. Assumes nothing.
use mathlib.Core.Path.{◌≡◌, refl, sym, ap, ◌∙◌}
use Prim.Native.Nat.{ℕ, ◌≤◌, ◌<◌}
use native.Mathlib.Omega.{arith}
use lib.IntN.{ℤ, neg_ℤ, nat_abs}
use Rattle.std.specs.Prelude.{Option, None, Some}
use Rattle.integers.proofs.Parts.{size_neg}
use Rattle.ion.specs.Calendar.Shift.{IsDateTime}
use Rattle.ion.specs.Pair.Offset.{WithinDay, raw_of, offset_of}
use Rattle.ion.specs.Pair.Word.{InRange}
use Rattle.ion.specs.Calls.Accepted.{Valid, time_in}
use Rattle.ion.specs.Calls.Utc.{utc_by, utc_fields}
use Rattle.ion.specs.declared.Fields.{Fields}
use Rattle.ion.specs.declared.offset.RawOffset.{RawOffset}
use Rattle.ion.specs.declared.offset.OffsetMinutes.{OffsetMinutes}
use Rattle.ion.proofs.Offsets.{back_and_raw}
use Rattle.calendar.proofs.Shifts.{shifted_is, shifted_year}
use Rattle.builder.proofs.Times.{fields_in_range}
use Rattle.timestamp.proofs.Accepts.{check_gives}
use Rattle.timestamp.proofs.Valid.{valid_time, valid_offset}

-- the opposite of less than a day is less than a day
pub negated_within : (z : ℤ) → nat_abs z < 1440 → nat_abs (neg_ℤ z) < 1440
negated_within z h = omega (arith, size_neg z)

-- what the offset leaves of the fields, and what it makes of the others
pub record IsUtc (f g : Fields) : Type 0 where
  pub time : IsDateTime (time_in g)
  pub year : g.year ≤ 10000
  pub second : g.second ≡ f.second
  pub precision : g.precision ≡ f.precision
  pub digits : g.digits ≡ f.digits
  pub offset : g.offset.0 ≡ 0

moved : {f : Fields} {a : ℕ} (o : Option OffsetMinutes) → offset_of f.offset ≡ o → Valid f a → WithinDay o → IsUtc f (utc_by o f)
moved {f} None e v w =
    record {
      time = valid_time v;
      year = omega (arith, v.to_year);
      second = refl;
      precision = refl;
      digits = refl;
      offset = ap (λ (r : RawOffset). r.0) (sym (back_and_raw f.offset v.offset) ∙ ap raw_of e);
    }
moved {f} (Some m) e v w =
    let n = negated_within m.0 w in
    let p = valid_time v in
    record {
      time = shifted_is (time_in f) (neg_ℤ m.0) p;
      year = shifted_year (time_in f) (neg_ℤ m.0) p v.from_year v.to_year n;
      second = refl;
      precision = refl;
      digits = refl;
      offset = refl;
    }

pub utc_is : {f : Fields} {a : ℕ} → Valid f a → IsUtc f (utc_fields f)
unfolding utc_fields
utc_is {f} v = moved (offset_of f.offset) refl v (valid_offset v)

pub utc_in_range : {f : Fields} {a : ℕ} → Valid f a → InRange (utc_fields f)
utc_in_range {f} v =
    let u = utc_is v in
    fields_in_range (utc_fields f) u.time u.year (omega (arith, u.second, v.second)) (omega (arith, u.precision, v.precision))
    (omega (arith, u.digits, v.digits)) (omega (arith, u.offset))

-- for the code
pub ruleset utc_form = (check_gives, valid_time, valid_offset, utc_in_range)
