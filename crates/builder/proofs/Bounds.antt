-- What the checks 1 to 9 leave, both ways. Assumes nothing.
use mathlib.Core.Path.{◌≡◌, refl, ap}
use mathlib.Core.Bool.{false, not}
use Prim.Native.Nat.{ℕ, ◌^◌, ◌≤◌, ◌<◌}
use native.Mathlib.Omega.{arith}
use lib.IntN.{ℤ, nat_abs}
use borrow.Author.Tests.{lt-ltb, le-ltb, lt-leb, ltb-false, leb-false, ltb-true, not-false}
use Rattle.places.proofs.Decides.{Decides, le_decides, ◌and◌}
use Rattle.ion.specs.Pair.Offset.{WithinDay, is_offset}
use Rattle.std.specs.Prelude.{Ok}
use Rattle.ion.specs.Calls.Build.{precision_number, first_of, range_checks, offset_outside, to_offset, is_year}
use Rattle.ion.specs.Calls.Accepted.{InBounds}
use Rattle.ion.specs.declared.BuilderFields.{BuilderFields}
use Rattle.ion.specs.declared.BuilderOffset.{BuilderOffset}
use Rattle.ion.specs.declared.BuilderOffset.TheVariants.{Unknown, FromLocalFields, FromUtcFields}
use Rattle.ion.specs.declared.TimestampPrecision.{TimestampPrecision}
use Rattle.ion.specs.declared.TimestampPrecision.TheVariants.{Year, Month, Day, HourAndMinute, Second}
use Rattle.builder.proofs.Checks.{AllPass, pass_ok, ok_pass}

offset_is : (z : ℤ) → not (is_offset z) ≡ false → nat_abs z < 1440
offset_is z e = ltb-true (nat_abs z) 1440 (not-false (is_offset z) e)

is_offset_lem : (z : ℤ) → nat_abs z < 1440 → not (is_offset z) ≡ false
is_offset_lem z h = ap not (lt-ltb (nat_abs z) 1440 h)

within : (o : BuilderOffset) → offset_outside o ≡ false → WithinDay (to_offset o)
within Unknown e = tt
within (FromLocalFields m) e = offset_is m.0 e
within (FromUtcFields m) e = offset_is m.0 e

not_outside : (o : BuilderOffset) → WithinDay (to_offset o) → offset_outside o ≡ false
not_outside Unknown h = refl
not_outside (FromLocalFields m) h = is_offset_lem m.0 h
not_outside (FromUtcFields m) h = is_offset_lem m.0 h

in_bounds : (f : BuilderFields) → AllPass (range_checks f) → InBounds f
in_bounds f (a, (y, (mo, (d, (h, (mi, (s, (n, (o, e))))))))) =
    record {
      attoseconds = leb-false (10 ^ 18) f.attoseconds a;
      year = ltb-false 9999 f.year y;
      month = ltb-false 12 f.month mo;
      day = ltb-false 31 f.day d;
      hour = ltb-false 23 f.hour h;
      minute = ltb-false 59 f.minute mi;
      second = ltb-false 59 f.second s;
      digits = ltb-false 18 f.digits n;
      offset = within f.offset o;
    }

bounds_pass : (f : BuilderFields) → InBounds f → AllPass (range_checks f)
bounds_pass f b =
    let a = lt-leb (10 ^ 18) f.attoseconds b.attoseconds in
    let y = le-ltb 9999 f.year b.year in
    let mo = le-ltb 12 f.month b.month in
    let d = le-ltb 31 f.day b.day in
    let h = le-ltb 23 f.hour b.hour in
    let mi = le-ltb 59 f.minute b.minute in
    let s = le-ltb 59 f.second b.second in
    let n = le-ltb 18 f.digits b.digits in
    (a, (y, (mo, (d, (h, (mi, (s, (n, (not_outside f.offset b.offset, tt)))))))))

pub ranges_bounds : (f : BuilderFields) → first_of (range_checks f) ≡ Ok tt → InBounds f
ranges_bounds f e = in_bounds f (ok_pass (range_checks f) e)

pub bounds_ranges : (f : BuilderFields) → InBounds f → first_of (range_checks f) ≡ Ok tt
bounds_ranges f b = pass_ok (range_checks f) (bounds_pass f b)

pub precision_le : (p : TimestampPrecision) → precision_number p ≤ 4
precision_le Year = omega arith
precision_le Month = omega arith
precision_le Day = omega arith
precision_le HourAndMinute = omega arith
precision_le Second = omega arith

pub year_decides : (y : ℕ) → Decides (is_year y) ((1 ≤ y) × (y ≤ 9999))
year_decides y = le_decides 1 y and le_decides y 9999
