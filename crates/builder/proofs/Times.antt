-- The local time of fields that pass the builder's checks. Assumes nothing.
use mathlib.Core.Path.{◌≡◌, refl, sym, ap, ◌∙◌}
use mathlib.Core.Bool.{true}
use Prim.Native.Nat.{ℕ, ◌≤◌, ◌<◌}
use native.Mathlib.Omega.{arith}
use lib.IntN.{pos, neg_ℤ}
use borrow.Author.Tests.{not-false}
use borrow.Author.Differences.{neg_is}
use Rattle.std.specs.Prelude.{Option, Result, Ok, Err}
use Rattle.std.specs.Result.{result_and}
use Rattle.ion.specs.Calendar.Shift.{IsDateTime, date_of, shifted}
use Rattle.ion.specs.Pair.Offset.{WithinDay, offset_minutes}
use Rattle.ion.specs.Pair.Word.{InRange}
use Rattle.ion.specs.Calls.Build.{precision_number, is_year, is_day, route_checks, local_checks, given_time, moved_time, local_time}
use Rattle.ion.specs.Calls.Build.{first_of, range_checks, packed_of, build_checks, build_of}
use Rattle.ion.specs.Calls.Accepted.{InBounds, Staged, date_in, time_in}
use Rattle.ion.specs.declared.DateTime.{DateTime}
use Rattle.ion.specs.declared.Fields.{Fields}
use Rattle.ion.specs.declared.BuilderFields.{BuilderFields}
use Rattle.ion.specs.declared.BuilderOffset.{BuilderOffset}
use Rattle.ion.specs.declared.BuilderOffset.TheVariants.{Unknown, FromLocalFields, FromUtcFields}
use Rattle.ion.specs.declared.TimestampPrecision.TheVariants.{Year}
use Rattle.ion.specs.declared.offset.OffsetMinutes.{OffsetMinutes}
use Rattle.ion.specs.declared.refusal.Refusal.{Refusal}
use Rattle.ion.specs.declared.refusal.Refusal.TheVariants as refusal
use Rattle.ion.proofs.Offsets.{raw_lt}
use Rattle.calendar.proofs.Dates.{is_date_lem, first_day_is, month_of_lem, day_of_lem}
use Rattle.calendar.proofs.Shifts.{shifted_is}
use Rattle.calendar.proofs.FirstDay.{year_zero_back}
use Rattle.builder.proofs.Checks.{AllPass, ok_pass}
use Rattle.builder.proofs.Bounds.{ranges_bounds, bounds_ranges, precision_le, year_decides}
use Rattle.builder.proofs.Routed.{routed, checks_routed, build_routed}

-- fields in bounds with such a calendar day are a date and a time
pub time_is : (f : BuilderFields) → InBounds f → is_day f ≡ true → IsDateTime (given_time f)
time_is f b e =
    record { date = is_date_lem (date_of (given_time f)) e; hours = omega (arith, b.hour); minutes = omega (arith, b.minute) }

-- check 10 is for a month or finer: it never refuses a year alone
pub year_alone : (b : BuilderFields) → Staged b → b.precision ≡ Year → is_day b ≡ true
year_alone b s e =
    let p = ap precision_number e in
    let m : b.month ≡ 1 = s.month (omega (arith, p)) in
    let d : b.day ≡ 1 = s.day (omega (arith, p)) in
    simp (m, d) (first_day_is b.year)

-- fields within their bounds, in a year up to 10000, have room in the word
pub fields_in_range : (f : Fields) → IsDateTime (time_in f) → f.year ≤ 10000 → f.second ≤ 59 → f.precision ≤ 4 → f.digits ≤ 18
    → f.offset.0 < 2880 → InRange f
fields_in_range f p y s q d o = omega (arith, month_of_lem (date_in f) p.date, day_of_lem (date_in f) p.date, p.hours, p.minutes)

pub time_in_range : (f : BuilderFields) (t : DateTime) (o : Option OffsetMinutes) → InBounds f → IsDateTime t → t.year ≤ 10000 → WithinDay o
    → InRange (packed_of f t o)
time_in_range f t o b p y w = fields_in_range (packed_of f t o) p y b.second (precision_le f.precision) b.digits (raw_lt o w)

-- a date and a time in a year from 1 to 9999
pub record IsLocalTime (t : DateTime) : Type 0 where
  pub time : IsDateTime t
  pub from_year : 1 ≤ t.year
  pub to_year : t.year ≤ 9999

given_is : (f : BuilderFields) → InBounds f → AllPass (local_checks f) → IsLocalTime (given_time f)
given_is f b h =
    let y = (year_decides f.year).0 (not-false (is_year f.year) h.0) in
    record { time = time_is f b (not-false (is_day f) h.1.0); from_year = y.0; to_year = y.1 }

-- the local time, on either route
local_is : (f : BuilderFields) (o : BuilderOffset) → InBounds f → AllPass (route_checks f o) → IsLocalTime (local_time f o)
local_is f Unknown b h = given_is f b h
local_is f (FromLocalFields m) b h = given_is f b h
local_is f (FromUtcFields m) b h =
    let p = time_is f b (not-false (is_day f) h.0) in
    let y = (year_decides (moved_time f m).year).0 (not-false (is_year (moved_time f m).year) h.1.0) in
    record { time = shifted_is (given_time f) m.0 p; from_year = y.0; to_year = y.1 }

-- both checks pass where one after the other does
both_ok : (a b : Result Unit Refusal) → result_and a b ≡ Ok tt → (a ≡ Ok tt) × (b ≡ Ok tt)
both_ok (Ok tt) b e = (refl, e)
both_ok (Err r) b e = absurd cc

-- what the builder accepts
pub build_local : (f : BuilderFields) → build_checks f ≡ Ok tt → InBounds f × IsLocalTime (local_time f f.offset)
build_local f e =
    let r = route_checks f f.offset in
    let h = both_ok (first_of (range_checks f)) (first_of r) (sym (checks_routed f) ∙ e) in
    let i = ranges_bounds f h.0 in
    (i, local_is f f.offset i (ok_pass r h.1))

-- fields of UTC year 0 and an offset of n minutes back: the local year is 0 too
pub year_zero_refused : (f : BuilderFields) (n : ℕ) → InBounds f → is_day f ≡ true → f.year ≡ 0
    → f.offset ≡ FromUtcFields (offset_minutes (neg_ℤ (pos n))) → build_of f ≡ Err refusal.LocalYear
year_zero_refused f n b d y e =
    let z = neg_ℤ (pos n) in
    let k : (shifted (given_time f) z).year ≡ 0 =
    year_zero_back (given_time f) z (omega (arith, b.hour)) (omega (arith, b.minute)) y (neg_is (pos n)).0 in
    build_routed f
    ∙ ap (λ (c : Result Unit Refusal). result_and c (routed f f.offset)) (bounds_ranges f b)
    ∙ ap (routed f) e
    ∙ simp (d, k)
