-- Parts of a body that are acceptable are those of the fields and attoseconds that they give, which are valid. Assumes nothing.
use mathlib.Core.Path.{◌≡◌, refl, sym, ap, ap₂, ◌∙◌}
use Prim.Native.Nat.{ℕ, ◌*◌, ◌/◌, ◌^◌, ◌≤◌, ◌<◌, min}
use native.Mathlib.Nat.{mul-mod_left, mul-div_cancel}
use native.Mathlib.Omega.{arith}
use Rattle.std.specs.Prelude.{Option, None, Some}
use Rattle.ion.specs.Pair.Offset.{WithinDay, raw_offset, offset_of}
use Rattle.ion.specs.Calendar.Shift.{IsDateTime}
use Rattle.ion.specs.Pair.Word.{InRange}
use Rattle.ion.specs.Pair.Fraction.{scale}
use Rattle.ion.specs.Calls.Accepted.{Valid, time_in}
use Rattle.ion.specs.Calls.Utc.{with_time, utc_by, utc_fields}
use Rattle.ion.specs.Value.Decode.{local_by}
use Rattle.ion.specs.declared.Fields.{Fields}
use Rattle.ion.specs.declared.Body.{Body}
use Rattle.ion.specs.declared.offset.OffsetMinutes.{OffsetMinutes}
use Rattle.ion.proofs.Offsets.{raw_and_back, raw_lt}
use Rattle.calendar.proofs.Shifts.{shifted_is, shift_back}
use Rattle.calendar.proofs.FirstDay.{moved_room}
use Rattle.fraction.proofs.Capped.{scaled_low}
use Rattle.fraction.proofs.Scales.{scale_pos}
use Rattle.timestamp.proofs.Valid.{valid_in_range}
use Rattle.value_decoder.specs.BodyParts.{body_for, Encodable, UtcInBounds, Acceptable}

-- ---- local fields f of an offset o and UTC fields u

record IsLocal (o : Option OffsetMinutes) (u f : Fields) : Type 0 where
  time : IsDateTime (time_in f)
  second : f.second ≡ u.second
  precision : f.precision ≡ u.precision
  digits : f.digits ≡ u.digits
  raw : f.offset.0 < 2880
  offset : offset_of f.offset ≡ o
  utc : utc_by o f ≡ u

local_is : (o : Option OffsetMinutes) (u : Fields) → WithinDay o → IsDateTime (time_in u) → u.offset ≡ raw_offset 0
    → 1 ≤ (local_by o u).year
    → IsLocal o u (local_by o u)
local_is None u w t e y =
    record {
      time = t;
      second = refl;
      precision = refl;
      digits = refl;
      raw = omega arith;
      offset = refl;
      utc = ap (with_time u (time_in u)) (sym e);
    }
local_is (Some m) u w t e y =
    let room = moved_room (time_in u) m.0 t w y in
    record {
      time = shifted_is (time_in u) m.0 t;
      second = refl;
      precision = refl;
      digits = refl;
      raw = raw_lt (Some m) w;
      offset = raw_and_back (Some m) w;
      utc = ap₂ (with_time u) (shift_back (time_in u) m.0 t room) (sym e);
    }

-- ---- those of acceptable parts

-- the attoseconds of the parts
abbrev pub attoseconds_from : Body → ℕ
attoseconds_from x = x.coefficient * scale x.utc.digits

module _ (x : Body) (p : Encodable x) (q : Acceptable x) where
  local : IsLocal x.offset x.utc (local_by x.offset x.utc)
  local = local_is x.offset x.utc p.within_day q.bounds.time p.no_raw q.from_year

  attoseconds_low : attoseconds_from x < 10 ^ 18
  attoseconds_low =
      let b = q.bounds in
      let e : min x.utc.digits 18 ≡ x.utc.digits = omega (arith, b.digits) in
      scaled_low x.coefficient x.utc.digits (rw e b.coefficient)

  -- without an hour there is no known offset, and the local fields are the UTC ones
  coarse : (local_by x.offset x.utc).precision < 3 → local_by x.offset x.utc ≡ local_by None x.utc
  coarse h = ap (λ (o : Option OffsetMinutes). local_by o x.utc) (q.bounds.known_late (omega (arith, local.precision)))

  pub local_valid : Valid (local_by x.offset x.utc) (attoseconds_from x)
  local_valid =
      let l = local in
      let b = q.bounds in
      record {
        from_year = q.from_year;
        to_year = q.to_year;
        date = l.time.date;
        hour = omega (arith, l.time.hours);
        minute = omega (arith, l.time.minutes);
        second = omega (arith, l.second, b.second);
        precision = omega (arith, l.precision, p.precise);
        digits = omega (arith, l.digits, b.digits);
        offset = l.raw;
        attoseconds = attoseconds_low;
        multiple = rw l.digits (mul-mod_left x.coefficient (scale x.utc.digits));
        no_month = λ h. ap (λ (f : Fields). f.month) (coarse (omega arith)) ∙ p.no_month (omega (arith, l.precision));
        no_day = λ h. ap (λ (f : Fields). f.day) (coarse (omega arith)) ∙ p.no_day (omega (arith, l.precision));
        no_hour = λ h. ap (λ (f : Fields). f.hour) (coarse h) ∙ p.no_hour (omega (arith, l.precision));
        no_minute = λ h. ap (λ (f : Fields). f.minute) (coarse h) ∙ p.no_minute (omega (arith, l.precision));
        no_offset = λ h. ap (λ (f : Fields). f.offset.0) (coarse h);
        no_second = λ h. l.second ∙ p.no_second (omega (arith, l.precision));
        no_digits = λ h. l.digits ∙ p.no_digits (omega (arith, l.precision));
      }

  -- their body has these parts
  pub body_again : body_for (local_by x.offset x.utc) (attoseconds_from x) ≡ x
  unfolding utc_fields
  body_again =
      let l = local in
      let f = local_by x.offset x.utc in
      let cancel = mul-div_cancel x.coefficient (scale_pos x.utc.digits) in
      let c : attoseconds_from x / scale f.digits ≡ x.coefficient = rw l.digits cancel in
      let u : utc_by (offset_of f.offset) f ≡ x.utc = rw l.offset l.utc in
      λ i. record { offset = l.offset i; utc = u i; coefficient = c i }

-- ---- as the code has them: the local fields f of parts whose UTC fields and local year passed their tests

module _ (x : Body) (p : Encodable x) (b : UtcInBounds x) {f : Fields} (e : f ≡ local_by x.offset x.utc)
    (l : 1 ≤ f.year) (h : f.year ≤ 9999) where
  pub parts_acceptable : Acceptable x
  parts_acceptable =
      let k = ap (λ (g : Fields). g.year) e in
      record { bounds = b; from_year = omega (arith, k); to_year = omega (arith, k) }

  parts_valid : Valid f (attoseconds_from x)
  parts_valid = rw e (local_valid x p parts_acceptable)

  pub parts_in_range : InRange f
  parts_in_range = valid_in_range parts_valid

  pub parts_attoseconds : attoseconds_from x < 10 ^ 18
  parts_attoseconds = omega (arith, parts_valid.attoseconds)

-- ---- a list of laws, for the code

pub ruleset local_fields = (parts_acceptable, parts_in_range, parts_attoseconds)
