-- The body of an accepted timestamp: its bytes tell its parts, and its parts give its fields back. Assumes nothing.
use mathlib.Core.Path.{◌≡◌, refl, sym, ap, ap₂, ◌∙◌}
use mathlib.Core.List.{[], ◌∷◌}
use Prim.Native.Nat.{ℕ, ◌*◌, ◌/◌, ◌^◌, ◌<◌}
use native.Mathlib.Nat.{div-add-mod', div-le_self}
use native.Mathlib.Omega.{arith}
use Rattle.std.specs.Prelude.{Option, None, Some}
use lib.Dec.{lit≤}
use lib.IntN.{neg_ℤ}
use Rattle.places.proofs.Below.{below_cons}
use Rattle.ion.specs.Pair.Offset.{WithinDay, raw_offset, raw_of, offset_of}
use Rattle.ion.specs.Pair.Fraction.{scale}
use Rattle.ion.specs.Calls.Accepted.{Valid, time_in}
use Rattle.ion.specs.Calls.Utc.{with_time, utc_by, utc_fields}
use Rattle.ion.specs.Value.Decode.{local_by}
use Rattle.ion.specs.declared.Fields.{Fields}
use Rattle.ion.specs.declared.offset.OffsetMinutes.{OffsetMinutes}
use Rattle.ion.proofs.Offsets.{back_and_raw}
use Rattle.calendar.proofs.Shifts.{shift_forth, shift_room}
use Rattle.fraction.proofs.Scales.{units_lt}
use Rattle.timestamp.proofs.Valid.{valid_time, valid_offset}
use Rattle.timestamp.proofs.UtcForm.{negated_within, utc_is}
use Rattle.timestamp_binary.proofs.Lengths.{fields_below}
use Rattle.value_decoder.specs.BodyParts.{body_for, Encodable, Acceptable}

module _ (f : Fields) (a : ℕ) (v : Valid f a) where
  -- ---- no more of the fraction than its digits

  coefficient_below : a / scale f.digits < 10 ^ f.digits
  coefficient_below = units_lt f.digits a v.digits v.attoseconds

  no_coefficient : f.digits ≡ 0 → a / scale f.digits ≡ 0
  no_coefficient e = let h = rw e at coefficient_below in rw e (omega arith)

  pub attoseconds_back : a / scale f.digits * scale f.digits ≡ a
  attoseconds_back = omega (arith, div-add-mod' a (scale f.digits), v.multiple)

  -- ---- the fields

  -- without an hour there is no known offset, and the UTC fields are the local ones
  unknown : f.precision < 3 → offset_of f.offset ≡ None
  unknown h = ap (λ (n : ℕ). offset_of (raw_offset n)) (v.no_offset h)

  coarse : f.precision < 3 → utc_fields f ≡ f
  unfolding utc_fields
  coarse h = ap (λ (o : Option OffsetMinutes). utc_by o f) (unknown h)

  raw_again : {o : Option OffsetMinutes} → offset_of f.offset ≡ o → raw_of o ≡ f.offset
  raw_again e = ap raw_of (sym e) ∙ back_and_raw f.offset v.offset

  -- the parts give the fields back
  pub fields_again : local_by (offset_of f.offset) (utc_fields f) ≡ f
  unfolding utc_fields
  fields_again = go (offset_of f.offset) refl (valid_offset v)
    where
      go : (o : Option OffsetMinutes) → offset_of f.offset ≡ o → WithinDay o → local_by o (utc_by o f) ≡ f
      go None e w = ap (with_time f (time_in f)) (raw_again e)
      go (Some m) e w =
          let room = shift_room (time_in f) (neg_ℤ m.0) v.from_year (negated_within m.0 w) in
          ap₂ (with_time f) (shift_forth (time_in f) m.0 (valid_time v) room) (raw_again e)

  -- ---- the parts

  pub encodable : Encodable (body_for f a)
  encodable =
      let u = utc_is v in
      let g = utc_fields f in
      record {
        within_day = valid_offset v;
        no_raw = ap raw_offset u.offset;
        precise = omega (arith, u.precision, v.precision);
        small =
            below_cons 16384 g.year (g.month ∷ g.day ∷ g.hour ∷ g.minute ∷ g.second ∷ []) (omega (arith, u.year))
            (fields_below 16384 (lit≤ tt) g u.time (omega (arith, u.second, v.second)));
        no_month = λ h. ap (λ (x : Fields). x.month) (coarse (omega (arith, u.precision))) ∙ v.no_month (omega (arith, u.precision));
        no_day = λ h. ap (λ (x : Fields). x.day) (coarse (omega (arith, u.precision))) ∙ v.no_day (omega (arith, u.precision));
        no_hour = λ h. ap (λ (x : Fields). x.hour) (coarse (omega (arith, u.precision))) ∙ v.no_hour (omega (arith, u.precision));
        no_minute = λ h. ap (λ (x : Fields). x.minute) (coarse (omega (arith, u.precision))) ∙ v.no_minute (omega (arith, u.precision));
        no_second = λ h. u.second ∙ v.no_second (omega (arith, u.precision));
        no_digits = λ h. u.digits ∙ v.no_digits (omega (arith, u.precision));
        few_digits = omega (arith, u.digits, v.digits);
        coefficient = omega (arith, div-le_self a (scale f.digits), v.attoseconds);
        no_coefficient = λ e. no_coefficient (sym u.digits ∙ e);
      }

  pub acceptable : Acceptable (body_for f a)
  acceptable =
      let u = utc_is v in
      record {
        bounds =
            record {
              time = u.time;
              year = u.year;
              second = omega (arith, u.second, v.second);
              digits = omega (arith, u.digits, v.digits);
              coefficient = rw u.digits coefficient_below;
              known_late = λ h. unknown (omega (arith, u.precision));
            };
        from_year = rw fields_again v.from_year;
        to_year = rw fields_again v.to_year;
      }
