-- The body of a timestamp in any of its forms is read as that timestamp, and whatever is read is such a body. Assumes nothing.
use mathlib.Core.Path.{◌≡◌, refl, sym, ap, subst, ◌∙◌}
use mathlib.Core.Bool.{Bool, true, false, cond}
use mathlib.Core.List.{List, [], ◌++◌}
use Prim.Native.Nat.{ℕ, ◌/◌, ◌^◌, ◌<◌}
use native.Mathlib.Omega.{arith}
use native.Mathlib.Nat.{div-le_self}
use lib.Dec.{lit<}
use lib.ListN.{length}
use Rattle.std.specs.Prelude.{Option, None, Some, Result, Ok, Err, option_and_then}
use Rattle.std.specs.Option.{option_map}
use Rattle.places.proofs.Below.{Below, below_take, below_after}
use Rattle.ion.specs.Numbers.PaddedNumbers.{padded_int_sign, padded_int_magnitude}
use Rattle.ion.specs.Pair.Offset.{offset_of}
use Rattle.ion.specs.Pair.Word.{fields_of}
use Rattle.ion.specs.Pair.Pair.{word_in}
use Rattle.ion.specs.Pair.Fraction.{scale, decimal}
use Rattle.ion.specs.Calls.Accepted.{Valid, Accepted}
use Rattle.ion.specs.Calls.Utc.{utc_fields}
use Rattle.ion.specs.Value.Encode.{field_list, field_count}
use Rattle.ion.specs.Value.Decode.{Numbers, Parts, is_field_count, after_fields, after_offset, from_offset, decode_offset, decode_fields}
use Rattle.ion.specs.Value.Decode.{decode_parts, body_in, body_by, local_by, pair_from}
use Rattle.ion.specs.Value.Forms.{VarUIntForm, VarIntForm, BodyForm}
use Rattle.ion.specs.Value.ReadPaddedValue.{padded, decode_padded_fraction, stamp_from, read_padded_body}
use Rattle.ion.specs.declared.Decimal.{Decimal}
use Rattle.ion.specs.declared.Fields.{Fields}
use Rattle.ion.specs.declared.Body.{Body}
use Rattle.ion.specs.declared.offset.OffsetMinutes.{OffsetMinutes}
use Rattle.ion.specs.declared.Timestamp.{Timestamp}
use Rattle.ion.specs.declared.refusal.Refusal.{Refusal}
use Rattle.ion.specs.declared.refusal.Refusal.TheVariants as refusal
use Rattle.packed.proofs.Words.{unpack_pack}
use Rattle.timestamp.proofs.Valid.{valid_in_range, valid_accepted}
use Rattle.timestamp.proofs.UtcForm.{utc_is}
use Rattle.value_decoder.specs.BodyParts.{body_for, Encodable, Acceptable, is_acceptable, parts_answer, stamp_by}
use Rattle.value_decoder.proofs.Filled.{filled_is, encodable_with, fields_at, restored, restored_fields}
use Rattle.value_decoder.proofs.UtcBody.{encodable, acceptable}
use Rattle.value_decoder.proofs.LocalFields.{attoseconds_from, local_valid, body_again}
use Rattle.value_decoder.proofs.PartsTested.{acceptable_decides}
use Rattle.value_decoder.proofs.Exact.{Exact, found_one, Decodes, parts_back, parts_is}
use Rattle.value_decoder.proofs.ReadBy.{given_one}
use Rattle.value_reader.proofs.Values.{pair_back}
use Rattle.padded_reader.specs.Fractions.{coefficient_units, padded_fraction}
use Rattle.padded_reader.proofs.NumberForms.{uint_length, uint_read, int_read}
use Rattle.padded_reader.proofs.NumbersRead.{uint_is, int_is}
use Rattle.padded_reader.proofs.FractionForms.{fraction_back, FractionIs, fraction_is}
use Rattle.padded_reader.proofs.BuiltParts.{local_same, with_units, stamp_is}

exact : Exact padded VarUIntForm VarIntForm
exact =
    record {
      uint_some = λ m s f. omega (arith, uint_length f, f.some);
      uint_back = uint_read;
      uint_is = uint_is;
      int_back = int_read;
      int_is = int_is;
    }

-- ---- the definition's answer to what is decoded

no_digits : (t : List ℕ) (q : Decimal) → t ≡ [] → decode_padded_fraction t ≡ Some q → (decimal q).digits ≡ 0
unfolding decode_padded_fraction
no_digits t q e f = found_one (λ (x : Decimal). (decimal x).digits ≡ 0) (rw e at f) refl

decoded_stamp : (y : Parts Decimal) (b : List ℕ) → Decodes exact decode_padded_fraction y b
    → stamp_from (Some y) ≡ parts_answer (with_units y (coefficient_units y.fraction))
decoded_stamp y b w = stamp_is y w.within w.most w.counted w.small (λ h. no_digits w.fraction_bytes y.fraction (w.fewer h) w.found)

none_before : (t : List ℕ) (d c : ℕ) → t ≡ [] → padded_fraction t ≡ Some (d, c) → d ≡ 0
unfolding padded_fraction decode_padded_fraction padded_int_sign padded_int_magnitude
none_before t d c e f = found_one (λ (x : ℕ × ℕ). x.0 ≡ 0) (rw e at f) refl

-- ---- and the code's, which has digits and a coefficient in place of the decimal

-- a fraction that is looked at again
module _ (num : Numbers) {A B : Type 0} (fraction : List ℕ → Option A) (again : A → Option B) where
  abbrev twice : List ℕ → Option B
  twice t = option_and_then again (fraction t)

  abbrev parts_again : Parts A → Option (Parts B)
  parts_again y = option_map (λ (q : B). record { offset = y.offset; fields = y.fields; fraction = q }) (again y.fraction)

  fraction_twice : (o : Option OffsetMinutes) (l : List ℕ) (q : Option A)
      → after_fields num twice o l (option_and_then again q) ≡ option_and_then parts_again (after_fields num fraction o l q)
  fraction_twice o l None = refl
  fraction_twice o l (Some q) = go (again q)
    where
      go : (x : Option B)
          → after_fields num twice o l x ≡ option_map (λ (z : B). record { offset = o; fields = l; fraction = z }) x
      go None = refl
      go (Some x) = refl

  parts_twice : (b : List ℕ) → decode_parts num twice b ≡ option_and_then parts_again (decode_parts num fraction b)
  unfolding decode_parts
  parts_twice b = first (decode_offset num b)
    where
      third : (o : Option OffsetMinutes) (p : List ℕ × List ℕ) (c : Bool)
          → cond c (after_fields num twice o p.0 (twice p.1)) None
          ≡ option_and_then parts_again (cond c (after_fields num fraction o p.0 (fraction p.1)) None)
      third o p true = fraction_twice o p.0 (fraction p.1)
      third o p false = refl

      second : (o : Option OffsetMinutes) (q : Option (List ℕ × List ℕ))
          → after_offset num twice o q ≡ option_and_then parts_again (after_offset num fraction o q)
      second o None = refl
      second o (Some p) = third o p (is_field_count (length p.0))

      first : (q : Option (Option OffsetMinutes × List ℕ))
          → from_offset num twice q ≡ option_and_then parts_again (from_offset num fraction q)
      first None = refl
      first (Some p) = second p.0 (decode_fields num 6 p.1)

bodies_again : (q : Option (Parts Decimal))
    → option_map body_in (option_and_then (parts_again padded decode_padded_fraction coefficient_units) q)
    ≡ option_and_then (λ (y : Parts Decimal). with_units y (coefficient_units y.fraction)) q
bodies_again None = refl
bodies_again (Some y) = go (coefficient_units y.fraction)
  where
    go : (x : Option (ℕ × ℕ))
        → option_map body_in (option_map (λ (q : ℕ × ℕ). record { offset = y.offset; fields = y.fields; fraction = q }) x) ≡ with_units y x
    go None = refl
    go (Some x) = refl

body_again_by : (b : List ℕ) → body_by padded padded_fraction b
    ≡ option_and_then (λ (y : Parts Decimal). with_units y (coefficient_units y.fraction)) (decode_parts padded decode_padded_fraction b)
unfolding padded_fraction
body_again_by b =
    ap (option_map body_in) (parts_twice padded decode_padded_fraction coefficient_units b)
    ∙ bodies_again (decode_parts padded decode_padded_fraction b)

pub stamp_same : (b : List ℕ) → Below 256 b → stamp_by padded padded_fraction b ≡ read_padded_body b
unfolding stamp_by read_padded_body
stamp_same b h = ap parts_answer (body_again_by b) ∙ go (decode_parts padded decode_padded_fraction b) refl
  where
    go : (q : Option (Parts Decimal)) → decode_parts padded decode_padded_fraction b ≡ q
        → parts_answer (option_and_then (λ (y : Parts Decimal). with_units y (coefficient_units y.fraction)) q) ≡ stamp_from q
    go None e = refl
    go (Some y) e = sym (decoded_stamp y b (parts_is exact decode_padded_fraction b y h e))

-- ---- a form is read

-- the decimal of a fraction that is read as digits and a coefficient
record DecimalOf (t : List ℕ) (u : ℕ × ℕ) : Type 0 where
  is : Decimal
  found : decode_padded_fraction t ≡ Some is
  units : coefficient_units is ≡ Some u

decimal_from_units : (t : List ℕ) (u : ℕ × ℕ) → padded_fraction t ≡ Some u → DecimalOf t u
unfolding padded_fraction
decimal_from_units t u e = go (decode_padded_fraction t) refl e
  where
    go : (q : Option Decimal) → decode_padded_fraction t ≡ q → option_and_then coefficient_units q ≡ Some u → DecimalOf t u
    go None f e = absurd cc
    go (Some q) f e = record { is = q; found = f; units = e }

module _ (f : Fields) (a : ℕ) (v : Valid f a) (b : List ℕ) (w : BodyForm f a b) where
  abbrev x : Body
  x = body_for f a

  there : List ℕ
  there = fields_at (utc_fields f) (utc_fields f).precision

  -- the fraction, with the digits of the UTC fields
  units : padded_fraction w.fraction_bytes ≡ Some ((utc_fields f).digits, a / scale f.digits)
  units =
      let low : a / scale f.digits < 2 ^ 64 = omega (arith, div-le_self a (scale f.digits), v.attoseconds) in
      fraction_back f.digits (a / scale f.digits) w.fraction_bytes v.digits low w.fraction
      ∙ ap (λ (d : ℕ). Some (d, a / scale f.digits)) (sym (utc_is v).digits)

  q : DecimalOf w.fraction_bytes ((utc_fields f).digits, a / scale f.digits)
  q = decimal_from_units w.fraction_bytes ((utc_fields f).digits, a / scale f.digits) units

  parts : Parts Decimal
  parts = record { offset = offset_of f.offset; fields = there; fraction = q.is }

  stands : Decodes exact decode_padded_fraction parts b
  unfolding parts there
  stands =
      let p = encodable f a v in
      let r = restored x p in
      let u = utc_is v in
      record {
        offset_bytes = w.offset_bytes;
        fields_bytes = w.fields_bytes;
        fraction_bytes = w.fraction_bytes;
        bytes = w.bytes;
        offset = w.offset;
        within = p.within_day;
        fields = w.fields;
        small = below_take 16384 (field_count (utc_fields f).precision) (field_list (utc_fields f)) (lit< tt) p.small;
        most = r.number.most;
        counted = r.counted;
        fewer = λ h. w.late (omega (arith, u.precision, r.number.fewer h));
        found = q.found;
      }

  parts_units : with_units parts (coefficient_units parts.fraction) ≡ Some x
  unfolding parts there
  parts_units =
      ap (with_units parts) q.units
      ∙ ap (λ (u : Fields). Some (record { offset = offset_of f.offset; utc = u; coefficient = a / scale f.digits }))
      (restored_fields x (encodable f a v))

  form_stamp : read_padded_body b ≡ Ok (pair_from x)
  unfolding read_padded_body
  form_stamp =
      ap stamp_from (parts_back exact decode_padded_fraction parts b stands)
      ∙ decoded_stamp parts b stands
      ∙ ap parts_answer parts_units
      ∙ rw ((acceptable_decides x).1 (acceptable f a v))

-- a form of an accepted timestamp's body
pub body_read : (s : Timestamp) → Accepted s → (b : List ℕ) → BodyForm (fields_of (word_in s)) s.attoseconds b
    → read_padded_body b ≡ Ok s
body_read s p b w = form_stamp (fields_of (word_in s)) s.attoseconds p.fields b w ∙ ap Ok (pair_back s p)

-- ---- what is read is in a form

pub record BodyOf (s : Timestamp) (b : List ℕ) : Type 0 where
  pub accepted : Accepted s
  pub form : BodyForm (fields_of (word_in s)) s.attoseconds b

module _ (b : List ℕ) (below : Below 256 b) (y : Parts (ℕ × ℕ)) (w : Decodes exact padded_fraction y b) where
  fraction : FractionIs w.fraction_bytes y.fraction.0 y.fraction.1
  fraction =
      let after = below_after 256 b w.offset_bytes (w.fields_bytes ++ w.fraction_bytes) w.bytes below in
      let low = below_after 256 (w.fields_bytes ++ w.fraction_bytes) w.fields_bytes w.fraction_bytes refl after in
      fraction_is w.fraction_bytes y.fraction.0 y.fraction.1 low w.found

  code : Encodable (body_in y)
  code =
      let q = fraction in
      encodable_with y.offset y.fields y.fraction.0 y.fraction.1 w.within w.most w.counted w.small (omega (arith, q.few)) q.low q.none
      (λ z. none_before w.fraction_bytes y.fraction.0 y.fraction.1 (w.fewer z) w.found)

  module _ (k : Acceptable (body_in y)) where
    local : Fields
    local = local_by (body_in y).offset (body_in y).utc

    valid : Valid local (attoseconds_from (body_in y))
    unfolding local
    valid = local_valid (body_in y) code k

    form : BodyForm local (attoseconds_from (body_in y)) b
    unfolding local
    form =
        let again = body_again (body_in y) code k in
        let same = local_same (body_in y).offset (body_in y).utc in
        let there = filled_is y.fields y.fraction.0 w.most w.counted in
        let offset = ap (λ (x : Body). x.offset) again in
        let utc = ap (λ (x : Body). x.utc) again in
        let coefficient = ap (λ (x : Body). x.coefficient) again in
        record {
          offset_bytes = w.offset_bytes;
          fields_bytes = w.fields_bytes;
          fraction_bytes = w.fraction_bytes;
          bytes = w.bytes;
          offset = rw offset w.offset;
          fields = rw (utc, there.0) w.fields;
          fraction = rw (coefficient, same.0) fraction.form;
          late = λ z. w.fewer (there.1.fewer (omega (arith, same.1)));
        }

    body_of : BodyOf (pair_from (body_in y)) b
    unfolding pair_from local
    body_of =
        record {
          accepted = valid_accepted valid;
          form =
              subst (λ (g : Fields). BodyForm g (attoseconds_from (body_in y)) b) (sym (unpack_pack local (valid_in_range valid))) form;
        }

pub body_exact : (s : Timestamp) (b : List ℕ) → Below 256 b → read_padded_body b ≡ Ok s → BodyOf s b
unfolding stamp_by
body_exact s b h e = go (decode_parts padded padded_fraction b) refl (stamp_same b h ∙ e)
  where
    test : (y : Parts (ℕ × ℕ)) → Decodes exact padded_fraction y b → (t : Bool) → is_acceptable (body_in y) ≡ t
        → cond {A = Result Timestamp Refusal} t (Ok (pair_from (body_in y))) (Err refusal.Body) ≡ Ok s → BodyOf s b
    test y w true k e = given_one (λ (x : Timestamp). BodyOf x b) e (body_of b h y w ((acceptable_decides (body_in y)).0 k))
    test y w false k e = absurd cc

    go : (q : Option (Parts (ℕ × ℕ))) → decode_parts padded padded_fraction b ≡ q → parts_answer (option_map body_in q) ≡ Ok s → BodyOf s b
    go (Some y) f e = test y (parts_is exact padded_fraction b y h f) _ refl e
    go None f e = absurd cc
