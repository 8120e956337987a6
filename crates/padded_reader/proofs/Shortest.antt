-- The writer's form of each part of a body is one of its forms, the shortest of them, and the only one of its length. Assumes nothing.
use mathlib.Core.Path.{◌≡◌, refl, sym, ap, ap₂, ◌∙◌}
use mathlib.Core.Bool.{Bool, true, false, false≢true}
use mathlib.Core.List.{List, [], ◌∷◌, ◌++◌}
use Prim.Native.Nat.{ℕ, zero, suc, ◌/◌, ◌≤◌, ◌<◌}
use native.Mathlib.Omega.{arith}
use lib.Dec.{lit<}
use lib.ListN.{length, length-append}
use Rattle.std.specs.Prelude.{Option}
use Rattle.places.specs.Places.{plain, places}
use Rattle.places.proofs.Laws.{held, zero_byte, length_places}
use Rattle.places.proofs.Below.{Below, below_take}
use Rattle.ion.specs.Numbers.VarUInt.{groups, group_count, varuint}
use Rattle.ion.specs.Numbers.VarInt.{signed_count, sign_first, signed}
use Rattle.ion.specs.Numbers.Int.{int_count, int}
use Rattle.ion.specs.Pair.Offset.{WithinDay, offset_of}
use Rattle.ion.specs.Pair.Word.{fields_of}
use Rattle.ion.specs.Pair.Pair.{word_in}
use Rattle.ion.specs.Pair.Fraction.{scale}
use Rattle.ion.specs.Calls.Accepted.{Accepted}
use Rattle.ion.specs.Calls.Utc.{utc_fields}
use Rattle.ion.specs.Value.Encode.{offset_bytes, varuints, field_list, field_count, fraction_bytes, body_from, body_of}
use Rattle.ion.specs.Value.Forms.{VarUIntForm, VarIntForm, sign_int, IntForm, OffsetForm, FieldsForm, FractionForm, BodyForm}
use Rattle.ion.specs.declared.Fields.{Fields}
use Rattle.ion.specs.declared.Timestamp.{Timestamp}
use Rattle.ion.specs.declared.offset.OffsetMinutes.{OffsetMinutes}
use Rattle.binary.proofs.VarUInts.{count_some, count_shortest, length_varuint, groups_varuint}
use Rattle.binary.proofs.VarInts.{signed_some, signed_held, signed_shortest, length_signed}
use Rattle.binary.proofs.Ints.{length_int, bytes_int, int_held, int_least, int_zero}
use Rattle.timestamp.proofs.Valid.{valid_offset}
use Rattle.timestamp.proofs.UtcForm.{utc_is}
use Rattle.timestamp_binary.proofs.BodyRuns.{no_fraction, fraction_bytes_lem}
use Rattle.value_decoder.proofs.WrittenParts.{fields_written, offset_written, fields_beside, offset_beside}
use Rattle.value_decoder.proofs.Filled.{fields_at}
use Rattle.value_decoder.proofs.UtcBody.{encodable}
use Rattle.padded_reader.proofs.NumberForms.{uint_length, uint_shortest, int_length, int_shortest}

-- ---- the writer's is a form

pub uint_form : (m : ℕ) → m < 16384 → VarUIntForm m (varuint m)
unfolding varuint
uint_form m h =
    record {
      width = group_count m;
      some = count_some m;
      most = omega (arith, count_shortest 1 m (omega arith));
      holds = held 128 (lit< tt) m;
      bytes = refl;
    }

int_form : (g : Bool) (m : ℕ) → m < 8192 → VarIntForm g m (signed g m)
unfolding signed
int_form g m h =
    record {
      width = signed_count m;
      some = signed_some m;
      most = omega (arith, signed_shortest 1 m (omega arith));
      holds = signed_held m;
      bytes = refl;
    }

coefficient_form : (c : ℕ) → IntForm false c (int c)
unfolding int
coefficient_form c = record { width = int_count c; some = λ e. absurd (false≢true e); holds = int_held c; bytes = refl }

offset_form : (o : Option OffsetMinutes) → WithinDay o → OffsetForm VarIntForm o (offset_bytes o)
offset_form = offset_written VarIntForm (λ g m h. int_form g m (omega arith))

fields_form : (l : List ℕ) → Below 16384 l → FieldsForm VarUIntForm l (varuints l)
fields_form = fields_written VarUIntForm uint_form

fraction_form : (d c : ℕ) → d ≤ 18 → (d ≡ 0 → c ≡ 0) → FractionForm d c (fraction_bytes d c)
unfolding fraction_bytes
fraction_form zero c l z = rw (z refl) FractionForm.none
fraction_form (suc d) c l z =
    rw (fraction_bytes_lem d c)
    (FractionForm.digits {h = false} (λ e. absurd (false≢true e)) (int_form true (suc d) (omega arith)) (coefficient_form c))

-- ---- the shortest, and the only one of its length

-- c is no longer than b, and is b where it is as long
pub record Least (b c : List ℕ) : Type 0 where
  pub shorter : length c ≤ length b
  pub only : length b ≡ length c → b ≡ c

least_append : {a b c d : List ℕ} → Least a c → Least b d → Least (a ++ b) (c ++ d)
least_append {a} {b} {c} {d} p q =
    record {
      shorter = omega (arith, length-append a b, length-append c d, p.shorter, q.shorter);
      only = λ e.
          let x : length a ≡ length c = omega (arith, length-append a b, length-append c d, p.shorter, q.shorter) in
          let y : length b ≡ length d = omega (arith, length-append a b, length-append c d, p.shorter, q.shorter) in
          ap₂ ◌++◌ (p.only x) (q.only y);
    }

least_nothing : (b : List ℕ) → (length b ≡ 0 → b ≡ []) → Least b []
least_nothing b h = record { shorter = omega arith; only = h }

-- bytes of their own number are those of n bytes where n is the least
least_at : {s t : List ℕ} (f : ℕ → List ℕ) (n : ℕ) → s ≡ f n → length s ≡ n → length t ≤ n → (n ≡ length t → f n ≡ t) → Least s t
least_at f n e l h same = record { shorter = omega arith; only = λ k. e ∙ same (sym l ∙ k) }

uint_least : {m : ℕ} {s : List ℕ} → VarUIntForm m s → Least s (varuint m)
uint_least {m} {s} f =
    least_at (λ (n : ℕ). groups n m) f.width f.bytes (uint_length f) (omega (arith, length_varuint m, uint_shortest f, uint_length f))
    (groups_varuint m f.width)

signed_at : (g : Bool) (m n : ℕ) → n ≡ length (signed g m) → sign_first g (groups n m) ≡ signed g m
unfolding signed
signed_at g m n e = ap (λ (k : ℕ). sign_first g (groups k m)) (e ∙ length_signed g m)

int_least_form : {g : Bool} {m : ℕ} {s : List ℕ} → VarIntForm g m s → Least s (signed g m)
int_least_form {g} {m} {s} f =
    least_at (λ (n : ℕ). sign_first g (groups n m)) f.width f.bytes (int_length f)
    (omega (arith, length_signed g m, int_shortest f, int_length f)) (signed_at g m f.width)

sign_length : (h : Bool) (s : List ℕ) → length (sign_int h s) ≡ length s
sign_length false s = refl
sign_length true [] = refl
sign_length true (b ∷ r) = refl

coefficient_length : {h : Bool} {c : ℕ} {s : List ℕ} → (f : IntForm h c s) → length s ≡ f.width
coefficient_length {h} {c} {s} f = ap length f.bytes ∙ sign_length h (places 256 plain f.width c) ∙ length_places 256 plain f.width c

coefficient_least : (h : Bool) (c : ℕ) (s : List ℕ) → (h ≡ true → c ≡ 0) → IntForm h c s → Least s (int c)
coefficient_least h c s z f =
    record { shorter = omega (arith, length_int c, coefficient_length f, int_least f.width c f.holds); only = at h z f }
  where
    at : (h : Bool) → (h ≡ true → c ≡ 0) → IntForm h c s → length s ≡ length (int c) → s ≡ int c
    at false z f e =
        f.bytes
        ∙ ap (λ (g : ℕ → ℕ). places 256 g f.width c) (sym zero_byte)
        ∙ bytes_int c f.width (sym (coefficient_length f) ∙ e)
    at true z f e =
        let k : int_count c ≡ 0 = ap int_count (z refl) ∙ int_zero in
        absurd (omega (arith, f.some refl, coefficient_length f, length_int c))

-- ---- the parts of a body

offset_least : (o : Option OffsetMinutes) (s : List ℕ) → OffsetForm VarIntForm o s → Least s (offset_bytes o)
offset_least = offset_beside Least VarIntForm (λ g m s f. int_least_form f)

fields_least : {l s : List ℕ} → FieldsForm VarUIntForm l s → Least s (varuints l)
fields_least f =
    fields_beside Least VarUIntForm (λ v s g. uint_least g) (least_nothing [] (λ e. refl)) (λ a b c d p q. least_append p q) f

fraction_least : {d c : ℕ} {s : List ℕ} → FractionForm d c s → Least s (fraction_bytes d c)
unfolding fraction_bytes
fraction_least FractionForm.none = least_nothing [] (λ e. refl)
fraction_least (FractionForm.ignored {s = s} {t = t} z f q) =
    least_nothing (s ++ t) (λ e. absurd (omega (arith, length-append s t, int_length f, f.some)))
fraction_least (FractionForm.digits {h = h} {d = d} {c = c} {s = s} {t = t} z f q) =
    rw (fraction_bytes_lem d c) (least_append (int_least_form f) (coefficient_least h c t z q))

-- ---- the body of an accepted timestamp

module _ (s : Timestamp) (p : Accepted s) where
  abbrev f : Fields
  f = fields_of (word_in s)

  pub writer_body : BodyForm f s.attoseconds (body_of s)
  unfolding body_of body_from
  writer_body =
      let c = s.attoseconds / scale f.digits in
      let u = utc_fields f in
      let x = encodable f s.attoseconds p.fields in
      let d = (utc_is p.fields).digits in
      record {
        offset_bytes = offset_bytes (offset_of f.offset);
        fields_bytes = varuints (fields_at u u.precision);
        fraction_bytes = fraction_bytes f.digits c;
        bytes = ap (λ (k : ℕ). offset_bytes (offset_of f.offset) ++ (varuints (fields_at u u.precision) ++ fraction_bytes k c)) d;
        offset = offset_form (offset_of f.offset) (valid_offset p.fields);
        fields = fields_form (fields_at u u.precision) (below_take 16384 (field_count u.precision) (field_list u) (lit< tt) x.small);
        fraction = fraction_form f.digits c p.fields.digits (λ e. x.no_coefficient (d ∙ e));
        late = λ h. no_fraction f.digits c (p.fields.no_digits h);
      }

  pub body_least : (b : List ℕ) → BodyForm f s.attoseconds b → Least b (body_of s)
  unfolding body_of body_from
  body_least b w =
      rw (w.bytes, (utc_is p.fields).digits)
      (least_append (offset_least (offset_of f.offset) w.offset_bytes w.offset)
      (least_append (fields_least w.fields) (fraction_least w.fraction)))
