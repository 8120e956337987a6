-- The shortest forms as forms: they are read exactly, and so a body of parts that their bytes give back is read, and whatever is read is
-- one. Assumes nothing.
use mathlib.Core.Path.{◌≡◌, refl, sym, ap, ap₂, ◌∙◌}
use mathlib.Core.Bool.{Bool, true, false, cond, ◌&&◌, and-eq-true_iff}
use mathlib.Core.List.{List, [], ◌∷◌, ◌++◌}
use Prim.Native.Nat.{ℕ, zero, suc, ◌^◌, ◌≤◌, ◌<◌}
use native.Mathlib.Omega.{arith}
use borrow.Author.Tests.{lt-ltb, ltb-true}
use lib.Dec.{ltb, lit<}
use lib.ListN.{length, take, drop, length-append}
use lib.Seq.{take_at, drop-append_seam}
use Rattle.std.specs.Prelude.{Option, None, Some, Result, Ok, Err}
use Rattle.std.specs.Option.{option_map}
use Rattle.places.proofs.Below.{Below, below_take, below_drop, below_after}
use Rattle.ion.specs.Numbers.VarUInt.{varuint, read_var_uint}
use Rattle.ion.specs.Numbers.VarInt.{signed, signed_magnitude, read_var_int}
use Rattle.ion.specs.Numbers.Int.{int, read_int}
use Rattle.ion.specs.Pair.Offset.{WithinDay}
use Rattle.ion.specs.Value.Encode.{offset_bytes, varuints, field_list, field_count, fraction_bytes, body_from}
use Rattle.ion.specs.Value.Decode.{Parts, decode_parts, body_in}
use Rattle.ion.specs.Value.Decode.{shortest, coefficient_from, fraction_from, decode_fraction, decode_body}
use Rattle.ion.specs.Value.Forms.{OffsetForm, FieldsForm}
use Rattle.ion.specs.declared.Fields.{Fields}
use Rattle.ion.specs.declared.Body.{Body}
use Rattle.ion.specs.declared.number.NumberError.{NumberError}
use Rattle.ion.specs.declared.number.SignedMagnitude.{SignedMagnitude}
use Rattle.ion.specs.declared.offset.OffsetMinutes.{OffsetMinutes}
use Rattle.binary.proofs.VarUInts.{read_varuint, read_varuint_is, read_within, length_varuint, count_some}
use Rattle.binary.proofs.VarInts.{read_signed, read_signed_is, read_signed_within, length_signed, signed_some}
use Rattle.binary.proofs.Ints.{read_int_lem, read_int_is}
use Rattle.timestamp_binary.proofs.BodyRuns.{no_fraction, fraction_bytes_lem}
use Rattle.value_decoder.specs.BodyParts.{Encodable}
use Rattle.value_decoder.proofs.Filled.{filled_is, encodable_with, fields_at, restored, restored_fields}
use Rattle.value_decoder.proofs.WrittenParts.{fields_written, offset_written, fields_beside, offset_beside}
use Rattle.value_decoder.proofs.Exact.{Exact, found_one, Decodes, parts_back, parts_is}
use Rattle.value_reader.proofs.FormSteps.{fraction_next}

-- ---- numbers

abbrev UInt : ℕ → List ℕ → Type 0
UInt m s = s ≡ varuint m

abbrev Int : Bool → ℕ → List ℕ → Type 0
Int g m s = s ≡ signed g m

-- the j first bytes, where they are those of t
first : (t s : List ℕ) (j : ℕ) → j ≡ length t → s ≡ t ++ drop j s → take j s ≡ t
first t s j l e = ap (take j) e ∙ take_at t (drop j s) j (sym l)

exact : Exact shortest UInt Int
exact =
    record {
      uint_some = λ m s e. omega (arith, ap length e, length_varuint m, count_some m);
      uint_back = λ l m s r h e.
          ap (λ (x : List ℕ). read_var_uint l (x ++ r)) e
          ∙ read_varuint l m r h
          ∙ ap (λ (k : ℕ). Ok (m, k)) (sym (ap length e ∙ length_varuint m));
      uint_is = λ l s m j b e.
          let q = read_varuint_is l s m j b e in
          let w = read_within l s m j e in
          record { limited = q.0; some = w.0; within = w.1; form = first (varuint m) s j (q.1 ∙ sym (length_varuint m)) q.2 };
      int_back = λ l g m s r h e.
          ap (λ (x : List ℕ). read_var_int l (x ++ r)) e
          ∙ read_signed l g m r h
          ∙ ap (λ (k : ℕ). Ok (signed_magnitude g m, k)) (ap length (sym e));
      int_is = λ l s g m j b e.
          let q = read_signed_is l s g m j b e in
          let w = read_signed_within l s g m j e in
          record { limited = q.0; some = w.0; within = w.1; form = first (signed g m) s j (q.1 ∙ sym (length_signed g m)) q.2 };
    }

-- ---- the offset and the fields

offset_form : (o : Option OffsetMinutes) → WithinDay o → OffsetForm Int o (offset_bytes o)
offset_form = offset_written Int (λ g m h. refl)

form_offset : (o : Option OffsetMinutes) (s : List ℕ) → OffsetForm Int o s → s ≡ offset_bytes o
form_offset = offset_beside (λ (s t : List ℕ). s ≡ t) Int (λ g m s e. e)

fields_form : (l : List ℕ) → Below 16384 l → FieldsForm UInt l (varuints l)
fields_form = fields_written UInt (λ v h. refl)

form_fields : {l s : List ℕ} → FieldsForm UInt l s → s ≡ varuints l
form_fields f = fields_beside (λ (s t : List ℕ). s ≡ t) UInt (λ v s e. e) refl (λ a b c d e f. ap₂ ◌++◌ e f) f

-- ---- the fraction

fraction_back : (d c : ℕ) → d ≤ 63 → c < 2 ^ 64 → (d ≡ 0 → c ≡ 0) → decode_fraction (fraction_bytes d c) ≡ Some (d, c)
unfolding decode_fraction fraction_bytes
fraction_back zero c h l z = ap (λ (x : ℕ). Some (0, x)) (sym (z refl))
fraction_back (suc d) c h l z =
    let e = signed true (suc d) in
    let s = e ++ int c in
    ap decode_fraction (fraction_bytes_lem d c)
    ∙ fraction_next s (omega (arith, length-append e (int c), length_signed true (suc d), signed_some (suc d)))
    ∙ ap (fraction_from s) (read_signed 63 true (suc d) (int c) h)
    ∙ rw (lt-ltb 0 (suc d) (omega arith), drop-append_seam e (int c), read_int_lem c l)

record FractionIs (s : List ℕ) (d c : ℕ) : Type 0 where
  bytes : s ≡ fraction_bytes d c
  few : d ≤ 63
  coefficient : c < 2 ^ 64
  none : d ≡ 0 → c ≡ 0

fraction_is : (s : List ℕ) (d c : ℕ) → Below 256 s → decode_fraction s ≡ Some (d, c) → FractionIs s d c
unfolding decode_fraction fraction_bytes
fraction_is [] d c h e =
    found_one (λ (p : ℕ × ℕ). FractionIs [] p.0 p.1) e
    (record { bytes = refl; few = omega arith; coefficient = lit< tt; none = λ q. refl })
fraction_is (b ∷ s) d c h e = first (read_var_int 63 (b ∷ s)) refl e
  where
    third : (m n : ℕ) → m ≤ 63 → (b ∷ s) ≡ signed true m ++ drop n (b ∷ s) → 0 < m → (x : Option ℕ) → read_int (drop n (b ∷ s)) ≡ x
        → coefficient_from m x ≡ Some (d, c) → FractionIs (b ∷ s) d c
    third zero n l f p x g e = absurd (omega arith)
    third (suc m) n l f p (Some k) g e =
        let r = read_int_is (drop n (b ∷ s)) k (below_drop 256 n (b ∷ s) h) g in
        found_one (λ (q : ℕ × ℕ). FractionIs (b ∷ s) q.0 q.1) e
        (record {
          bytes = f ∙ ap (λ (t : List ℕ). signed true (suc m) ++ t) r.1 ∙ sym (fraction_bytes_lem m k);
          few = l;
          coefficient = r.0;
          none = λ q. absurd (omega arith);
        })
    third (suc m) n l f p None g e = absurd cc

    second : (g : Bool) (m n : ℕ) → read_var_int 63 (b ∷ s) ≡ Ok (signed_magnitude g m, n) → (t : Bool) → (g && ltb 0 m) ≡ t
        → cond t (coefficient_from m (read_int (drop n (b ∷ s)))) None ≡ Some (d, c) → FractionIs (b ∷ s) d c
    second g m n f true et e =
        let q = (and-eq-true_iff g (ltb 0 m)).0 et in
        let r = read_signed_is 63 (b ∷ s) g m n h f in
        let bytes = r.2 ∙ ap (λ (x : Bool). signed x m ++ drop n (b ∷ s)) q.0 in
        third m n r.0 bytes (ltb-true 0 m q.1) (read_int (drop n (b ∷ s))) refl e
    second g m n f false et e = absurd cc

    first : (x : Result (SignedMagnitude × ℕ) NumberError) → read_var_int 63 (b ∷ s) ≡ x → fraction_from (b ∷ s) x ≡ Some (d, c)
        → FractionIs (b ∷ s) d c
    first (Ok x) f e = second x.0.negative x.0.magnitude x.1 f _ refl e
    first (Err c) f e = absurd cc

no_digits_after : (t : List ℕ) (d c : ℕ) → t ≡ [] → decode_fraction t ≡ Some (d, c) → d ≡ 0
unfolding decode_fraction
no_digits_after t d c e f = found_one (λ (p : ℕ × ℕ). p.0 ≡ 0) (rw e at f) refl

-- ---- the whole: a body is read back as its parts

module _ (x : Body) (p : Encodable x) where
  abbrev there : List ℕ
  there = fields_at x.utc x.utc.precision

  parts : Parts (ℕ × ℕ)
  parts = record { offset = x.offset; fields = there; fraction = (x.utc.digits, x.coefficient) }

  stands : Decodes exact decode_fraction parts (body_from x.offset x.utc x.coefficient)
  unfolding parts body_from
  stands =
      let r = restored x p in
      let small = below_take 16384 (field_count x.utc.precision) (field_list x.utc) (lit< tt) p.small in
      record {
        offset_bytes = offset_bytes x.offset;
        fields_bytes = varuints there;
        fraction_bytes = fraction_bytes x.utc.digits x.coefficient;
        bytes = refl;
        offset = offset_form x.offset p.within_day;
        within = p.within_day;
        fields = fields_form there small;
        small = small;
        most = r.number.most;
        counted = r.counted;
        fewer = λ q. no_fraction x.utc.digits x.coefficient (p.no_digits (r.number.fewer q));
        found = fraction_back x.utc.digits x.coefficient p.few_digits p.coefficient p.no_coefficient;
      }

  pub body_back : decode_body (body_from x.offset x.utc x.coefficient) ≡ Some x
  unfolding decode_body parts
  body_back =
      rw (parts_back exact decode_fraction parts _ stands)
      (ap (λ (u : Fields). Some (record { offset = x.offset; utc = u; coefficient = x.coefficient })) (restored_fields x p))

-- ---- and what is read is the body of parts that their bytes give back

pub record BodyIs (s : List ℕ) (x : Body) : Type 0 where
  pub bytes : s ≡ body_from x.offset x.utc x.coefficient
  pub encodable : Encodable x

body_joined : (s : List ℕ) (y : Parts (ℕ × ℕ)) → Below 256 s → Decodes exact decode_fraction y s → BodyIs s (body_in y)
unfolding body_from
body_joined s y h w =
    let d = y.fraction.0 in
    let c = y.fraction.1 in
    let t = w.fraction_bytes in
    let after = below_after 256 s w.offset_bytes (w.fields_bytes ++ t) w.bytes h in
    let b = below_after 256 (w.fields_bytes ++ t) w.fields_bytes t refl after in
    let q = fraction_is t d c b w.found in
    let l = (filled_is y.fields d w.most w.counted).0 in
    let rest = ap₂ ◌++◌ (form_fields w.fields ∙ ap varuints (sym l)) q.bytes in
    record {
      bytes = w.bytes ∙ ap₂ ◌++◌ (form_offset y.offset w.offset_bytes w.offset) rest;
      encodable =
          encodable_with y.offset y.fields d c w.within w.most w.counted w.small q.few q.coefficient q.none
          (λ z. no_digits_after t d c (w.fewer z) w.found);
    }

pub body_is : (s : List ℕ) (x : Body) → Below 256 s → decode_body s ≡ Some x → BodyIs s x
unfolding decode_body
body_is s x h e = go (decode_parts shortest decode_fraction s) refl e
  where
    go : (q : Option (Parts (ℕ × ℕ))) → decode_parts shortest decode_fraction s ≡ q → option_map body_in q ≡ Some x → BodyIs s x
    go (Some y) f e = found_one (BodyIs s) e (body_joined s y h (parts_is exact decode_fraction s y h f))
    go None f e = absurd cc
