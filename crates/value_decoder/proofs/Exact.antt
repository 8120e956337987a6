-- Numbers that are read exactly where they stand in one of their forms, and so the parts of a body: whatever is decoded stands in forms,
-- and what stands in forms is decoded. Assumes nothing.
use mathlib.Core.Path.{◌≡◌, refl, sym, ap, ap₂, subst, ◌∙◌}
use mathlib.Core.Bool.{Bool, true, false, cond}
use mathlib.Core.List.{List, [], ◌∷◌, ◌++◌, append_assoc}
use Prim.Native.Nat.{ℕ, zero, suc, ◌≤◌, ◌<◌}
use native.Mathlib.Omega.{arith}
use lib.Dec.{lit≤, lit<}
use lib.IntN.{ℤ, pos, negsuc, nat_abs}
use lib.ListN.{length, take, drop, take-append-drop, length-append}
use lib.Seq.{drop-append_seam}
use Rattle.std.specs.Prelude.{Option, None, Some, Result, Ok, Err}
use Rattle.places.proofs.Below.{Below, below_none, below_cons, below_drop, below_after}
use Rattle.ion.specs.Numbers.VarInt.{is_negative, signed_magnitude}
use Rattle.ion.specs.Pair.Offset.{WithinDay, offset_minutes}
use Rattle.ion.specs.Value.Decode.{Numbers, Parts, signed_offset, offset_from, one_more, field_from, is_field_count}
use Rattle.ion.specs.Value.Decode.{decode_offset, decode_fields, after_fields, after_offset, from_offset, decode_parts}
use Rattle.ion.specs.Value.Forms.{OffsetForm, FieldsForm}
use Rattle.ion.specs.declared.number.NumberError.{NumberError}
use Rattle.ion.specs.declared.number.SignedMagnitude.{SignedMagnitude}
use Rattle.ion.specs.declared.offset.OffsetMinutes.{OffsetMinutes}
use Rattle.value_decoder.proofs.FieldSteps.{field_next}

-- ---- numbers

-- a number m in the j first bytes of s, in a form, and not above l
pub record Found (Form : List ℕ → Type 0) (l m j : ℕ) (s : List ℕ) : Type 0 where
  pub limited : m ≤ l
  pub some : 0 < j
  pub within : j ≤ length s
  pub form : Form (take j s)

pub record Exact (num : Numbers) (UInt : ℕ → List ℕ → Type 0) (Int : Bool → ℕ → List ℕ → Type 0) : Type 0 where
  pub uint_some : (m : ℕ) (s : List ℕ) → UInt m s → 0 < length s
  pub uint_back : (l m : ℕ) (s r : List ℕ) → m ≤ l → UInt m s → num.uint l (s ++ r) ≡ Ok (m, length s)
  pub uint_is : (l : ℕ) (s : List ℕ) (m j : ℕ) → Below 256 s → num.uint l s ≡ Ok (m, j) → Found (UInt m) l m j s
  pub int_back : (l : ℕ) (g : Bool) (m : ℕ) (s r : List ℕ) → m ≤ l → Int g m s
      → num.int l (s ++ r) ≡ Ok (signed_magnitude g m, length s)
  pub int_is : (l : ℕ) (s : List ℕ) (g : Bool) (m j : ℕ) → Below 256 s → num.int l s ≡ Ok (signed_magnitude g m, j)
      → Found (Int g m) l m j s

-- what is found is one thing
pub found_one : {A : Type 0} (P : A → Type 0) {x y : A} → Some x ≡ Some y → P x → P y
found_one P {x} {y} e h = let q : x ≡ y = cc in subst P q h

signed_minutes : (z : ℤ) → signed_offset (is_negative z) (nat_abs z) ≡ Some (offset_minutes z)
signed_minutes (pos n) = refl
signed_minutes (negsuc n) = refl

signed_within : (g : Bool) (m : ℕ) → m ≤ 1439 → WithinDay (signed_offset g m)
signed_within false m h = omega arith
signed_within true zero h = tt
signed_within true (suc m) h = omega arith

module _ {num : Numbers} {UInt : ℕ → List ℕ → Type 0} {Int : Bool → ℕ → List ℕ → Type 0} (x : Exact num UInt Int) where
  -- ---- the offset

  offset_back : (o : Option OffsetMinutes) (s r : List ℕ) → WithinDay o → OffsetForm Int o s → decode_offset num (s ++ r) ≡ Some (o, r)
  unfolding decode_offset
  offset_back None s r w f =
      ap (offset_from (s ++ r)) (x.int_back 1439 true 0 s r (lit≤ tt) f)
      ∙ ap (λ (t : List ℕ). Some (None, t)) (drop-append_seam s r)
  offset_back (Some m) s r w f =
      let z = m.0 in
      ap (offset_from (s ++ r)) (x.int_back 1439 (is_negative z) (nat_abs z) s r (omega arith) f)
      ∙ ap₂ (λ (o : Option OffsetMinutes) (t : List ℕ). Some (o, t)) (signed_minutes z) (drop-append_seam s r)

  -- the offset o, and then r
  record OffsetIs (s : List ℕ) (o : Option OffsetMinutes) (r : List ℕ) : Type 0 where
    front : List ℕ
    bytes : s ≡ front ++ r
    form : OffsetForm Int o front
    within : WithinDay o

  offset_form : (g : Bool) (m : ℕ) (s : List ℕ) → Int g m s → OffsetForm Int (signed_offset g m) s
  offset_form false m s f = f
  offset_form true zero s f = f
  offset_form true (suc m) s f = f

  offset_is : (s : List ℕ) (o : Option OffsetMinutes) (r : List ℕ) → Below 256 s → decode_offset num s ≡ Some (o, r) → OffsetIs s o r
  unfolding decode_offset
  offset_is s o r h e = go (num.int 1439 s) refl e
    where
      go : (q : Result (SignedMagnitude × ℕ) NumberError) → num.int 1439 s ≡ q → offset_from s q ≡ Some (o, r) → OffsetIs s o r
      go (Ok y) f e =
          let g = y.0.negative in
          let m = y.0.magnitude in
          let q = x.int_is 1439 s g m y.1 h f in
          found_one (λ (p : Option OffsetMinutes × List ℕ). OffsetIs s p.0 p.1) e
          (record {
            front = take y.1 s;
            bytes = sym (take-append-drop y.1 s);
            form = offset_form g m (take y.1 s) q.form;
            within = signed_within g m q.limited;
          })
      go (Err c) f e = absurd cc

  -- ---- the fields

  fields_back : (n : ℕ) (l s r : List ℕ) → FieldsForm UInt l s → Below 16384 l → length l ≤ n → (length l < n → r ≡ [])
      → decode_fields num n (s ++ r) ≡ Some (l, r)
  unfolding decode_fields
  fields_back zero l s r FieldsForm.none h k z = refl
  fields_back (suc n) l s r FieldsForm.none h k z = rw (z (omega arith))
  fields_back zero l s r (FieldsForm.more f q) h k z = absurd (omega arith)
  fields_back (suc n) l s r (FieldsForm.more {v = v} {l = m} {s = u} {t = t} f q) h k z =
      let y = u ++ (t ++ r) in
      let b = h 0 in
      rw (append_assoc u t r)
      (field_next num n y (omega (arith, length-append u (t ++ r), x.uint_some v u f))
      ∙ ap (field_from (decode_fields num n) y) (x.uint_back 16383 v u (t ++ r) (omega arith) f)
      ∙ ap (λ (w : List ℕ). one_more v (decode_fields num n w)) (drop-append_seam u (t ++ r))
      ∙ ap (one_more v) (fields_back n m t r q (λ i. h (suc i)) (omega arith) (λ e. z (omega arith))))

  -- the fields l, of at most n, and then r: nothing after fewer
  record FieldsIs (n : ℕ) (s l r : List ℕ) : Type 0 where
    front : List ℕ
    bytes : s ≡ front ++ r
    form : FieldsForm UInt l front
    most : length l ≤ n
    fewer : length l < n → r ≡ []
    small : Below 16384 l

  fields_is : (n : ℕ) (s l r : List ℕ) → Below 256 s → decode_fields num n s ≡ Some (l, r) → FieldsIs n s l r
  unfolding decode_fields
  fields_is zero s l r h e =
      found_one (λ (p : List ℕ × List ℕ). FieldsIs zero s p.0 p.1) e
      (record {
        front = [];
        bytes = refl;
        form = FieldsForm.none;
        most = omega arith;
        fewer = λ q. absurd (omega arith);
        small = below_none 16384 (lit< tt);
      })
  fields_is (suc n) [] l r h e =
      found_one (λ (p : List ℕ × List ℕ). FieldsIs (suc n) [] p.0 p.1) e
      (record {
        front = [];
        bytes = refl;
        form = FieldsForm.none;
        most = omega arith;
        fewer = λ q. refl;
        small = below_none 16384 (lit< tt);
      })
  fields_is (suc n) (b ∷ s) l r h e =
      go (λ k m t. fields_is n (drop k (b ∷ s)) m t (below_drop 256 k (b ∷ s) h)) (num.uint 16383 (b ∷ s)) refl e
    where
      After : ℕ → Type 0
      After k = (m t : List ℕ) → decode_fields num n (drop k (b ∷ s)) ≡ Some (m, t) → FieldsIs n (drop k (b ∷ s)) m t

      step : (v k : ℕ) → num.uint 16383 (b ∷ s) ≡ Ok (v, k) → After k
          → (q : Option (List ℕ × List ℕ)) → decode_fields num n (drop k (b ∷ s)) ≡ q → one_more v q ≡ Some (l, r)
          → FieldsIs (suc n) (b ∷ s) l r
      step v k f ih (Some p) g e =
          let c = ih p.0 p.1 g in
          let d = x.uint_is 16383 (b ∷ s) v k h f in
          let t = take k (b ∷ s) in
          found_one (λ (q : List ℕ × List ℕ). FieldsIs (suc n) (b ∷ s) q.0 q.1) e
          (record {
            front = t ++ c.front;
            bytes = sym (take-append-drop k (b ∷ s)) ∙ ap (λ (y : List ℕ). t ++ y) c.bytes ∙ sym (append_assoc t c.front p.1);
            form = FieldsForm.more d.form c.form;
            most = omega (arith, c.most);
            fewer = λ q. c.fewer (omega arith);
            small = below_cons 16384 v p.0 (omega (arith, d.limited)) c.small;
          })
      step v k f ih None g e = absurd cc

      go : ((k : ℕ) → After k) → (q : Result (ℕ × ℕ) NumberError) → num.uint 16383 (b ∷ s) ≡ q
          → field_from (decode_fields num n) (b ∷ s) q ≡ Some (l, r) → FieldsIs (suc n) (b ∷ s) l r
      go ih (Ok q) f e = step q.0 q.1 f (ih q.1) (decode_fields num n (drop q.1 (b ∷ s))) refl e
      go ih (Err c) f e = absurd cc

  -- ---- the whole, with a fraction that is decoded

  module _ {A : Type 0} (fraction : List ℕ → Option A) where
    pub record Decodes (y : Parts A) (b : List ℕ) : Type 0 where
      pub offset_bytes : List ℕ
      pub fields_bytes : List ℕ
      pub fraction_bytes : List ℕ
      pub bytes : b ≡ offset_bytes ++ (fields_bytes ++ fraction_bytes)
      pub offset : OffsetForm Int y.offset offset_bytes
      pub within : WithinDay y.offset
      pub fields : FieldsForm UInt y.fields fields_bytes
      pub small : Below 16384 y.fields
      pub most : length y.fields ≤ 6
      pub counted : is_field_count (length y.fields) ≡ true
      pub fewer : length y.fields < 6 → fraction_bytes ≡ []
      pub found : fraction fraction_bytes ≡ Some y.fraction

    pub parts_back : (y : Parts A) (b : List ℕ) → Decodes y b → decode_parts num fraction b ≡ Some y
    unfolding decode_parts
    parts_back y b w =
        let o = y.offset in
        let l = y.fields in
        let t = w.fraction_bytes in
        ap (decode_parts num fraction) w.bytes
        ∙ ap (from_offset num fraction) (offset_back o w.offset_bytes (w.fields_bytes ++ t) w.within w.offset)
        ∙ ap (after_offset num fraction o) (fields_back 6 l w.fields_bytes t w.fields w.small w.most w.fewer)
        ∙ ap (λ (q : Bool). cond q (after_fields num fraction o l (fraction t)) None) w.counted
        ∙ ap (after_fields num fraction o l) w.found

    pub parts_is : (b : List ℕ) (y : Parts A) → Below 256 b → decode_parts num fraction b ≡ Some y → Decodes y b
    unfolding decode_parts
    parts_is b y h e = first (decode_offset num b) refl e
      where
        fourth : {o : Option OffsetMinutes} {a l t : List ℕ} → OffsetIs b o a → FieldsIs 6 a l t → is_field_count (length l) ≡ true
            → (q : Option A) → fraction t ≡ q → after_fields num fraction o l q ≡ Some y → Decodes y b
        fourth {t = t} w p c (Some q) f e =
            found_one (λ (z : Parts A). Decodes z b) e
            (record {
              offset_bytes = w.front;
              fields_bytes = p.front;
              fraction_bytes = t;
              bytes = w.bytes ∙ ap (λ (z : List ℕ). w.front ++ z) p.bytes;
              offset = w.form;
              within = w.within;
              fields = p.form;
              small = p.small;
              most = p.most;
              counted = c;
              fewer = p.fewer;
              found = f;
            })
        fourth w p c None f e = absurd cc

        third : {o : Option OffsetMinutes} {a l t : List ℕ} → OffsetIs b o a → FieldsIs 6 a l t → (c : Bool)
            → is_field_count (length l) ≡ c → cond c (after_fields num fraction o l (fraction t)) None ≡ Some y → Decodes y b
        third {t = t} w p true c e = fourth w p c (fraction t) refl e
        third w p false c e = absurd cc

        second : {o : Option OffsetMinutes} {a : List ℕ} → OffsetIs b o a → Below 256 a → (q : Option (List ℕ × List ℕ))
            → decode_fields num 6 a ≡ q → after_offset num fraction o q ≡ Some y → Decodes y b
        second {a = a} w k (Some z) f e = third w (fields_is 6 a z.0 z.1 k f) _ refl e
        second w k None f e = absurd cc

        first : (q : Option (Option OffsetMinutes × List ℕ)) → decode_offset num b ≡ q → from_offset num fraction q ≡ Some y
            → Decodes y b
        first (Some z) f e =
            let w = offset_is b z.0 z.1 h f in
            second w (below_after 256 b w.front z.1 w.bytes h) _ refl e
        first None f e = absurd cc
