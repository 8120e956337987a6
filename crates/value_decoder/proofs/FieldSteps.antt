-- What the decoder of fields has found after each turn, and what the decoders of a body find, by the way in which numbers and the fraction
-- are read. Assumes nothing.
use mathlib.Core.Path.{◌≡◌, refl, sym, ap, ap₂, ◌∙◌}
use mathlib.Core.Bool.{Bool, true, false, cond}
use mathlib.Core.List.{List, [], ◌∷◌, ◌++◌, append_assoc, append-nil}
use Prim.Native.Nat.{ℕ, zero, suc, ◌+◌, ◌-◌, ◌^◌, ◌≤◌, ◌<◌}
use native.Mathlib.Numerals.{add-one}
use native.Mathlib.Omega.{arith}
use borrow.Author.Tests.{ne_eqb}
use lib.Dec.{lit<}
use lib.ListN.{length, take, drop, set, take-append-drop, length-append, length-take, length-drop, length-set, drop_of_length-le}
use lib.Seq.{drop-drop, drop-set-lt, take-suc-set, length-take-le}
use Rattle.std.specs.Prelude.{Option, None, Some, Result, Ok, Err}
use Rattle.std.specs.Option.{option_map}
use Rattle.std.specs.Result.{result_ok}
use Rattle.places.proofs.Below.{Below, below_none, below_cons, below_append}
use Rattle.ion.specs.Pair.Offset.{WithinDay}
use Rattle.ion.specs.Value.Decode.{Numbers, signed_offset, one_more, field_from, is_field_count, decode_offset, decode_fields}
use Rattle.ion.specs.Value.Decode.{after_fields, after_offset, decode_parts, first_values, filled, precision_with, fields_from}
use Rattle.ion.specs.Value.Decode.{body_with, body_in, body_by}
use Rattle.ion.specs.declared.Fields.{Fields}
use Rattle.ion.specs.declared.Body.{Body}
use Rattle.ion.specs.declared.number.NumberError.{NumberError}
use Rattle.ion.specs.declared.number.SignedMagnitude.{SignedMagnitude}
use Rattle.ion.specs.declared.offset.OffsetMinutes.{OffsetMinutes}
use Rattle.value_decoder.specs.BodyParts.{Encodable}
use Rattle.value_decoder.specs.Parsed.{FieldsAre}
use Rattle.value_decoder.specs.declared.decoder.FieldsRead.{FieldsRead}
use Rattle.value_decoder.proofs.Filled.{encodable_with}

-- the fields p, and those found after them
abbrev joined : List ℕ → Option (List ℕ × List ℕ) → Option (List ℕ × List ℕ)
joined p (Some q) = Some (p ++ q.0, q.1)
joined p None = None

joined_none : (q : Option (List ℕ × List ℕ)) → q ≡ joined [] q
joined_none (Some q) = refl
joined_none None = refl

joined_one : (p : List ℕ) (m : ℕ) (q : Option (List ℕ × List ℕ)) → joined p (one_more m q) ≡ joined (p ++ (m ∷ [])) q
joined_one p m (Some q) = ap (λ (l : List ℕ). Some (l, q.1)) (sym (append_assoc p (m ∷ []) q.0))
joined_one p m None = refl

module _ (num : Numbers) where
  -- where a byte is left, another is decoded
  pub field_next : (n : ℕ) (t : List ℕ) → 0 < length t
      → decode_fields num (suc n) t ≡ field_from (decode_fields num n) t (num.uint 16383 t)
  unfolding decode_fields
  field_next n [] h = absurd (omega arith)
  field_next n (b ∷ t) h = refl

  none_left : (n : ℕ) (t : List ℕ) → t ≡ [] → decode_fields num n t ≡ Some ([], t)
  unfolding decode_fields
  none_left zero t e = refl
  none_left (suc n) t e = rw e

  -- ---- one field a turn

  -- k fields of all that are decoded, q, are passed and stand in v, where the others have their first values; s goes on from index n
  pub record Passed (s : List ℕ) (q : Option (List ℕ × List ℕ)) (v : List ℕ) (k n : ℕ) : Type 0 where
    pub most : k ≤ 6
    wide : length v ≡ 6
    rest : drop k v ≡ drop k first_values
    small : Below 16384 (take k v)
    all : q ≡ joined (take k v) (decode_fields num (6 - k) (drop n s))

  pub passed_none : (s : List ℕ) (n : ℕ) → Passed s (decode_fields num 6 (drop n s)) first_values 0 n
  passed_none s n =
      record { most = omega arith; wide = refl; rest = refl; small = below_none 16384 (lit< tt); all = joined_none _ }

  module _ {s : List ℕ} {q : Option (List ℕ × List ℕ)} {v : List ℕ} {k n : ℕ} (p : Passed s q v k n) where
    turned : k < 6 → n < length s
        → decode_fields num (6 - k) (drop n s) ≡ field_from (decode_fields num (6 - (k + 1))) (drop n s) (num.uint 16383 (drop n s))
    turned l h =
        let e : 6 - k ≡ suc (6 - (k + 1)) = omega arith in
        rw e (field_next (6 - (k + 1)) (drop n s) (omega (arith, length-drop n s)))

    pub passed_more : (m j : ℕ) → k < 6 → n < length s → num.uint 16383 (drop n s) ≡ Ok (m, j) → m ≤ 16383
        → Passed s q (set v k m) (k + 1) (n + j)
    passed_more m j l h e b =
        let f = decode_fields num (6 - (k + 1)) in
        let w = p.wide in
        let t : take (k + 1) (set v k m) ≡ take k v ++ (m ∷ []) = rw (add-one k) (take-suc-set v k m (omega arith)) in
        record {
          most = omega arith;
          wide = length-set v k m ∙ w;
          rest = drop-set-lt (k + 1) v k m (omega arith) ∙ sym (drop-drop 1 k v) ∙ ap (drop 1) p.rest ∙ drop-drop 1 k first_values;
          small =
              rw t (below_append 16384 (take k v) (m ∷ []) p.small (below_cons 16384 m [] (omega arith) (below_none 16384 (lit< tt))));
          all =
              p.all
              ∙ ap (joined (take k v))
              (turned l h ∙ ap (field_from f (drop n s)) e ∙ ap (λ (u : List ℕ). one_more m (f u)) (drop-drop j n s))
              ∙ joined_one (take k v) m (f (drop (n + j) s))
              ∙ ap (λ (x : List ℕ). joined x (f (drop (n + j) s))) (sym t);
        }

    -- something that is no field makes nothing of all
    pub passed_bad : k < 6 → n < length s → result_ok (num.uint 16383 (drop n s)) ≡ None → q ≡ None
    passed_bad l h e = p.all ∙ ap (joined (take k v)) (turned l h ∙ go (num.uint 16383 (drop n s)) e)
      where
        go : (x : Result (ℕ × ℕ) NumberError) → result_ok x ≡ None → field_from (decode_fields num (6 - (k + 1))) (drop n s) x ≡ None
        go (Ok x) e = absurd cc
        go (Err c) e = refl

    passed_end : decode_fields num (6 - k) (drop n s) ≡ Some ([], drop n s) → (k < 6 → length s ≤ n)
        → FieldsAre s q (record { values = v; count = k; next = n })
    unfolding filled
    passed_end e f =
        let w = p.wide in
        let h = p.most in
        let l : length (take k v) ≡ k = length-take-le k v (omega arith) in
        record {
          decoded = p.all ∙ ap (joined (take k v)) e ∙ ap (λ (x : List ℕ). Some (x, drop n s)) (append-nil (take k v));
          values = rw (l, ← p.rest) (sym (take-append-drop k v));
          most = h;
          fewer = f;
          small = p.small;
        }

    -- all six are passed
    pub passed_six : 6 ≤ k → FieldsAre s q (record { values = v; count = k; next = n })
    unfolding decode_fields
    passed_six h = passed_end (let e : 6 - k ≡ 0 = omega (arith, p.most) in rw e) (λ l. absurd (omega arith))

    -- the bytes end
    pub passed_all : length s ≤ n → FieldsAre s q (record { values = v; count = k; next = n })
    passed_all h = passed_end (none_left (6 - k) (drop n s) (drop_of_length-le s h)) (λ l. h)

-- ---- what follows from what the decoder of fields answers

module _ {s : List ℕ} {q : Option (List ℕ × List ℕ)} {r : FieldsRead} (f : FieldsAre s q r) where
  -- the fields that are there
  counted : length (take r.count r.values) ≡ r.count
  unfolding filled
  counted =
      let l = take r.count r.values in
      let n = length-drop (length l) first_values in
      omega (arith, f.most, length-take r.count r.values, ap length f.values, length-append l (drop (length l) first_values))

  body_values : (o : Option OffsetMinutes) (d c : ℕ) {u : Fields} → u ≡ fields_from r.values (precision_with r.count) d
      → ◌≡◌ {A = Body} (record { offset = o; utc = u; coefficient = c }) (body_with o (take r.count r.values) d c)
  body_values o d c e =
      ap (λ (x : Fields). record { offset = o; utc = x; coefficient = c })
      (e ∙ ap₂ (λ (v : List ℕ) (k : ℕ). fields_from v (precision_with k) d) f.values (sym counted))

-- the body, by the number of the fields and by the fraction
module _ (num : Numbers) (fraction : List ℕ → Option (ℕ × ℕ)) (o : Option OffsetMinutes) where
  abbrev after : Option (List ℕ × List ℕ) → Option Body
  after q = option_map body_in (after_offset num fraction o q)

  pub no_fields : (q : Option (List ℕ × List ℕ)) → q ≡ None → after q ≡ None
  no_fields q e = ap after e

  module _ (s : List ℕ) (q : Option (List ℕ × List ℕ)) (r : FieldsRead) (f : FieldsAre s q r) where
    by_count : (t : Bool) → is_field_count r.count ≡ t
        → after q ≡ option_map body_in (cond t (after_fields num fraction o (take r.count r.values) (fraction (drop r.next s))) None)
    by_count t e =
        let l = take r.count r.values in
        ap after f.decoded
        ∙ ap (λ (b : Bool). option_map body_in (cond b (after_fields num fraction o l (fraction (drop r.next s))) None))
        (ap is_field_count (counted f) ∙ e)

    pub no_year : r.count ≡ 0 → after q ≡ None
    no_year e = by_count false (ap is_field_count e)

    pub no_minute : r.count ≡ 4 → after q ≡ None
    no_minute e = by_count false (ap is_field_count e)

    module _ (m : r.count ≡ 0 → ⊥) (n : r.count ≡ 4 → ⊥) where
      some_count : is_field_count r.count ≡ true
      some_count = rw (ne_eqb r.count 0 m, ne_eqb r.count 4 n)

      complete : after q ≡ option_map body_in (after_fields num fraction o (take r.count r.values) (fraction (drop r.next s)))
      complete = by_count true some_count

      pub no_fraction : fraction (drop r.next s) ≡ None → after q ≡ None
      no_fraction e = complete ∙ ap (λ (x : Option (ℕ × ℕ)). option_map body_in (after_fields num fraction o (take r.count r.values) x)) e

      module _ (u : Fields) (d c : ℕ) (k : u ≡ fields_from r.values (precision_with r.count) d) where
        pub after_found : fraction (drop r.next s) ≡ Some (d, c) → after q ≡ Some (record { offset = o; utc = u; coefficient = c })
        after_found e =
            complete
            ∙ ap (λ (x : Option (ℕ × ℕ)). option_map body_in (after_fields num fraction o (take r.count r.values) x)) e
            ∙ ap Some (sym (body_values f o d c k))

        pub found_encodable : WithinDay o → d ≤ 63 → c < 2 ^ 64 → (d ≡ 0 → c ≡ 0) → (length s ≤ r.next → d ≡ 0)
            → Encodable (record { offset = o; utc = u; coefficient = c })
        found_encodable w few l z none =
            let n = counted f in
            let i : is_field_count (length (take r.count r.values)) ≡ true = ap is_field_count n ∙ some_count in
            let late = λ (h : length (take r.count r.values) < 6). none (f.fewer (omega (arith, n))) in
            let x = encodable_with o (take r.count r.values) d c w (omega (arith, n, f.most)) i f.small few l z late in
            rw (body_values f o d c k) x

-- ---- the body that the bytes s are

module _ (num : Numbers) (fraction : List ℕ → Option (ℕ × ℕ)) (s : List ℕ) where
  pub body_bad : (c : NumberError) → num.int 1439 s ≡ Err c → body_by num fraction s ≡ None
  unfolding decode_parts decode_offset
  body_bad c e = rw e

  pub body_some : (x : SignedMagnitude) (n : ℕ) → num.int 1439 s ≡ Ok (x, n) → body_by num fraction s
      ≡ option_map body_in (after_offset num fraction (signed_offset x.negative x.magnitude) (decode_fields num 6 (drop n s)))
  unfolding decode_parts decode_offset
  body_some x n e = rw e

-- ---- lists of laws, for the code

pub ruleset bodies = (no_fields, no_year, no_minute, no_fraction, after_found)

pub ruleset parts = (body_bad, body_some)
