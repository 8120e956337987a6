-- The fields that are there among all six: they are those that are written at their precision, and what the precision leaves out has its
-- first value. Assumes nothing.
use mathlib.Core.Path.{◌≡◌, refl, ap, ap₂, sym, ◌∙◌}
use mathlib.Core.Bool.{true, false≢true}
use mathlib.Core.List.{List, [], ◌∷◌}
use Prim.Native.Nat.{ℕ, zero, suc, ◌^◌, ◌≤◌, ◌<◌}
use native.Mathlib.Omega.{arith}
use lib.Dec.{lit<}
use lib.ListN.{length, take, drop}
use Rattle.std.specs.Prelude.{Option}
use Rattle.places.proofs.Below.{Below, below_append, below_drop, each_below}
use Rattle.ion.specs.Pair.Offset.{WithinDay, raw_offset}
use Rattle.ion.specs.Calls.Accepted.{time_in}
use Rattle.ion.specs.Calls.Utc.{with_time}
use Rattle.ion.specs.Value.Encode.{field_list, field_count}
use Rattle.ion.specs.Value.Decode.{first_values, filled, is_field_count, precision_with, fields_from, body_with}
use Rattle.ion.specs.declared.Fields.{Fields}
use Rattle.ion.specs.declared.Body.{Body}
use Rattle.ion.specs.declared.offset.OffsetMinutes.{OffsetMinutes}
use Rattle.value_decoder.specs.BodyParts.{Encodable}

-- ---- of fields that are read, all six

-- what the precision leaves out has its first value
pub record LeftOut (l : List ℕ) (u : Fields) : Type 0 where
  pub precise : u.precision ≤ 4
  pub fewer : u.precision < 4 → length l < 6
  pub no_month : u.precision < 1 → u.month ≡ 1
  pub no_day : u.precision < 2 → u.day ≡ 1
  pub no_hour : u.precision < 3 → u.hour ≡ 0
  pub no_minute : u.precision < 3 → u.minute ≡ 0
  pub no_second : u.precision < 4 → u.second ≡ 0

-- the fields that are there are those that are written of all six
pub filled_is : (l : List ℕ) (d : ℕ) → length l ≤ 6 → is_field_count (length l) ≡ true
    → let u = fields_from (filled l) (precision_with (length l)) d in
    (take (field_count u.precision) (field_list u) ≡ l) × LeftOut l u
unfolding field_count precision_with filled
filled_is [] d h e = absurd (false≢true e)
filled_is (y ∷ []) d h e = (refl, omega arith)
filled_is (y ∷ m ∷ []) d h e = (refl, omega arith)
filled_is (y ∷ m ∷ k ∷ []) d h e = (refl, omega arith)
filled_is (y ∷ m ∷ k ∷ u ∷ []) d h e = absurd (false≢true e)
filled_is (y ∷ m ∷ k ∷ u ∷ v ∷ []) d h e = (refl, omega arith)
filled_is (y ∷ m ∷ k ∷ u ∷ v ∷ w ∷ []) d h e = (refl, omega arith)
filled_is (y ∷ m ∷ k ∷ u ∷ v ∷ w ∷ z ∷ l) d h e = absurd (omega arith)

first_small : Below 16384 first_values
first_small = each_below 16384 first_values (lit< tt, (lit< tt, (lit< tt, (lit< tt, (lit< tt, (lit< tt, lit< tt))))))

filled_small : (l : List ℕ) → Below 16384 l → Below 16384 (filled l)
unfolding filled
filled_small l h = below_append 16384 l (drop (length l) first_values) h (below_drop 16384 (length l) first_values first_small)

fields_small : (v : List ℕ) (p d : ℕ) → Below 16384 v → Below 16384 (field_list (fields_from v p d))
fields_small v p d h = each_below 16384 (field_list (fields_from v p d)) (h 0, (h 1, (h 2, (h 3, (h 4, (h 5, lit< tt))))))

-- with an offset and a fraction, which nothing but six fields has, they are parts that their bytes give back
module _ (o : Option OffsetMinutes) (l : List ℕ) (d c : ℕ) (within : WithinDay o) (most : length l ≤ 6)
    (counted : is_field_count (length l) ≡ true) (small : Below 16384 l) (few : d ≤ 63) (coefficient : c < 2 ^ 64)
    (none : d ≡ 0 → c ≡ 0) (late : length l < 6 → d ≡ 0) where
  pub encodable_with : Encodable (body_with o l d c)
  encodable_with =
      let u = (filled_is l d most counted).1 in
      record {
        within_day = within;
        no_raw = refl;
        precise = u.precise;
        small = fields_small (filled l) (precision_with (length l)) d (filled_small l small);
        no_month = u.no_month;
        no_day = u.no_day;
        no_hour = u.no_hour;
        no_minute = u.no_minute;
        no_second = u.no_second;
        no_digits = λ z. late (u.fewer z);
        few_digits = few;
        coefficient = coefficient;
        no_coefficient = none;
      }

-- ---- of all six, the fields that are written

-- the fields that are written at a precision
abbrev pub fields_at : Fields → ℕ → List ℕ
fields_at u p = take (field_count p) (field_list u)

-- k is how many are written at a precision p
pub record IsCount (k p : ℕ) : Type 0 where
  pub precision : precision_with k ≡ p
  pub most : k ≤ 6
  pub fewer : k < 6 → p < 4

-- the fields that are written restore all six, and the precision
pub record Restores (u : Fields) (l : List ℕ) (p : ℕ) : Type 0 where
  pub all : filled l ≡ field_list u
  pub counted : is_field_count (length l) ≡ true
  pub number : IsCount (length l) p

fields_are : (u : Fields) (v : List ℕ) (k : ℕ) → v ≡ field_list u → k ≡ u.precision → u.offset ≡ raw_offset 0
    → fields_from v k u.digits ≡ u
fields_are u v k e f z =
    ap₂ (λ (w : List ℕ) (j : ℕ). fields_from w j u.digits) e f ∙ ap (with_time u (time_in u)) (sym z)

module _ (x : Body) (p : Encodable x) where
  restored_at : (k : ℕ) → x.utc.precision ≡ k → Restores x.utc (fields_at x.utc k) k
  unfolding field_count filled precision_with
  restored_at zero e =
      let hour = p.no_hour (omega arith) in
      let minute = p.no_minute (omega arith) in
      let second = p.no_second (omega arith) in
      record { all = rw (p.no_month (omega arith), p.no_day (omega arith), hour, minute, second); counted = refl; number = omega arith }
  restored_at (suc zero) e =
      let hour = p.no_hour (omega arith) in
      let minute = p.no_minute (omega arith) in
      let second = p.no_second (omega arith) in
      record { all = rw (p.no_day (omega arith), hour, minute, second); counted = refl; number = omega arith }
  restored_at (suc (suc zero)) e =
      let hour = p.no_hour (omega arith) in
      let minute = p.no_minute (omega arith) in
      let second = p.no_second (omega arith) in
      record { all = rw (hour, minute, second); counted = refl; number = omega arith }
  restored_at (suc (suc (suc zero))) e = record { all = rw (p.no_second (omega arith)); counted = refl; number = omega arith }
  restored_at (suc (suc (suc (suc zero)))) e = record { all = refl; counted = refl; number = omega arith }
  restored_at (suc (suc (suc (suc (suc k))))) e = absurd (omega (arith, p.precise))

  pub restored : Restores x.utc (fields_at x.utc x.utc.precision) x.utc.precision
  restored = restored_at x.utc.precision refl

  -- and so the UTC fields
  pub restored_fields : let l = fields_at x.utc x.utc.precision in fields_from (filled l) (precision_with (length l)) x.utc.digits ≡ x.utc
  restored_fields =
      let l = fields_at x.utc x.utc.precision in
      fields_are x.utc (filled l) (precision_with (length l)) restored.all restored.number.precision p.no_raw
