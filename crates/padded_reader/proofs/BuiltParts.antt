-- What the builder answers to the local fields of a body's parts is the pair of those that are acceptable, and a refusal of any others.
-- Assumes nothing.
use mathlib.Core.Path.{◌≡◌, refl, sym, ap, ap₂, ◌∙◌}
use mathlib.Core.Bool.{Bool, true, false, cond, not, ◌&&◌, false≢true, and-eq-true_iff}
use Prim.Native.Nat.{ℕ, ◌*◌, ◌^◌, ◌≤◌, ◌<◌, min}
use native.Mathlib.Decide.{dec_lt}
use native.Mathlib.Nat.{pow-le-pow_right}
use native.Mathlib.Omega.{arith}
use borrow.Author.Tests.{lt-ltb, le-leb, eqb-true, eqb-false, ltb-true, leb-true}
use lib.Dec.{eqb, leb, ltb, lit<}
use lib.IntN.{neg_ℤ}
use lib.ListN.{length}
use Rattle.std.specs.Prelude.{Option, None, Some, Result, Ok, Err}
use Rattle.std.specs.Option.{option_map}
use Rattle.std.specs.Result.{result_and}
use Rattle.places.proofs.Decides.{Decides, lt_decides, ◌and◌}
use Rattle.places.proofs.Below.{Below}
use Rattle.ion.specs.Calendar.Dates.{IsDate}
use Rattle.ion.specs.Calendar.Shift.{IsDateTime, shifted}
use Rattle.ion.specs.Pair.Offset.{WithinDay, offset_of}
use Rattle.ion.specs.Pair.Fraction.{scale, capped, digits_of, below_zero, decimal}
use Rattle.ion.specs.Calls.Accepted.{date_in, time_in}
use Rattle.ion.specs.Calls.Build.{build_checks, build_pair, build_of}
use Rattle.ion.specs.Calls.Check.{all_of}
use Rattle.ion.specs.Value.Decode.{Parts, filled, is_field_count, precision_with, fields_from, body_with, local_by, pair_from}
use Rattle.ion.specs.Value.ReadPaddedValue.{is_utc_time, or_body, stamp_from}
use Rattle.ion.specs.declared.Decimal.{Decimal}
use Rattle.ion.specs.declared.Fields.{Fields}
use Rattle.ion.specs.declared.Body.{Body}
use Rattle.ion.specs.declared.DateTime.{DateTime}
use Rattle.ion.specs.declared.BuilderFields.{BuilderFields}
use Rattle.ion.specs.declared.offset.OffsetMinutes.{OffsetMinutes}
use Rattle.ion.specs.declared.Timestamp.{Timestamp}
use Rattle.ion.specs.declared.refusal.Refusal.{Refusal}
use Rattle.ion.specs.declared.refusal.Refusal.TheVariants as refusal
use Rattle.calendar.proofs.Dates.{is_date_lem, date_is}
use Rattle.calendar.proofs.Shifts.{shifted_is, shift_back, shifted_year}
use Rattle.calendar.proofs.FirstDay.{moved_room}
use Rattle.fraction.proofs.Capped.{cap_low, cap_high, scaled_high}
use Rattle.fraction.proofs.Quotients.{up_to_lem}
use Rattle.builder.proofs.Times.{build_local}
use Rattle.timestamp.proofs.CheckedFields.{offset_local, valid_builds}
use Rattle.timestamp.proofs.UtcForm.{negated_within}
use Rattle.value_decoder.specs.BodyParts.{Encodable, Acceptable, is_acceptable, parts_answer}
use Rattle.value_decoder.proofs.Filled.{encodable_with}
use Rattle.value_decoder.proofs.PartsTested.{offset_decides, acceptable_decides}
use Rattle.value_decoder.proofs.LocalFields.{attoseconds_from, local_valid}
use Rattle.padded_reader.specs.Fractions.{units_of, coefficient_units}

-- ---- a decimal as digits and a coefficient, and as the builder takes it

-- what the digits d and the coefficient c are of a decimal that has them
pub record IsUnits (q : Decimal) (d c : ℕ) : Type 0 where
  pub digits : (decimal q).digits ≡ d
  pub coefficient : q.coefficient ≡ c
  pub above : q.negative ≡ true → q.coefficient ≡ 0
  pub attoseconds : (decimal q).attoseconds ≡ capped (c * scale d)
  pub few : d ≤ 18
  pub low : c < 2 ^ 64
  pub none : d ≡ 0 → c ≡ 0

-- the builder refuses any other
pub data Units (q : Decimal) : Option (ℕ × ℕ) → Type 0 where
  some : (d c : ℕ) → IsUnits q d c → Units q (Some (d, c))
  fine : 18 < (decimal q).digits → Units q None
  large : 10 ^ 18 ≤ (decimal q).attoseconds → Units q None

not_below : (g z : Bool) → (g && not z) ≡ false → g ≡ true → z ≡ true
not_below true true e k = refl
not_below true false e k = absurd (false≢true (sym e))
not_below false z e k = absurd (false≢true k)

module _ (q : Decimal) where
  abbrev d : ℕ
  d = digits_of q.exponent

  abbrev c : ℕ
  c = q.coefficient

  -- not below zero
  module _ (b : below_zero q ≡ false) where
    above : q.negative ≡ true → c ≡ 0
    above g = eqb-true c 0 (not_below q.negative (eqb c 0) b g)

    taken : d ≤ 18 → (decimal q).attoseconds ≡ capped (c * scale d)
    taken l = rw b (ap capped (sym (up_to_lem c d l)))

    past : d ≤ 18 → 10 ^ min d 18 ≤ c → 10 ^ 18 ≤ (decimal q).attoseconds
    past l h = omega (arith, taken l, cap_high (c * scale d) (scaled_high c d h))

    few : d ≤ 18 → (2 ^ 64 ≤ c) → 10 ^ min d 18 ≤ c
    few l h = let k : min d 18 ≤ 18 = omega arith in omega (arith, pow-le-pow_right {n = 10} (lit< tt) k)

    with_digits : (d ≡ 0 → ⊥) → (t : Bool) → (leb d 18 && ltb c (2 ^ 64)) ≡ t → Units q (cond t (Some (d, c)) None)
    with_digits n true e =
        let k = (and-eq-true_iff (leb d 18) (ltb c (2 ^ 64))).0 e in
        let l = leb-true d 18 k.0 in
        Units.some d c
        (record {
          digits = refl;
          coefficient = refl;
          above = above;
          attoseconds = taken l;
          few = l;
          low = ltb-true c (2 ^ 64) k.1;
          none = λ z. absurd (n z);
        })
    with_digits n false e = go (dec_lt 18 d) (dec_lt c (2 ^ 64))
      where
        go : Dec (18 < d) → Dec (c < 2 ^ 64) → Units q None
        go (yes h) k = Units.fine h
        go (no h) (yes k) =
            let l : d ≤ 18 = omega arith in
            absurd (false≢true (sym e ∙ (and-eq-true_iff (leb d 18) (ltb c (2 ^ 64))).1 (le-leb d 18 l, lt-ltb c (2 ^ 64) k)))
        go (no h) (no k) = let l : d ≤ 18 = omega arith in Units.large (past l (few l (omega arith)))

    without : d ≡ 0 → (t : Bool) → eqb c 0 ≡ t → Units q (cond t (Some (0, 0)) None)
    without z true e =
        let l : d ≤ 18 = omega arith in
        let y : c * scale d ≡ 0 * scale 0 = ap₂ (λ (m n : ℕ). m * scale n) (eqb-true c 0 e) z in
        Units.some 0 0
        (record {
          digits = z;
          coefficient = eqb-true c 0 e;
          above = above;
          attoseconds = taken l ∙ ap capped y;
          few = omega arith;
          low = omega arith;
          none = λ k. refl;
        })
    without z false e =
        let n = eqb-false c 0 e in
        let p : 10 ^ min d 18 ≤ c = rw z (omega arith) in
        Units.large (past (omega arith) p)

    by_digits : (t : Bool) → eqb d 0 ≡ t
        → Units q (cond t (cond (eqb c 0) (Some (0, 0)) None) (cond (leb d 18 && ltb c (2 ^ 64)) (Some (d, c)) None))
    by_digits true e = without (eqb-true d 0 e) (eqb c 0) refl
    by_digits false e = with_digits (eqb-false d 0 e) (leb d 18 && ltb c (2 ^ 64)) refl

  pub units_are : Units q (coefficient_units q)
  units_are = go (below_zero q) refl
    where
      go : (t : Bool) → below_zero q ≡ t → Units q (cond t None (units_of d c))
      go true e = Units.large (rw e (omega (arith, cap_high (10 ^ 18) (omega arith))))
      go false e = by_digits e (eqb d 0) refl

-- ---- the answer to UTC fields u, an offset o and attoseconds a

abbrev answer : Option OffsetMinutes → Fields → ℕ → Result Timestamp Refusal
answer o u a = cond (is_utc_time o u) (or_body (build_of (all_of (local_by o u) a))) (Err refusal.Body)

pub local_same : (o : Option OffsetMinutes) (u : Fields) → ((local_by o u).digits ≡ u.digits) × ((local_by o u).precision ≡ u.precision)
local_same None u = (refl, refl)
local_same (Some m) u = (refl, refl)

module _ (o : Option OffsetMinutes) (u : Fields) (a : ℕ) where
  abbrev given : BuilderFields
  given = all_of (local_by o u) a

  -- a check that fails makes the refusal of a body
  refused : (build_checks given ≡ Ok tt → ⊥) → answer o u a ≡ Err refusal.Body
  unfolding build_of
  refused n = go (is_utc_time o u) (build_checks given) refl
    where
      go : (t : Bool) (r : Result Unit Refusal) → build_checks given ≡ r
          → cond t (or_body (result_and r (Ok (build_pair given)))) (Err refusal.Body) ≡ Err refusal.Body
      go false r e = refl
      go true (Ok tt) e = absurd (n e)
      go true (Err r) e = refl

  pub many_digits : 18 < u.digits → answer o u a ≡ Err refusal.Body
  many_digits h = refused (λ e. let b = (build_local given e).0 in omega (arith, b.digits, (local_same o u).0))

  pub whole_second : 10 ^ 18 ≤ a → answer o u a ≡ Err refusal.Body
  whole_second h = refused (λ e. let b = (build_local given e).0 in omega (arith, b.attoseconds))

-- ---- the answer to parts that have digits and a coefficient

abbrev IsUtcTime : Option OffsetMinutes → Fields → Type 0
IsUtcTime o u = (((IsDate (date_in u) × (u.hour < 24)) × (u.minute < 60)) × (u.second < 60)) × (u.precision < 3 → o ≡ None)

utc_decides : (o : Option OffsetMinutes) (u : Fields) → Decides (is_utc_time o u) (IsUtcTime o u)
unfolding is_utc_time
utc_decides o u =
    let date : Decides _ (IsDate (date_in u)) = (is_date_lem (date_in u), date_is (date_in u)) in
    date and lt_decides u.hour 24 and lt_decides u.minute 60 and lt_decides u.second 60 and offset_decides u.precision o

-- a local year up to 9999 is of a UTC year up to 10000
utc_year : (o : Option OffsetMinutes) (u : Fields) → WithinDay o → IsDateTime (time_in u) → 1 ≤ (local_by o u).year
    → (local_by o u).year ≤ 9999 → u.year ≤ 10000
utc_year None u w t l h = omega arith
utc_year (Some m) u w t l h =
    let s = shifted (time_in u) m.0 in
    let back = shift_back (time_in u) m.0 t (moved_room (time_in u) m.0 t w l) in
    omega (arith, shifted_year s (neg_ℤ m.0) (shifted_is (time_in u) m.0 t) l h (negated_within m.0 w), ap (λ (x : DateTime). x.year) back)

module _ (x : Body) (p : Encodable x) where
  abbrev built : Result Timestamp Refusal
  built = answer x.offset x.utc (capped (attoseconds_from x))

  accepted : Acceptable x → built ≡ Ok (pair_from x)
  unfolding pair_from
  accepted q =
      let v = local_valid x p q in
      let b = q.bounds in
      let t = (utc_decides x.offset x.utc).1
      ((((b.time.date, b.time.hours), b.time.minutes), omega (arith, b.second)), b.known_late) in
      rw (t, cap_low (attoseconds_from x) v.attoseconds) (ap or_body (valid_builds v))

  taken_parts : is_utc_time x.offset x.utc ≡ true → build_checks (given x.offset x.utc (capped (attoseconds_from x))) ≡ Ok tt → Acceptable x
  taken_parts t e =
      let u = (utc_decides x.offset x.utc).0 t in
      let time : IsDateTime (time_in x.utc) = record { date = u.0.0.0.0; hours = u.0.0.0.1; minutes = u.0.0.1 } in
      let f = local_by x.offset x.utc in
      let b = build_local (given x.offset x.utc (capped (attoseconds_from x))) e in
      let y = ap (λ (z : DateTime). z.year) (offset_local (given x.offset x.utc (capped (attoseconds_from x))) (offset_of f.offset)).1 in
      let digits : x.utc.digits ≤ 18 = omega (arith, b.0.digits, (local_same x.offset x.utc).0) in
      let from : 1 ≤ f.year = omega (arith, b.1.from_year, y) in
      let to : f.year ≤ 9999 = omega (arith, b.1.to_year, y) in
      record {
        bounds =
            record {
              time = time;
              year = utc_year x.offset x.utc p.within_day time from to;
              second = omega (arith, u.0.1);
              digits = digits;
              coefficient = below digits b.0.attoseconds (dec_lt x.coefficient (10 ^ x.utc.digits));
              known_late = u.1;
            };
        from_year = from;
        to_year = to;
      }
    where
      below : x.utc.digits ≤ 18 → capped (attoseconds_from x) < 10 ^ 18 → Dec (x.coefficient < 10 ^ x.utc.digits)
          → x.coefficient < 10 ^ x.utc.digits
      below h k (yes l) = l
      below h k (no l) =
          let z : min x.utc.digits 18 ≡ x.utc.digits = omega arith in
          let g : 10 ^ min x.utc.digits 18 ≤ x.coefficient = rw z (omega arith) in
          absurd (omega (arith, cap_high (attoseconds_from x) (scaled_high x.coefficient x.utc.digits g)))

  pub built_parts : built ≡ parts_answer (Some x)
  unfolding build_of
  built_parts = go (is_acceptable x) refl
    where
      checks : Result Unit Refusal
      checks = build_checks (given x.offset x.utc (capped (attoseconds_from x)))

      other : is_acceptable x ≡ false → (t : Bool) → is_utc_time x.offset x.utc ≡ t → (r : Result Unit Refusal) → checks ≡ r
          → cond t (or_body (result_and r (Ok (build_pair (given x.offset x.utc (capped (attoseconds_from x))))))) (Err refusal.Body)
          ≡ Err refusal.Body
      other e false f r g = refl
      other e true f (Ok tt) g = absurd (false≢true (sym e ∙ (acceptable_decides x).1 (taken_parts f g)))
      other e true f (Err r) g = refl

      go : (t : Bool) → is_acceptable x ≡ t → built ≡ cond {A = Result Timestamp Refusal} t (Ok (pair_from x)) (Err refusal.Body)
      go true e = accepted ((acceptable_decides x).0 e)
      go false e = other e (is_utc_time x.offset x.utc) refl checks refl

-- ---- the parts that are decoded

-- the parts of a body with digits and coefficient, where its decimal has them
abbrev pub with_units : Parts Decimal → Option (ℕ × ℕ) → Option Body
with_units y = option_map (λ (u : ℕ × ℕ). body_with y.offset y.fields u.0 u.1)

module _ (y : Parts Decimal) (within : WithinDay y.offset) (most : length y.fields ≤ 6) (counted : is_field_count (length y.fields) ≡ true)
    (small : Below 16384 y.fields) (late : length y.fields < 6 → (decimal y.fraction).digits ≡ 0) where
  pub stamp_is : stamp_from (Some y) ≡ parts_answer (with_units y (coefficient_units y.fraction))
  stamp_is = go (coefficient_units y.fraction) (units_are y.fraction)
    where
      utc : ℕ → Fields
      utc n = fields_from (filled y.fields) (precision_with (length y.fields)) n

      go : (q : Option (ℕ × ℕ)) → Units y.fraction q → stamp_from (Some y) ≡ parts_answer (with_units y q)
      go q (Units.some d c i) =
          let x = body_with y.offset y.fields d c in
          let few = i.few in
          let p = encodable_with y.offset y.fields d c within most counted small (omega arith) i.low i.none (λ k. sym i.digits ∙ late k) in
          ap₂ (λ (m b : ℕ). answer y.offset (utc m) b) i.digits i.attoseconds ∙ built_parts x p
      go q (Units.fine h) = many_digits y.offset (utc (decimal y.fraction).digits) (decimal y.fraction).attoseconds h
      go q (Units.large h) = whole_second y.offset (utc (decimal y.fraction).digits) (decimal y.fraction).attoseconds h
