-- The reader's tests of a body's parts, one after the other, decide whether its UTC fields are in bounds. Assumes nothing.
use mathlib.Core.Path.{◌≡◌, refl, sym, ◌∙◌}
use mathlib.Core.Bool.{Bool, true, false, cond}
use mathlib.Core.Logic.{inl, inr}
use Prim.Native.Nat.{ℕ, ◌^◌, ◌≤◌, ◌<◌, min}
use native.Mathlib.Decide.{dec_le}
use native.Mathlib.Omega.{arith}
use Rattle.std.specs.Prelude.{Option, None, Some, Result, Ok, Err}
use borrow.Author.Tests.{leb-true, le-leb}
use lib.Dec.{leb, ltb}
use Rattle.ion.specs.Calendar.Dates.{IsDate, is_date}
use Rattle.ion.specs.Calls.Accepted.{date_in}
use Rattle.ion.specs.Value.Decode.{local_by, pair_from}
use Rattle.ion.specs.declared.Body.{Body}
use Rattle.ion.specs.declared.Timestamp.{Timestamp}
use Rattle.ion.specs.declared.refusal.Refusal.{Refusal}
use Rattle.ion.specs.declared.refusal.Refusal.TheVariants as refusal
use Rattle.ion.specs.declared.offset.OffsetMinutes.{OffsetMinutes}
use Rattle.calendar.proofs.Dates.{is_date_lem, date_is}
use Rattle.builder.proofs.Bounds.{year_decides}
use Rattle.places.proofs.Decides.{Decides, le_decides, lt_decides, then_decides, ◌and◌}
use Rattle.ion.specs.Value.ReadPaddedValue.{offset_fits}
use Rattle.value_decoder.specs.BodyParts.{UtcInBounds, Acceptable, PartsRead, in_bounds, is_acceptable, parts_answer}

-- ---- each with the fact that it decides

pub offset_decides : (p : ℕ) (o : Option OffsetMinutes) → Decides (offset_fits p o) (p < 3 → o ≡ None)
offset_decides p None = (λ t h. refl, λ q. refl)
offset_decides p (Some m) = (λ t h. absurd (omega (arith, leb-true 3 p t)), λ q. go q (dec_le 3 p))
  where
    go : (p < 3 → Some m ≡ None) → Dec (3 ≤ p) → leb 3 p ≡ true
    go q (yes h) = le-leb 3 p h
    go q (no h) = absurd (let e : Some m ≡ None = q (omega arith) in cc)

coefficient_decides : (c d : ℕ) → d ≤ 18 → Decides (ltb c (10 ^ min d 18)) (c < 10 ^ d)
coefficient_decides c d h = let e : min d 18 ≡ d = omega arith in rw e (lt_decides c (10 ^ d))

-- ---- together

abbrev All : Body → Type 0
All x =
    (((((((x.utc.year ≤ 10000) × (x.utc.hour ≤ 23)) × (x.utc.minute ≤ 59)) × (x.utc.second ≤ 59)) × (x.utc.digits ≤ 18))
    × (x.utc.precision < 3 → x.offset ≡ None))
    × (x.coefficient < 10 ^ x.utc.digits))
    × IsDate (date_in x.utc)

all_decides : (x : Body) → Decides (in_bounds x) (All x)
all_decides x =
    let u = x.utc in
    let time = le_decides u.year 10000 and le_decides u.hour 23 and le_decides u.minute 59 and le_decides u.second 59 in
    let bounds = time and le_decides u.digits 18 and offset_decides u.precision x.offset in
    let date : Decides (is_date (date_in u)) (IsDate (date_in u)) = (is_date_lem (date_in u), date_is (date_in u)) in
    then_decides bounds (λ p. coefficient_decides x.coefficient u.digits p.0.1) and date

bounds_all : (x : Body) → UtcInBounds x → All x
bounds_all x v =
    let h : x.utc.hour ≤ 23 = omega (arith, v.time.hours) in
    let m : x.utc.minute ≤ 59 = omega (arith, v.time.minutes) in
    (((((((v.year, h), m), v.second), v.digits), v.known_late), v.coefficient), v.time.date)

all_bounds : (x : Body) → All x → UtcInBounds x
all_bounds x (((((((y, h), m), s), n), o), c), d) =
    record {
      time = record { date = d; hours = omega arith; minutes = omega arith };
      year = y;
      second = s;
      digits = n;
      coefficient = c;
      known_late = o;
    }

pub parts_decides : (x : Body) → Decides (in_bounds x) (UtcInBounds x)
parts_decides x = let d = all_decides x in (λ t. all_bounds x (d.0 t), λ v. d.1 (bounds_all x v))

-- ---- with the local year, whether the parts are acceptable

pub acceptable_decides : (x : Body) → Decides (is_acceptable x) (Acceptable x)
acceptable_decides x =
    let d = parts_decides x and year_decides (local_by x.offset x.utc).year in (
      (λ t. let p = d.0 t in record { bounds = p.0; from_year = p.1.0; to_year = p.1.1 }),
      (λ v. d.1 (v.bounds, (v.from_year, v.to_year))),
    )

-- what is read of parts is the answer
pub parts_answered : (x : Body) (r : Result Timestamp Refusal) → PartsRead x r → r ≡ parts_answer (Some x)
parts_answered x r (inl (q, w)) = w ∙ sym (rw ((acceptable_decides x).1 q))
parts_answered x r (inr (q, w)) = w ∙ go (is_acceptable x) refl
  where
    go : (t : Bool) → is_acceptable x ≡ t → Err refusal.Body ≡ cond {A = Result Timestamp Refusal} t (Ok (pair_from x)) (Err refusal.Body)
    go true e = absurd (q ((acceptable_decides x).0 e))
    go false e = refl

-- ---- a list of laws, for the code

pub ruleset bounds = (parts_decides)
