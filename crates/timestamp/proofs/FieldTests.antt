-- The tests of a word's fields, one after the other, decide whether they are valid, and so what the packed check answers.
-- Assumes nothing.
use mathlib.Core.Path.{◌≡◌, ap, subst}
use mathlib.Core.Bool.{Bool, false, ◌&&◌, ◌||◌}
use Prim.Native.Nat.{ℕ, ◌%◌, ◌^◌, ◌≤◌, ◌<◌}
use lib.Dec.{eqb, leb, ltb}
use Rattle.std.specs.Result.{is_ok}
use Rattle.std.proofs.lemmas.Bool.{false_from_ne_true}
use Rattle.ion.specs.Calendar.Dates.{is_date, IsDate}
use Rattle.ion.specs.Pair.Word.{fields_of}
use Rattle.ion.specs.Pair.Pair.{word_in}
use Rattle.ion.specs.Pair.Fraction.{scale}
use Rattle.ion.specs.Calls.Check.{check_of}
use Rattle.ion.specs.Calls.Accepted.{Valid, date_in}
use Rattle.ion.specs.declared.Date.{Date}
use Rattle.ion.specs.declared.Fields.{Fields}
use Rattle.ion.specs.declared.Timestamp.{Timestamp}
use Rattle.fraction.proofs.Scales.{scale_pos}
use Rattle.calendar.proofs.Dates.{is_date_lem, date_is}
use Rattle.places.proofs.Decides.{Decides, le_decides, lt_decides, eq_decides, ◌and◌, below_decides}
use Rattle.timestamp.proofs.Accepts.{check_gives, check_accepts}

-- ---- the fields

abbrev pub bounds_test : Fields → Bool
bounds_test f =
    leb 1 f.year && leb f.year 9999 && leb f.hour 23 && leb f.minute 59 && leb f.second 59 && leb f.precision 4 && leb
    f.digits 18
    && ltb f.offset.0 2880

abbrev pub first_test : Fields → Bool
first_test f =
    (leb 1 f.precision || eqb f.month 1)
    && (leb 2 f.precision || eqb f.day 1)
    && (leb 3 f.precision || (eqb f.hour 0 && eqb f.minute 0 && eqb f.offset.0 0))
    && (leb 4 f.precision || (eqb f.second 0 && eqb f.digits 0))

abbrev pub valid_test : Fields → ℕ → Bool
valid_test f a = bounds_test f && first_test f && ltb a (10 ^ 18) && is_date (date_in f) && eqb (a % scale f.digits) 0

-- each test with the fact that it decides, in that order
abbrev pub Bounds : Fields → Type 0
Bounds f =
    (((((((1 ≤ f.year) × (f.year ≤ 9999)) × (f.hour ≤ 23)) × (f.minute ≤ 59)) × (f.second ≤ 59)) × (f.precision ≤ 4))
    × (f.digits ≤ 18))
    × (f.offset.0 < 2880)

abbrev First : Fields → Type 0
First f =
    (((f.precision < 1 → f.month ≡ 1)
    × (f.precision < 2 → f.day ≡ 1))
    × (f.precision < 3 → ((f.hour ≡ 0) × (f.minute ≡ 0)) × (f.offset.0 ≡ 0)))
    × (f.precision < 4 → (f.second ≡ 0) × (f.digits ≡ 0))

pub bounds_decides : (f : Fields) → Decides (bounds_test f) (Bounds f)
bounds_decides f =
    le_decides 1 f.year
    and le_decides f.year 9999
    and le_decides f.hour 23
    and le_decides f.minute 59
    and le_decides f.second 59
    and le_decides f.precision 4
    and le_decides f.digits 18
    and lt_decides f.offset.0 2880

first_decides : (f : Fields) → Decides (first_test f) (First f)
first_decides f =
    let p = f.precision in
    below_decides 1 p (eq_decides f.month 1)
    and below_decides 2 p (eq_decides f.day 1)
    and below_decides 3 p (eq_decides f.hour 0 and eq_decides f.minute 0 and eq_decides f.offset.0 0)
    and below_decides 4 p (eq_decides f.second 0 and eq_decides f.digits 0)

date_decides : (t : Date) → Decides (is_date t) (IsDate t)
date_decides t = (is_date_lem t, date_is t)

abbrev All : Fields → ℕ → Type 0
All f a = (((Bounds f × First f) × (a < 10 ^ 18)) × IsDate (date_in f)) × (a % scale f.digits ≡ 0)

all_valid : (f : Fields) (a : ℕ) → All f a → Valid f a
all_valid f a (((((((((((y, z), h), mi), s), p), n), o), (((mo, d), t), u)), l), day), m) =
    record {
      from_year = y;
      to_year = z;
      date = day;
      hour = h;
      minute = mi;
      second = s;
      precision = p;
      digits = n;
      offset = o;
      attoseconds = l;
      multiple = m;
      no_month = mo;
      no_day = d;
      no_hour = λ k. (t k).0.0;
      no_minute = λ k. (t k).0.1;
      no_offset = λ k. (t k).1;
      no_second = λ k. (u k).0;
      no_digits = λ k. (u k).1;
    }

valid_all : (f : Fields) (a : ℕ) → Valid f a → All f a
valid_all f a v =
    let b : Bounds f = (((((((v.from_year, v.to_year), v.hour), v.minute), v.second), v.precision), v.digits), v.offset) in
    let i : First f = (
      ((v.no_month, v.no_day), λ k. ((v.no_hour k, v.no_minute k), v.no_offset k)),
      λ k. (v.no_second k, v.no_digits k),
    ) in
    ((((b, i), v.attoseconds), v.date), v.multiple)

pub valid_decides : (f : Fields) (a : ℕ) → Decides (valid_test f a) (Valid f a)
valid_decides f a =
    let head = bounds_decides f and first_decides f and lt_decides a (10 ^ 18) in
    let all = head and date_decides (date_in f) and eq_decides (a % scale f.digits) 0 in
    (λ t. all_valid f a (all.0 t), λ v. all.1 (valid_all f a v))

-- so does what equals the whole test
pub valid_by : (f : Fields) (a : ℕ) (b : Bool) → valid_test f a ≡ b → Decides b (Valid f a)
valid_by f a b e = subst (λ (b : Bool). Decides b (Valid f a)) e (valid_decides f a)

-- ---- the check

-- a word of 64 bits whose low four are 0
pub accepted_decides : (s : Timestamp) → word_in s < 2 ^ 64 → word_in s % 16 ≡ 0
    → Decides (is_ok (check_of s)) (Valid (fields_of (word_in s)) s.attoseconds)
accepted_decides s h z = (
  λ t. (check_gives s t).fields,
  λ v. ap is_ok (check_accepts s (record { fields = v; reserved = z; fits = h })),
)

-- else it is refused
pub reserved_refused : (s : Timestamp) → (word_in s % 16 ≡ 0 → ⊥) → is_ok (check_of s) ≡ false
reserved_refused s n = false_from_ne_true (is_ok (check_of s)) (λ e. n (check_gives s e).reserved)

-- ---- lists of laws, for the code

-- a divisor is above 0
pub ruleset scales = (scale_pos)

-- the check of a pair, by its fields
pub ruleset decided = (accepted_decides, reserved_refused)
