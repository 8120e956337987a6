-- The fields that the packed check hands to the builder: staged always, and all of them where they are valid. Assumes nothing.
use mathlib.Core.Path.{◌≡◌, refl, sym, ap, ap₂, subst, ◌∙◌}
use mathlib.Core.Bool.{false, not}
use Prim.Native.Nat.{ℕ, zero, suc, ◌%◌, ◌^◌, ◌≤◌, ◌<◌, min}
use native.Mathlib.Nat.{mod-eq_of_lt}
use native.Mathlib.Decide.{dec_le, dec_lt}
use native.Mathlib.Omega.{arith}
use borrow.Author.Tests.{lt-ltb, le-leb, lt-leb, ne_eqb}
use Rattle.std.specs.Prelude.{Option, None, Some, Result, Ok}
use Rattle.std.specs.Result.{result_and}
use Rattle.ion.specs.Pair.Offset.{WithinDay, raw_of, offset_of}
use Rattle.ion.specs.Pair.Word.{word_of}
use Rattle.ion.specs.Pair.Pair.{packed_pair}
use Rattle.ion.specs.Pair.Fraction.{scale}
use Rattle.ion.specs.Calls.Build.{precision_number, first_of, is_year, is_day}
use Rattle.ion.specs.Calls.Build.{to_offset, route_checks, local_checks, given_time}
use Rattle.ion.specs.Calls.Build.{local_time, pair_at, build_checks, build_pair, build_of}
use Rattle.ion.specs.Calls.Check.{precision_of, from_local, offset_at, given_at, fraction_at, rebuilt, all_of}
use Rattle.ion.specs.Calls.Accepted.{InBounds, Staged, Valid, date_in}
use Rattle.ion.specs.declared.Fields.{Fields}
use Rattle.ion.specs.declared.BuilderFields.{BuilderFields}
use Rattle.ion.specs.declared.offset.RawOffset.{RawOffset}
use Rattle.ion.specs.declared.offset.OffsetMinutes.{OffsetMinutes}
use Rattle.ion.specs.declared.Timestamp.{Timestamp}
use Rattle.ion.specs.declared.refusal.Refusal.{Refusal}
use Rattle.ion.proofs.Offsets.{back_and_raw}
use Rattle.calendar.proofs.Dates.{date_is, month_of_lem, day_of_lem}
use Rattle.fraction.proofs.Scales.{cut_same, cut_multiple}
use Rattle.builder.proofs.Checks.{pass_ok}
use Rattle.builder.proofs.Bounds.{bounds_ranges, year_decides}
use Rattle.builder.proofs.Routed.{checks_routed}
use Rattle.timestamp.proofs.Rebuilt.{check_digits, check_built}
use Rattle.timestamp.proofs.Valid.{valid_offset}

-- 5 to 7 read as 4
precision_min : (p : ℕ) → precision_number (precision_of p) ≡ min p 4
precision_min zero = refl
precision_min (suc zero) = refl
precision_min (suc (suc zero)) = refl
precision_min (suc (suc (suc zero))) = refl
precision_min (suc (suc (suc (suc n)))) =
    let p = suc (suc (suc (suc n))) in
    simp (ne_eqb p 0 (omega arith), ne_eqb p 1 (omega arith), ne_eqb p 2 (omega arith), ne_eqb p 3 (omega arith)) (omega arith)

-- ---- fields that the precision does not have

given_first : (from p x first : ℕ) → p < from → given_at from p x first ≡ first
given_first from p x first h = simp (lt-leb from p h)

-- what is cut to its digits has no more than those
fraction_multiple : (p d a : ℕ) → fraction_at p d a % scale (given_at 4 p d 0) ≡ 0
fraction_multiple p d a = go (dec_le 4 p) (dec_lt 0 d)
  where
    go : Dec (4 ≤ p) → Dec (0 < d) → fraction_at p d a % scale (given_at 4 p d 0) ≡ 0
    go (yes h) (yes k) = simp (le-leb 4 p h, lt-ltb 0 d k) (cut_multiple d a)
    go (yes h) (no k) = let z : d ≡ 0 = omega arith in simp (le-leb 4 p h, z)
    go (no h) k = let q : p < 4 = omega arith in simp (lt-leb 4 p q)

pub rebuilt_staged : (f : Fields) (a : ℕ) → Staged (rebuilt f a)
rebuilt_staged f a =
    let p = f.precision in
    let m = precision_min p in
    record {
      month = λ k. given_first 1 p f.month 1 (omega (arith, m));
      day = λ k. given_first 2 p f.day 1 (omega (arith, m));
      hour = λ k. given_first 3 p f.hour 0 (omega (arith, m));
      minute = λ k. given_first 3 p f.minute 0 (omega (arith, m));
      offset = λ k. let l : p < 3 = omega (arith, m) in simp (lt-leb 3 p l);
      second = λ k. given_first 4 p f.second 0 (omega (arith, m));
      digits = λ k. given_first 4 p f.digits 0 (omega (arith, m));
      multiple = λ k. fraction_multiple p f.digits a;
    }

-- ---- valid fields: every one is handed on

pub given_same : (from p x first : ℕ) → (p < from → x ≡ first) → given_at from p x first ≡ x
given_same from p x first h = go (dec_le from p)
  where
    go : Dec (from ≤ p) → given_at from p x first ≡ x
    go (yes k) = simp (le-leb from p k)
    go (no n) = let k : p < from = omega arith in simp (lt-leb from p k) (sym (h k))

offset_same : (p : ℕ) (r : RawOffset) → (p < 3 → r.0 ≡ 0) → offset_at p r ≡ from_local (offset_of r)
offset_same p r h = go (dec_le 3 p)
  where
    go : Dec (3 ≤ p) → offset_at p r ≡ from_local (offset_of r)
    go (yes k) = simp (le-leb 3 p k)
    go (no n) = let k : p < 3 = omega arith in simp (lt-leb 3 p k, h k)

fraction_same : (p d a : ℕ) → (p < 4 → d ≡ 0) → a < 10 ^ 18 → a % scale d ≡ 0 → fraction_at p d a ≡ a
fraction_same p d a n l m = go (dec_le 4 p) (dec_lt 0 d)
  where
    none : d ≡ 0 → 0 ≡ a
    none e = sym (sym (mod-eq_of_lt l) ∙ ap (λ (k : ℕ). a % scale k) (sym e) ∙ m)

    go : Dec (4 ≤ p) → Dec (0 < d) → fraction_at p d a ≡ a
    go (yes h) (yes k) = simp (le-leb 4 p h, lt-ltb 0 d k) (cut_same d a m)
    go (yes h) (no k) = let z : d ≡ 0 = omega arith in simp (le-leb 4 p h, z) (none z)
    go (no h) k = let q : p < 4 = omega arith in simp (lt-leb 4 p q) (none (n q))

rebuilt_all : {f : Fields} {a : ℕ} → Valid f a → rebuilt f a ≡ all_of f a
rebuilt_all {f} {a} v =
    let p = f.precision in
    let o = offset_same p f.offset v.no_offset in
    let mo = given_same 1 p f.month 1 v.no_month in
    let d = given_same 2 p f.day 1 v.no_day in
    let h = given_same 3 p f.hour 0 v.no_hour in
    let mi = given_same 3 p f.minute 0 v.no_minute in
    let s = given_same 4 p f.second 0 v.no_second in
    let x = fraction_same p f.digits a v.no_digits v.attoseconds v.multiple in
    let n = given_same 4 p f.digits 0 v.no_digits in
    λ i.
    record {
      precision = precision_of p;
      offset = o i;
      year = f.year;
      month = mo i;
      day = d i;
      hour = h i;
      minute = mi i;
      second = s i;
      attoseconds = x i;
      digits = n i;
    }

-- ---- valid fields are built into their word

offset_is : (o : Option OffsetMinutes) → to_offset (from_local o) ≡ o
offset_is None = refl
offset_is (Some m) = refl

-- the offset of a packed word is that of local fields
pub offset_local : (b : BuilderFields) (o : Option OffsetMinutes)
    → (route_checks b (from_local o) ≡ local_checks b) × (local_time b (from_local o) ≡ given_time b)
offset_local b None = (refl, refl)
offset_local b (Some m) = (refl, refl)

all_bounds : {f : Fields} {a : ℕ} → Valid f a → InBounds (all_of f a)
all_bounds {f} {a} v =
    record {
      attoseconds = v.attoseconds;
      year = v.to_year;
      month = month_of_lem (date_in f) v.date;
      day = day_of_lem (date_in f) v.date;
      hour = v.hour;
      minute = v.minute;
      second = v.second;
      digits = v.digits;
      offset = subst WithinDay (sym (offset_is (offset_of f.offset))) (valid_offset v);
    }

all_checks : {f : Fields} {a : ℕ} → Valid f a → build_checks (all_of f a) ≡ Ok tt
all_checks {f} {a} v =
    let b = all_of f a in
    let y : not (is_year f.year) ≡ false = ap not ((year_decides f.year).1 (v.from_year, v.to_year)) in
    let d : not (is_day b) ≡ false = ap not (date_is (date_in f) v.date) in
    checks_routed b
    ∙ ap₂ result_and (bounds_ranges b (all_bounds v))
    (ap first_of (offset_local b (offset_of f.offset)).0 ∙ pass_ok (local_checks b) (y, (d, tt)))

all_pair : {f : Fields} {a : ℕ} → Valid f a → build_pair (all_of f a) ≡ packed_pair (word_of f) a
unfolding build_pair
all_pair {f} {a} v =
    let b = all_of f a in
    let p : precision_number (precision_of f.precision) ≡ f.precision = precision_min f.precision ∙ omega (arith, v.precision) in
    let r : raw_of (offset_of f.offset) ≡ f.offset = back_and_raw f.offset v.offset in
    ap₂ (pair_at b) (offset_local b (offset_of f.offset)).1 (offset_is (offset_of f.offset))
    ∙ ap (λ (g : Fields). packed_pair (word_of g) a)
    (λ i.
    record {
      year = f.year;
      month = f.month;
      day = f.day;
      hour = f.hour;
      minute = f.minute;
      second = f.second;
      precision = p i;
      digits = f.digits;
      offset = r i;
    })

-- all of valid local fields are built into their pair
pub valid_builds : {f : Fields} {a : ℕ} → Valid f a → build_of (all_of f a) ≡ Ok (packed_pair (word_of f) a)
unfolding build_of
valid_builds v = ap₂ (λ (c : Result Unit Refusal) (s : Timestamp). result_and c (Ok s)) (all_checks v) (all_pair v)

-- what the check rebuilds of valid fields is built into their pair
pub rebuilt_builds : {f : Fields} {a : ℕ} → Valid f a → build_of (rebuilt f a) ≡ Ok (packed_pair (word_of f) a)
rebuilt_builds v = ap build_of (rebuilt_all v) ∙ valid_builds v

-- for the code: the check by its parts, and that the fields it hands on are staged
pub ruleset by_parts = (check_digits, check_built, rebuilt_staged)
