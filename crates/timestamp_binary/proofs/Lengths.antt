-- How long a body and a value are, at most and at least. Assumes nothing.
use mathlib.Core.Path.{ap}
use mathlib.Core.Bool.{Bool, true, false, cond}
use mathlib.Core.List.{List, [], ◌∷◌, ◌++◌}
use Prim.Native.Nat.{ℕ, zero, suc, ◌+◌, ◌/◌, ◌^◌, ◌≤◌, ◌<◌}
use native.Mathlib.Nat.{div-le_self}
use native.Mathlib.Omega.{arith}
use lib.Dec.{leb, lit≤, lit<}
use lib.IntN.{nat_abs}
use lib.ListN.{length, take, length-append, length-take}
use Rattle.places.proofs.Below.{Below, below_take, each_below}
use Rattle.ion.specs.Numbers.VarUInt.{varuint}
use Rattle.ion.specs.Numbers.VarInt.{signed, varint, is_negative}
use Rattle.ion.specs.Numbers.Int.{int}
use Rattle.ion.specs.Calendar.Shift.{IsDateTime}
use Rattle.ion.specs.Pair.Offset.{WithinDay, offset_of}
use Rattle.ion.specs.Pair.Word.{fields_of}
use Rattle.ion.specs.Pair.Pair.{word_in}
use Rattle.ion.specs.Pair.Fraction.{scale}
use Rattle.ion.specs.Calls.Accepted.{Accepted, date_in, time_in}
use Rattle.ion.specs.Calls.Utc.{utc_fields}
use Rattle.ion.specs.Calls.Contents.{in_turn}
use Rattle.ion.specs.Value.Encode.{offset_bytes, varuints, field_list, field_count, fraction_bytes, body_from, body_of, header, value_of}
use Rattle.ion.specs.declared.Fields.{Fields}
use Rattle.ion.specs.declared.Timestamp.{Timestamp}
use Rattle.ion.specs.declared.offset.OffsetMinutes.{OffsetMinutes}
use Rattle.std.specs.Prelude.{Option, None, Some}
use Rattle.output.proofs.Runs.{run_front}
use Rattle.binary.proofs.VarUInts.{count_shortest, count_some, length_varuint}
use Rattle.binary.proofs.VarInts.{length_signed, signed_shortest, signed_some}
use Rattle.binary.proofs.Ints.{length_int, int_least}
use Rattle.calendar.proofs.Dates.{month_of_lem, day_of_lem}
use Rattle.timestamp.proofs.Valid.{valid_offset}
use Rattle.timestamp.proofs.Accepts.{check_gives}
use Rattle.timestamp.proofs.UtcForm.{utc_is}
use Rattle.timestamp_binary.proofs.BodyRuns.{fraction_bytes_lem}

-- ---- the most: an offset of 2 bytes, a year of 2, a byte for each other field, an exponent of 1 and a coefficient of 8

offset_length : (o : Option OffsetMinutes) → WithinDay o → length (offset_bytes o) ≤ 2
unfolding offset_bytes varint
offset_length None h = omega (arith, length_signed true 0, signed_shortest 1 0 (omega arith))
offset_length (Some m) h =
    let n = nat_abs m.0 in
    omega (arith, length_signed (is_negative m.0) n, signed_shortest 1 n (omega arith))

short_length : (l : List ℕ) → Below 128 l → length (varuints l) ≤ length l
unfolding in_turn
short_length [] h = omega arith
short_length (v ∷ l) h =
    let x = h 0 in
    let after = short_length l (λ i. h (suc i)) in
    omega (arith, length-append (varuint v) (varuints l), length_varuint v, count_shortest 0 v (omega arith))

fields_length : (n y : ℕ) (l : List ℕ) → y < 16384 → Below 128 l → length (varuints (take n (y ∷ l))) ≤ 2 + length l
unfolding in_turn
fields_length zero y l h k = omega arith
fields_length (suc n) y l h k =
    let after = short_length (take n l) (below_take 128 n l (lit< tt) k) in
    omega (arith, length-append (varuint y) (varuints (take n l)), length_varuint y, count_shortest 1 y (omega arith), length-take n l)

fraction_length_lem : (d c : ℕ) → d ≤ 18 → c < 10 ^ 18 → length (fraction_bytes d c) ≤ 9
unfolding fraction_bytes
fraction_length_lem zero c h k = omega arith
fraction_length_lem (suc d) c h k =
    let e = length-append (signed true (suc d)) (int c) in
    let exponent = signed_shortest 0 (suc d) (omega arith) in
    omega (arith, ap length (fraction_bytes_lem d c), length_signed true (suc d), length_int c, int_least 8 c (omega arith))

-- the fields after the year, each below a bound
pub fields_below : (b : ℕ) → 60 ≤ b → (u : Fields) → IsDateTime (time_in u) → u.second ≤ 59
    → Below b (u.month ∷ u.day ∷ u.hour ∷ u.minute ∷ u.second ∷ [])
fields_below b l u t s =
    let d = date_in u in
    each_below b (u.month ∷ u.day ∷ u.hour ∷ u.minute ∷ u.second ∷ []) (
      omega (arith, month_of_lem d t.date),
      (omega (arith, day_of_lem d t.date), (omega (arith, t.hours), (omega (arith, t.minutes), (omega arith, omega arith)))),
    )

pub body_length : (s : Timestamp) → Accepted s → length (body_of s) ≤ 18
unfolding body_of body_from
body_length s p =
    let f = fields_of (word_in s) in
    let v = p.fields in
    let u = utc_fields f in
    let i = utc_is v in
    let c = s.attoseconds / scale f.digits in
    let below : c < 10 ^ 18 = omega (arith, div-le_self s.attoseconds (scale f.digits), v.attoseconds) in
    let l = take (field_count u.precision) (field_list u) in
    let after = u.month ∷ u.day ∷ u.hour ∷ u.minute ∷ u.second ∷ [] in
    let short = fields_below 128 (lit≤ tt) u i.time (omega (arith, i.second, v.second)) in
    omega (
      arith,
      length-append (offset_bytes (offset_of f.offset)) (varuints l ++ fraction_bytes u.digits c),
      length-append (varuints l) (fraction_bytes u.digits c),
      offset_length (offset_of f.offset) (valid_offset v),
      fields_length (field_count u.precision) u.year after (omega (arith, i.year)) short,
      fraction_length_lem u.digits c (omega (arith, i.digits, v.digits)) below,
    )

header_length : (n : ℕ) → n < 128 → length (header n) ≤ 2
unfolding header
header_length n h = go (leb n 13)
  where
    go : (t : Bool) → length (cond t ((0x60 + n) ∷ []) (0x6e ∷ varuint n)) ≤ 2
    go true = omega arith
    go false = omega (arith, length_varuint n, count_shortest 0 n (omega arith))

pub value_length : (s : Timestamp) → Accepted s → length (value_of s) ≤ 20
unfolding value_of
value_length s p =
    let b = body_of s in
    let most = body_length s p in
    omega (arith, length-append (header (length b)) b, header_length (length b) (omega (arith, most)), most)

-- ---- the least: a byte each of a header, an offset and a year

offset_some : (o : Option OffsetMinutes) → 1 ≤ length (offset_bytes o)
unfolding offset_bytes varint
offset_some None = omega (arith, length_signed true 0, signed_some 0)
offset_some (Some m) = omega (arith, length_signed (is_negative m.0) (nat_abs m.0), signed_some (nat_abs m.0))

year_some : (p y : ℕ) (l : List ℕ) → 1 ≤ length (varuints (take (field_count p) (y ∷ l)))
unfolding in_turn field_count
year_some p y l = go (leb 3 p)
  where
    at : (n : ℕ) → 0 < n → 1 ≤ length (varuints (take n (y ∷ l)))
    at zero h = absurd (omega arith)
    at (suc n) h = omega (arith, length-append (varuint y) (varuints (take n l)), length_varuint y, count_some y)

    go : (t : Bool) → 1 ≤ length (varuints (take (cond t (p + 2) (p + 1)) (y ∷ l)))
    go true = at (p + 2) (omega arith)
    go false = at (p + 1) (omega arith)

body_some : (o : Option OffsetMinutes) (u : Fields) (c : ℕ) → 2 ≤ length (body_from o u c)
unfolding body_from
body_some o u c =
    let l = varuints (take (field_count u.precision) (field_list u)) in
    let r = fraction_bytes u.digits c in
    omega (
      arith,
      length-append (offset_bytes o) (l ++ r),
      length-append l r,
      offset_some o,
      year_some u.precision u.year (u.month ∷ u.day ∷ u.hour ∷ u.minute ∷ u.second ∷ []),
    )

header_some : (n : ℕ) → 1 ≤ length (header n)
unfolding header
header_some n = go (leb n 13)
  where
    go : (t : Bool) → 1 ≤ length (cond t ((0x60 + n) ∷ []) (0x6e ∷ varuint n))
    go true = omega arith
    go false = omega arith

pub value_some : (s : Timestamp) → 3 ≤ length (value_of s)
unfolding value_of body_of
value_some s =
    let f = fields_of (word_in s) in
    let c = s.attoseconds / scale f.digits in
    let b = body_from (offset_of f.offset) (utc_fields f) c in
    omega (arith, length-append (header (length b)) b, header_some (length b), body_some (offset_of f.offset) (utc_fields f) c)

-- ---- lists of laws, for the code

-- of an offset
pub ruleset own = (length_signed)

-- of a body
pub ruleset all = (check_gives, body_length, run_front)
