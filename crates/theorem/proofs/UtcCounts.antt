-- The count of an accepted timestamp, nothing cut off and fields that it does not have as their first values, and the sign of a
-- difference of counts. Assumes nothing.
use mathlib.Core.Path.{◌≡◌, sym, ap, ◌∙◌}
use Prim.Native.Nat.{ℕ, ◌+◌, ◌-◌, ◌*◌, ◌^◌}
use native.Mathlib.Omega.{arith}
use lib.IntN.{ℤ, pos, negsuc, ◌-ℤ◌, ◌*ℤ◌}
use borrow.Author.Differences.{up, down, product_is, same_in}
use Rattle.integers.proofs.Parts.{sub_parts}
use Rattle.ion.specs.Pair.Pair.{word_in}
use Rattle.ion.specs.Pair.Word.{fields_of}
use Rattle.ion.specs.Pair.Count.{attoseconds_in, offset_in, count_of}
use Rattle.ion.specs.Calendar.Shift.{minute_number}
use Rattle.ion.specs.Calls.Accepted.{time_in, Valid, Accepted}
use Rattle.std.specs.Ordering.{nat_cmp}
use Rattle.ion.specs.declared.Fields.{Fields}
use Rattle.ion.specs.declared.Timestamp.{Timestamp}
use Rattle.timestamp.proofs.CheckedFields.{given_same}
use Rattle.order.proofs.Orders.{by_order}
use Rattle.order.proofs.Clocks.{valid_local, utc_parts}
use Rattle.theorem.specs.TwoStamps.{with_first_values, utc_count_in, utc_count, SignOf, below, none, above}

has_first_values : {f : Fields} {a : ℕ} → Valid f a → f ≡ with_first_values f
has_first_values {f} v =
    let p = f.precision in
    let month = given_same 1 p f.month 1 v.no_month in
    let day = given_same 2 p f.day 1 v.no_day in
    let hour = given_same 3 p f.hour 0 v.no_hour in
    let minute = given_same 3 p f.minute 0 v.no_minute in
    let second = given_same 4 p f.second 0 v.no_second in
    λ i.
    record {
      year = f.year;
      month = sym month i;
      day = sym day i;
      hour = sym hour i;
      minute = sym minute i;
      second = sym second i;
      precision = p;
      digits = f.digits;
      offset = f.offset;
    }

-- more minutes are more attoseconds
scaled : (m n u v s a : ℕ) → m + u ≡ n + v → attoseconds_in m s a + u * (60 * 10 ^ 18) ≡ attoseconds_in n s a + v * (60 * 10 ^ 18)
scaled m n u v s a e = omega arith

-- the local count less the offset's attoseconds
count_is : (s : Timestamp) → Accepted s → pos (count_of s) ≡ utc_count_in (fields_of (word_in s)) s.attoseconds
unfolding count_of
count_is s p =
    let f = fields_of (word_in s) in
    let o = offset_in f in
    let l = attoseconds_in (minute_number (time_in f)) f.second s.attoseconds in
    let z = o *ℤ pos (60 * 10 ^ 18) in
    let e = scaled _ _ (up o) (down o) f.second s.attoseconds (utc_parts f (valid_local p.fields)) in
    same_in (pos (count_of s)) (pos l -ℤ z) (omega (arith, sub_parts (pos l) z, product_is o (pos (60 * 10 ^ 18)), e))

pub count_exact : (s : Timestamp) → Accepted s → pos (count_of s) ≡ utc_count s
count_exact s p = count_is s p ∙ ap (λ (f : Fields). utc_count_in f s.attoseconds) (has_first_values p.fields)

-- the order of two counts is the sign of their difference
pub order_sign : (m n : ℕ) → SignOf (nat_cmp m n) (pos m -ℤ pos n)
order_sign m n =
    by_order m n (λ z. SignOf z (pos m -ℤ pos n))
    (λ h. rw (is (negsuc (n - m - 1)) (omega arith)) (below (n - m - 1)))
    (λ h. rw (is (pos 0) (omega arith)) none)
    (λ h. rw (is (pos (m - n)) (omega arith)) (above (m - n) (omega arith)))
  where
    is : (z : ℤ) → up z + n ≡ m + down z → pos m -ℤ pos n ≡ z
    is z e = same_in (pos m -ℤ pos n) z (omega (arith, e, sub_parts (pos m) (pos n)))
