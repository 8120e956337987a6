-- Laws of offsets: which sums of them fit an i32, and raw numbers and offsets both ways. Assumes nothing.
use mathlib.Core.Path.{◌≡◌, refl, ap}
use Prim.Native.Nat.{ℕ, zero, suc, ◌^◌, ◌<◌}
use native.Mathlib.Omega.{arith}
use lib.IntN.{ℤ, pos, nat_abs, neg_ℤ, ◌+ℤ◌, ◌-ℤ◌}
use borrow.Author.Tests.{ne_eqb}
use mir.Syntax.{w32}
use mir.Val.{SFits}
use borrow.Author.Differences.{same_in, sum_is_lem}
use Rattle.integers.specs.Floor.{◌plus◌}
use Rattle.integers.proofs.Parts.{IsNatural, apart, abs_fits, nat_abs_parts, sub_parts, plus_parts, size_neg}
use Rattle.ion.specs.Pair.Offset.{offset_minutes, minutes_of, raw_offset, raw_of, offset_of, WithinDay}
use Rattle.ion.specs.declared.offset.RawOffset.{RawOffset}
use Rattle.std.specs.Prelude.{Option, None, Some}
use Rattle.ion.specs.declared.offset.OffsetMinutes.{OffsetMinutes}

-- ---- what fits an i32

pub offset_fits_lem : (z : ℤ) → nat_abs z < 1440 → SFits w32 z
offset_fits_lem z h = abs_fits w32 z (omega arith)

pub sum_fits : (a b : ℤ) → nat_abs a < 2 ^ 16 → nat_abs b < 2 ^ 16 → SFits w32 (a +ℤ b)
sum_fits a b h k =
    abs_fits w32 (a +ℤ b) (omega (arith, nat_abs_parts a, nat_abs_parts b, nat_abs_parts (a +ℤ b), sum_is_lem a b, apart (a +ℤ b)))

pub difference_fits : (a b : ℤ) → nat_abs a < 2 ^ 16 → nat_abs b < 2 ^ 16 → SFits w32 (a -ℤ b)
difference_fits a b h k = sum_fits a (neg_ℤ b) h (omega (arith, size_neg b))

pub within_day : (o : Option OffsetMinutes) → WithinDay o → nat_abs (minutes_of o) < 1440
within_day None h = omega arith
within_day (Some m) h = h

-- ---- raw numbers

-- less than a day either way, moved up by a day, is the raw number: 1 to 2879
pub raised : (z : ℤ) → nat_abs z < 1440 → IsNatural (z +ℤ pos 1440) (1440 plus z)
raised z h =
    omega (arith, nat_abs_parts z, sum_is_lem z (pos 1440), apart (z +ℤ pos 1440), plus_parts 1440 z (omega (arith, nat_abs_parts z)))

pub raw_below : (z : ℤ) → nat_abs z < 1440 → (0 < 1440 plus z) × (1440 plus z < 2880)
raw_below z h = omega (arith, nat_abs_parts z, plus_parts 1440 z (omega (arith, nat_abs_parts z)))

pub raw_lt : (o : Option OffsetMinutes) → WithinDay o → (raw_of o).0 < 2880
raw_lt None h = omega arith
raw_lt (Some m) h = (raw_below m.0 h).1

-- an offset through its raw number and back
pub raw_and_back : (o : Option OffsetMinutes) → WithinDay o → offset_of (raw_of o) ≡ o
raw_and_back None h = refl
raw_and_back (Some m) h =
    let n = 1440 plus m.0 in
    let b = raw_below m.0 h in
    let a = nat_abs_parts m.0 in
    let p = plus_parts 1440 m.0 (omega (arith, a)) in
    let z = same_in (pos n -ℤ pos 1440) m.0 (omega (arith, sub_parts (pos n) (pos 1440), a, p)) in
    rw (ne_eqb n 0 (omega arith)) (ap (λ (z : ℤ). Some (offset_minutes z)) z)

-- a raw number below 2880 through its offset and back
module _ (r : RawOffset) (h : r.0 < 2880) where
  abbrev Back : ℕ → Type 0
  Back n = (raw_of (offset_of (raw_offset n)) ≡ raw_offset n) × WithinDay (offset_of (raw_offset n))

  at : (n : ℕ) → n < 2880 → Back n
  at zero h = (refl, tt)
  at (suc n) h =
      let z = pos (suc n) -ℤ pos 1440 in
      let p = sub_parts (pos (suc n)) (pos 1440) in
      rw (ne_eqb (suc n) 0 (omega arith)) (
        ap raw_offset (omega (arith, p, plus_parts 1440 z (omega (arith, p, apart z)))),
        omega (arith, p, apart z, nat_abs_parts z),
      )

  pub back_and_raw : raw_of (offset_of r) ≡ r
  back_and_raw = (at r.0 h).0

  pub back_within : WithinDay (offset_of r)
  back_within = (at r.0 h).1
