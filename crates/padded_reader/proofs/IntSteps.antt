-- An Int as the code reads it: as far as 64 bits hold its magnitude. Assumes nothing.
use mathlib.Core.Path.{◌≡◌, refl}
use mathlib.Core.Bool.{false}
use mathlib.Core.List.{List, [], ◌∷◌}
use Prim.Native.Nat.{ℕ, ◌+◌, ◌-◌, ◌*◌, ◌%◌, ◌^◌, ◌≤◌, ◌<◌}
use native.Mathlib.Omega.{arith}
use borrow.Author.Tests.{lt-ltb, le-ltb}
use lib.Dec.{leb}
use lib.ListN.{length, take, drop, get_or}
use Rattle.std.specs.Prelude.{Some, None}
use Rattle.places.specs.Places.{plain, value_from}
use Rattle.places.proofs.Slices.{rest_slice}
use Rattle.places.proofs.Values.{value_above}
use Rattle.ion.specs.Numbers.VarInt.{signed_magnitude}
use Rattle.ion.specs.Numbers.PaddedNumbers.{padded_int_sign, padded_int_magnitude}
use Rattle.binary.proofs.Ints.{value_next, value_last}
use Rattle.padded_reader.specs.Numbers.{padded_int}

pub int_none : (s : List ℕ) → length s < 1 → padded_int s ≡ Some (signed_magnitude false 0)
unfolding padded_int padded_int_sign padded_int_magnitude
int_none [] h = refl
int_none (b ∷ r) h = absurd (omega arith)

-- the first byte's bits below the sign, with those of the other bytes
pub int_magnitude : (s : List ℕ) → 1 ≤ length s
    → padded_int_magnitude s ≡ value_from 256 plain (get_or s 0 0 % 128) (take (length s - 1) (drop 1 s))
unfolding padded_int_magnitude value_from
int_magnitude [] h = absurd (omega arith)
int_magnitude (b ∷ r) h =
    let e : 0 * 256 + b % 128 ≡ b % 128 = omega arith in
    rw (rest_slice (b ∷ r) 1, e) refl

pub int_some : (s : List ℕ) (m : ℕ) → 1 ≤ length s → padded_int_magnitude s ≡ m → m < 2 ^ 64
    → padded_int s ≡ Some (signed_magnitude (leb 128 (get_or s 0 0)) m)
unfolding padded_int padded_int_sign
int_some [] m n e h = absurd (omega arith)
int_some (b ∷ r) m n e h = rw (e, lt-ltb m (2 ^ 64) h)

pub int_above : (s : List ℕ) → 2 ^ 64 ≤ padded_int_magnitude s → padded_int s ≡ None
unfolding padded_int
int_above s h = rw (le-ltb (padded_int_magnitude s) (2 ^ 64) h)

pub ruleset reading = (value_next, value_last, value_above, int_none, int_magnitude, int_some, int_above)
