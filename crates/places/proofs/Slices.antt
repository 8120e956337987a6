-- What a part of a slice holds. Assumes nothing.
use mathlib.Core.Path.{◌≡◌}
use mathlib.Core.List.{List}
use Prim.Native.Nat.{ℕ, ◌-◌}
use native.Mathlib.Omega.{arith}
use lib.ListN.{length, take, drop, length-drop}
use lib.Seq.{take_all}

-- the part from index at on, `&s[at..]`
pub rest_slice : (s : List ℕ) (at : ℕ) → take (length s - at) (drop at s) ≡ drop at s
rest_slice s at = take_all (length s - at) (drop at s) (omega (arith, length-drop at s))
