-- What is read as a VarUInt lies within the bytes and is no larger than it may be. Assumes nothing.
use mathlib.Core.Path.{◌≡◌, sym}
use mathlib.Core.List.{List}
use Prim.Native.Nat.{ℕ, ◌+◌, ◌≤◌}
use native.Mathlib.Omega.{arith}
use lib.ListN.{length, drop, length-drop}
use Rattle.std.specs.Prelude.{Result, Ok, Err, IfOk}
use Rattle.ion.specs.Numbers.PaddedNumbers.{longest, read_padded_var_uint}
use Rattle.ion.specs.declared.number.NumberError.{NumberError}
use Rattle.binary.proofs.Groups.{scan_gives}

module _ (l n : ℕ) (s : List ℕ) where
  pub uint_bounds : (r : Result (ℕ × ℕ) NumberError) → r ≡ read_padded_var_uint l (drop n s)
      → IfOk r (λ x. (x.0 ≤ l) × (n + x.1 ≤ length s))
  unfolding read_padded_var_uint
  uint_bounds (Ok (m, j)) e =
      let f = scan_gives l longest 0 0 (drop n s) m j (sym e) in
      (f.limited, omega (arith, f.some, f.within, length-drop n s))
  uint_bounds (Err c) e = tt

  -- the bytes of one that is read
  pub uint_room : (m j : ℕ) → read_padded_var_uint l (drop n s) ≡ Ok (m, j) → n + j ≤ length s
  uint_room m j e = (uint_bounds (Ok (m, j)) (sym e)).1
