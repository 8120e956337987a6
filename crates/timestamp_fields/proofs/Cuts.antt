-- Attoseconds cut to units of at most nine digits fit 32 bits. Assumes nothing.
use Prim.Native.Nat.{ℕ, ◌/◌, ◌^◌, ◌≤◌, ◌<◌}
use native.Mathlib.Nat.{pow-le-pow_right}
use native.Mathlib.Omega.{arith}
use lib.Dec.{lit<}
use Rattle.ion.specs.Pair.Fraction.{scale}
use Rattle.ion.specs.Calls.Accepted.{Accepted}
use Rattle.ion.specs.declared.Timestamp.{Timestamp}
use Rattle.fraction.proofs.Scales.{scale_pos, units_lt}

pub cut_small : (s : Timestamp) (digits : ℕ) → Accepted s → digits ≤ 9 → s.attoseconds / scale digits < 2 ^ 32
cut_small s digits p h =
    let l = units_lt digits s.attoseconds (omega arith) p.fields.attoseconds in
    let k : 10 ^ digits ≤ 10 ^ 9 = pow-le-pow_right {n = 10} (lit< tt) h in
    omega arith

-- for the code
pub ruleset fit = (cut_small, scale_pos)
