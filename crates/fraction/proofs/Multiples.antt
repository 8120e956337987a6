-- Every kind of fraction is a multiple of the last of its digits, or a second or more. Assumes nothing.
use mathlib.Core.Path.{◌≡◌, sym, ap, ◌∙◌}
use mathlib.Core.Bool.{Bool, true, false, cond}
use Prim.Native.Nat.{ℕ, ◌-◌, ◌*◌, ◌%◌, ◌^◌, ◌≤◌, ◌<◌}
use native.Mathlib.Nat.{mul-mod_left, mod-one}
use native.Mathlib.Decide.{dec_le}
use native.Mathlib.Omega.{arith}
use lib.Dec.{lit≤}
use Rattle.ion.specs.Pair.Fraction.{scale, capped, attoseconds_of, below_zero, digits_of}
use Rattle.ion.specs.Calls.Stages.{Fractions}
use Rattle.ion.specs.Calls.Stages as stages
use Rattle.ion.specs.declared.Fraction.{Fraction}
use Rattle.fraction.proofs.Scales.{cut_multiple}
use Rattle.fraction.proofs.Capped.{cap_high, cap_multiple}
use Rattle.fraction.proofs.Quotients.{up_to_lem}

-- past the eighteenth digit the unit is 1, of which every number is a multiple
decimal_multiple : (n d : ℕ) → attoseconds_of n d % scale d ≡ 0
decimal_multiple n d = go (dec_le d 18)
  where
    go : Dec (d ≤ 18) → attoseconds_of n d % scale d ≡ 0
    go (yes l) = ap (λ (k : ℕ). k % scale d) (sym (up_to_lem n d l)) ∙ mul-mod_left n (scale d)
    go (no k) = let e : 18 - d ≡ 0 = omega arith in ap (λ (j : ℕ). attoseconds_of n d % 10 ^ j) e ∙ mod-one (attoseconds_of n d)

-- what the stages leave of a fraction: no more than its digits
pub multiple : {x : Fraction} → Fractions x → x.attoseconds < 10 ^ 18 → x.attoseconds % scale x.digits ≡ 0
multiple (stages.millis n) = cap_multiple (n * scale 3) (scale 3) (mul-mod_left n (scale 3))
multiple (stages.micros n) = cap_multiple (n * scale 6) (scale 6) (mul-mod_left n (scale 6))
multiple (stages.nanos n) = cap_multiple (n * scale 9) (scale 9) (mul-mod_left n (scale 9))
multiple (stages.nanos_to n d) = cap_multiple _ (scale d) (cut_multiple d (n * scale 9))
multiple (stages.decimals d) = go (below_zero d)
  where
    go : (t : Bool) → let v =
        cond t (10 ^ 18) (attoseconds_of d.coefficient (digits_of d.exponent)) in capped v < 10 ^ 18 → capped v % scale
        (digits_of d.exponent) ≡ 0
    go true h = absurd (omega (arith, cap_high (10 ^ 18) (lit≤ tt)))
    go false h = cap_multiple _ (scale (digits_of d.exponent)) (decimal_multiple d.coefficient (digits_of d.exponent)) h
