-- Fractions of a second: attoseconds and a number of digits. Assumes nothing.
use Rattle.std.specs.Prelude.{ℕ, suc, ◌-◌, ◌*◌, ◌/◌, ◌^◌, min, Bool, not, cond, ◌&&◌, eqb, ℤ, pos, negsuc}
use Rattle.ion.specs.declared.Fraction.{Fraction}
use Rattle.ion.specs.declared.Decimal.{Decimal}

-- the attoseconds of one unit of the last of the digits; 1 past the eighteenth
abbrev pub scale : ℕ → ℕ
scale digits = 10 ^ (18 - digits)

-- attoseconds cut toward zero to a number of digits; past the eighteenth there is nothing to cut
abbrev pub cut_to : ℕ → ℕ → ℕ
cut_to digits a = a / scale digits * scale digits

-- a second or more is kept as 10^18, which check 1 refuses
unfoldable pub capped : ℕ → ℕ
capped v = min v (10 ^ 18)

abbrev pub capped_fraction : ℕ → ℕ → Fraction
capped_fraction a digits = record { attoseconds = capped a; digits = digits }

abbrev pub milliseconds : ℕ → Fraction
milliseconds n = capped_fraction (n * scale 3) 3

abbrev pub microseconds : ℕ → Fraction
microseconds n = capped_fraction (n * scale 6) 6

abbrev pub nanoseconds : ℕ → Fraction
nanoseconds n = capped_fraction (n * scale 9) 9

-- cut toward zero to a number of digits
abbrev pub nanoseconds_to : ℕ → ℕ → Fraction
nanoseconds_to n digits = capped_fraction (cut_to digits (n * scale 9)) digits

-- minus the exponent, or none where that is 0 or more
abbrev pub digits_of : ℤ → ℕ
digits_of (pos n) = 0
digits_of (negsuc n) = suc n

-- a 64-bit coefficient times 10^-digits, in attoseconds: those past the eighteenth digit are dropped, and from 38 digits on that is
-- all of it. An exponent above 0 only makes a second or more larger. `attoseconds_exact` and `decimal_exact` of crate fraction say so.
abbrev pub attoseconds_of : ℕ → ℕ → ℕ
attoseconds_of c digits = c * 10 ^ 18 / 10 ^ min digits 38

-- negative zero is zero
abbrev pub below_zero : Decimal → Bool
below_zero d = d.negative && not (eqb d.coefficient 0)

-- a decimal below zero is kept as 10^18 too
abbrev pub decimal : Decimal → Fraction
decimal d =
    let digits = digits_of d.exponent in
    capped_fraction (cond (below_zero d) (10 ^ 18) (attoseconds_of d.coefficient digits)) digits
