-- Every form of an Int is read back as its sign and its magnitude. Assumes nothing.
use mathlib.Core.Path.{◌≡◌, refl, sym, ap, ◌∙◌}
use mathlib.Core.Bool.{Bool, true, false}
use mathlib.Core.List.{List, [], ◌∷◌}
use Prim.Native.Nat.{ℕ, zero, suc, ◌+◌, ◌*◌, ◌/◌, ◌%◌, ◌^◌, ◌<◌}
use native.Mathlib.Omega.{arith}
use borrow.Author.Tests.{le-leb, lt-leb}
use lib.Dec.{lit<}
use Rattle.places.specs.Places.{plain, places_on, places}
use Rattle.places.proofs.Laws.{value_places}
use Rattle.ion.specs.Numbers.Int.{big_endian}
use Rattle.ion.specs.Numbers.PaddedNumbers.{padded_int_sign, padded_int_magnitude}
use Rattle.ion.specs.Value.Forms.{sign_int, IntForm}
use Rattle.places.proofs.FirstPlace.{places_first, first_below}

-- the first byte of the n + 1 that c has
pub first_byte : (n c : ℕ) → places 256 plain (suc n) c ≡ (c / 256 ^ n % 256) ∷ places 256 plain n c
unfolding places
first_byte n c = places_first 256 (lit< tt) plain n c []

-- and all of them make c again
pub value_back : (n c : ℕ) → c < 256 ^ n → big_endian (places 256 plain n c) ≡ c
value_back n c h = value_places 256 (lit< tt) plain plain (λ d l. refl) n c h

-- the sign h and the magnitude c are read from s
pub record Coefficient (h : Bool) (c : ℕ) (s : List ℕ) : Type 0 where
  pub sign : padded_int_sign s ≡ h
  pub magnitude : padded_int_magnitude s ≡ c

-- the byte b in front of r, with and without the sign
signed_first : (h : Bool) (b c : ℕ) (r : List ℕ) → b < 128 → big_endian (b ∷ r) ≡ c → Coefficient h c (sign_int h (b ∷ r))
unfolding padded_int_sign padded_int_magnitude
signed_first false b c r l e =
    let m : b % 128 ≡ b = omega arith in
    record { sign = lt-leb 128 b l; magnitude = rw m e }
signed_first true b c r l e =
    let m : (b + 128) % 128 ≡ b = omega arith in
    record { sign = le-leb 128 (b + 128) (omega arith); magnitude = rw m e }

coefficient_at : (h : Bool) (c n : ℕ) → (h ≡ true → 0 < n) → 2 * c < 256 ^ n → Coefficient h c (sign_int h (places 256 plain n c))
unfolding padded_int_sign padded_int_magnitude places places_on
coefficient_at false c zero z l = record { sign = refl; magnitude = omega arith }
coefficient_at true c zero z l = absurd (let k = z refl in omega arith)
coefficient_at h c (suc n) z l =
    let e = first_byte n c in
    let k : c / 256 ^ n < 128 = first_below 128 n c (lit< tt) l in
    let m : big_endian ((c / 256 ^ n % 256) ∷ places 256 plain n c) ≡ c = ap big_endian (sym e) ∙ value_back (suc n) c (omega arith) in
    rw e (signed_first h (c / 256 ^ n % 256) c (places 256 plain n c) (omega arith) m)

pub coefficient : {h : Bool} {c : ℕ} {s : List ℕ} → IntForm h c s → Coefficient h c s
coefficient {h} {c} {s} f = rw f.bytes (coefficient_at h c f.width f.some f.holds)
