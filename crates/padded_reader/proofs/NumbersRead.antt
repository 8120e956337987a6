-- Whatever is read as a number is one of its forms. Assumes nothing.
use mathlib.Core.Path.{◌≡◌, refl, sym, ap, ◌∙◌}
use mathlib.Core.Bool.{Bool, true, false, false≢true}
use mathlib.Core.List.{List, [], ◌∷◌, ◌++◌}
use Prim.Native.Nat.{ℕ, zero, suc, ◌+◌, ◌*◌, ◌/◌, ◌%◌, ◌^◌, ◌<◌}
use native.Mathlib.Omega.{arith}
use borrow.Author.Tests.{leb-true, leb-false}
use lib.Dec.{leb, lit<}
use lib.ListN.{length, take, drop}
use lib.Seq.{take_at}
use Rattle.std.specs.Prelude.{Result, Ok, Err}
use Rattle.places.specs.Places.{plain, places_on, places}
use Rattle.places.proofs.Values.{bytes_below, plain_bytes, value_is}
use Rattle.places.proofs.Below.{Below, below_cons}
use Rattle.ion.specs.Numbers.VarUInt.{groups, scan_from}
use Rattle.ion.specs.Numbers.VarInt.{signed_magnitude, sign_first, unsign}
use Rattle.ion.specs.Numbers.Int.{big_endian}
use Rattle.ion.specs.Numbers.PaddedNumbers.{longest, with_sign, read_padded_var_uint, read_padded_var_int}
use Rattle.ion.specs.Numbers.PaddedNumbers.{padded_int_sign, padded_int_magnitude}
use Rattle.ion.specs.Value.Forms.{VarUIntForm, VarIntForm, sign_int, IntForm}
use Rattle.ion.specs.declared.number.NumberError.{NumberError}
use Rattle.ion.specs.declared.number.SignedMagnitude.{SignedMagnitude}
use Rattle.value_decoder.proofs.Exact.{Found}
use Rattle.places.proofs.FirstPlace.{below_first}
use Rattle.binary.proofs.Groups.{ok_pair, groups_one, groups_more, length_groups, scan_gives, scanned_bytes, scan_most}
use Rattle.binary.proofs.VarInts.{length_sign, sign_bytes}
use Rattle.padded_reader.proofs.IntForms.{first_byte}

-- ---- VarUInt

pub uint_is : (l : ℕ) (s : List ℕ) (m j : ℕ) → Below 256 s → read_padded_var_uint l s ≡ Ok (m, j) → Found (VarUIntForm m) l m j s
unfolding read_padded_var_uint
uint_is l s m j h e =
    let f = scan_gives l longest 0 0 s m j e in
    record {
      limited = f.limited;
      some = f.some;
      within = omega (arith, f.within);
      form =
          record {
            width = j;
            some = f.some;
            most = omega (arith, scan_most l longest 0 0 s m j e);
            holds = f.held (lit< tt);
            bytes = ap (take j) (scanned_bytes h f) ∙ take_at (groups j m) (drop j s) j (length_groups j m);
          };
    }

-- ---- VarInt

-- a first group without the sign's bit: the number is below half of what its groups hold
half : (j m x : ℕ) (r t : List ℕ) → 0 < j → x % 128 < 64 → (x ∷ r) ≡ groups j m ++ t → m < 128 ^ j → 2 * m < 128 ^ j
half zero m x r t z l e h = absurd (omega arith)
half (suc zero) m x r t z l e h =
    let f : (x ∷ r) ≡ (128 + m % 128) ∷ t = e ∙ ap (λ (y : List ℕ). y ++ t) (groups_one m) in
    let q : x ≡ 128 + m % 128 = cc in
    omega arith
half (suc (suc i)) m x r t z l e h =
    let p = 128 ^ suc i in
    let f : (x ∷ r) ≡ (m / p % 128) ∷ (groups (suc i) m ++ t) = e ∙ ap (λ (y : List ℕ). y ++ t) (groups_more i m) in
    let q : x ≡ m / p % 128 = cc in
    below_first 64 (suc i) m (lit< tt) h (omega arith)

int_at : (l c : ℕ) (r : List ℕ) (g : Bool) (m j : ℕ) → Below 256 (c ∷ r) → leb 64 (c % 128) ≡ g
    → scan_from l longest 0 0 (unsign c ∷ r) ≡ Ok (m, j) → Found (VarIntForm g m) l m j (c ∷ r)
int_at l c r g m j h eg e =
    let f = scan_gives l longest 0 0 (unsign c ∷ r) m j e in
    let b = scanned_bytes (below_cons 256 (unsign c) r (omega (arith, h 0)) (λ i. h (suc i))) f in
    let n = length_sign g (groups j m) ∙ length_groups j m in
    record {
      limited = f.limited;
      some = f.some;
      within = omega (arith, f.within);
      form =
          record {
            width = j;
            some = f.some;
            most = omega (arith, scan_most l longest 0 0 (unsign c ∷ r) m j e);
            holds = half j m (unsign c) r (drop j (unsign c ∷ r)) f.some (omega arith) b (f.held (lit< tt));
            bytes = ap (take j) (sign_bytes g c m j r (h 0) eg f.some b) ∙ take_at (sign_first g (groups j m)) (drop j (c ∷ r)) j n;
          };
    }

pub int_is : (l : ℕ) (s : List ℕ) (g : Bool) (m j : ℕ) → Below 256 s → read_padded_var_int l s ≡ Ok (signed_magnitude g m, j)
    → Found (VarIntForm g m) l m j s
unfolding read_padded_var_int
int_is l [] g m j h e = absurd (cc)
int_is l (c ∷ r) g m j h e = go (scan_from l longest 0 0 (unsign c ∷ r)) refl e
  where
    go : (x : Result (ℕ × ℕ) NumberError) → scan_from l longest 0 0 (unsign c ∷ r) ≡ x
        → with_sign (leb 64 (c % 128)) x ≡ Ok (signed_magnitude g m, j) → Found (VarIntForm g m) l m j (c ∷ r)
    go (Ok x) f e =
        let p = ok_pair e in
        let eg = ap (λ (n : SignedMagnitude). n.negative) p.0 in
        let em = ap (λ (n : SignedMagnitude). n.magnitude) p.0 in
        let ej = p.1 in
        rw (← em, ← ej) (int_at l c r g x.0 x.1 h eg f)
    go (Err x) f e = absurd (cc)

-- ---- a coefficient: all bytes are a form of what they make

bytes_hold : (s : List ℕ) → Below 256 s → big_endian s < 256 ^ length s
bytes_hold s h = bytes_below 256 plain plain s (plain_bytes 256 s h)

pub coefficient_is : (s : List ℕ) → Below 256 s → IntForm (padded_int_sign s) (padded_int_magnitude s) s
unfolding padded_int_sign padded_int_magnitude places places_on
coefficient_is [] h = record { width = 0; some = λ e. absurd (false≢true e); holds = lit< tt; bytes = refl }
coefficient_is (b ∷ r) h =
    record {
      width = suc (length r);
      some = λ e. omega arith;
      holds = below_first 128 (length r) m (lit< tt) (bytes_hold s d) (rw first (omega arith));
      bytes = at (leb 128 b) refl;
    }
  where
    s : List ℕ
    s = b % 128 ∷ r

    m : ℕ
    m = big_endian s

    d : Below 256 s
    d = below_cons 256 (b % 128) r (omega arith) (λ i. h (suc i))

    same : places 256 plain (suc (length r)) m ≡ s
    same = value_is 256 s d

    first : m / 256 ^ length r % 256 ≡ b % 128
    first = let e : s ≡ (m / 256 ^ length r % 256) ∷ places 256 plain (length r) m = sym same ∙ first_byte (length r) m in cc

    at : (t : Bool) → leb 128 b ≡ t → (b ∷ r) ≡ sign_int t (places 256 plain (suc (length r)) m)
    at true e =
        let k = leb-true 128 b e in
        let x = h 0 in
        rw same (ap (λ (y : ℕ). y ∷ r) (let z : b ≡ b % 128 + 128 = omega arith in z))
    at false e =
        let k = leb-false 128 b e in
        rw same (ap (λ (y : ℕ). y ∷ r) (let z : b ≡ b % 128 = omega arith in z))
