-- The bytes of an Int's magnitude, with their number a variable: they are the shortest form, are read back, and are all that is
-- read. Assumes nothing.
use mathlib.Core.Path.{◌≡◌, refl, sym, ap, ap₂, ◌∙◌}
use mathlib.Core.Bool.{Bool, true, false, cond, ◌&&◌, and-false}
use mathlib.Core.List.{List}
use Prim.Native.Nat.{ℕ, suc, ◌+◌, ◌-◌, ◌*◌, ◌/◌, ◌^◌, ◌≤◌, ◌<◌}
use native.Mathlib.Decide.{dec_lt}
use native.Mathlib.Omega.{arith}
use borrow.Author.Tests.{lt-ltb, le-ltb, ltb-true, eq-eqb, ne_eqb, eqb-true}
use lib.Count.{count_leading_zeros}
use lib.Dec.{eqb, ltb, lit<}
use lib.ListN.{length, drop, get_or}
use lib.Seq.{drop-cons}
use Rattle.std.proofs.Common.{add-one, drop_of_length-le}
use Rattle.places.specs.Places.{plain, byte_from, places, place_count, value_from}
use Rattle.places.proofs.Laws.{zero_byte, length_places, count_zero, count_next, count_holds, count_least, value_places}
use Rattle.places.proofs.Below.{Below}
use Rattle.places.proofs.Values.{value_is, value_above}
use Rattle.places.proofs.Bits.{double_zeros}
use Rattle.ion.specs.Numbers.Int.{int_count, int, big_endian, read_int}
use Rattle.std.specs.Prelude.{Some, None}

pub length_int : (m : ℕ) → length (int m) ≡ int_count m
unfolding int
length_int m = length_places 256 plain (int_count m) m

pub bytes_int : (m n : ℕ) → n ≡ length (int m) → places 256 (byte_from 0) n m ≡ int m
unfolding int
bytes_int m n e = ap₂ (λ (f : ℕ → ℕ) (k : ℕ). places 256 f k m) zero_byte (e ∙ length_int m)

-- ---- the shortest form: its bytes hold the number and a clear bit in front, and no fewer do

pub int_held : (m : ℕ) → 2 * m < 256 ^ int_count m
unfolding int_count
int_held m = count_holds 256 (lit< tt) (2 * m)

pub int_least : (n m : ℕ) → 2 * m < 256 ^ n → int_count m ≤ n
unfolding int_count
int_least n m h = count_least 256 (lit< tt) n (2 * m) h

pub int_most : (m : ℕ) → m < 2 ^ 64 → int_count m ≤ 9
int_most m h = int_least 9 m (omega arith)

pub ruleset ints = (length_int, bytes_int, int_most)

value_int : (m : ℕ) → big_endian (int m) ≡ m
unfolding int
value_int m = value_places 256 (lit< tt) plain plain (λ d h. refl) (int_count m) m (omega (arith, int_held m))

-- ---- the form is read back, and whatever is read is the form of what is found

pub read_shortest : (s : List ℕ) (m : ℕ) → big_endian s ≡ m → m < 2 ^ 64 → int_count m ≡ length s → read_int s ≡ Some m
unfolding read_int
read_shortest s m e h n = rw (e, lt-ltb m (2 ^ 64) h, eq-eqb (int_count m) (length s) n)

pub read_above : (s : List ℕ) → 2 ^ 64 ≤ big_endian s → read_int s ≡ None
unfolding read_int
read_above s h = rw (le-ltb (big_endian s) (2 ^ 64) h)

pub read_longer : (s : List ℕ) → (int_count (big_endian s) ≡ length s → ⊥) → read_int s ≡ None
unfolding read_int
read_longer s n = rw (ne_eqb (int_count (big_endian s)) (length s) n, and-false (ltb (big_endian s) (2 ^ 64)))

-- a number of 64 bits has no form of more than nine bytes
pub read_long : (s : List ℕ) → 9 < length s → read_int s ≡ None
read_long s h = go (dec_lt (big_endian s) (2 ^ 64))
  where
    go : Dec (big_endian s < 2 ^ 64) → read_int s ≡ None
    go (yes l) = read_longer s (λ e. omega (arith, int_most (big_endian s) l))
    go (no l) = read_above s (omega arith)

-- a reader's loop: the byte at i comes next, and at the end v is the number
pub value_next : (s : List ℕ) (v i : ℕ) → i < length s
    → value_from 256 plain v (drop i s) ≡ value_from 256 plain (v * 256 + get_or s i 0) (drop (i + 1) s)
unfolding value_from
value_next s v i h = rw (add-one i) (ap (value_from 256 plain v) (drop-cons s i 0 h))

pub value_last : (s : List ℕ) (v i : ℕ) → length s ≤ i → value_from 256 plain v (drop i s) ≡ v
unfolding value_from
value_last s v i h = ap (value_from 256 plain v) (drop_of_length-le s h)

pub ruleset reading = (value_next, value_last, read_long, read_above, read_longer, read_shortest, value_above)

pub read_int_lem : (m : ℕ) → m < 2 ^ 64 → read_int (int m) ≡ Some m
read_int_lem m h = read_shortest (int m) m (value_int m) h (sym (length_int m))

pub read_int_is : (s : List ℕ) (m : ℕ) → Below 256 s → read_int s ≡ Some m → (m < 2 ^ 64) × (s ≡ int m)
unfolding read_int int
read_int_is s m b e = go (ltb v (2 ^ 64)) (eqb (int_count v) (length s)) refl refl e
  where
    v : ℕ
    v = big_endian s

    go : (t u : Bool) → ltb v (2 ^ 64) ≡ t → eqb (int_count v) (length s) ≡ u → cond (t && u) (Some v) None ≡ Some m
        → (m < 2 ^ 64) × (s ≡ int m)
    go true true f g e =
        let em : v ≡ m = cc in
        let n = eqb-true (int_count v) (length s) g in
        (rw em at (ltb-true v (2 ^ 64) f), sym (value_is 256 s b) ∙ ap (λ (k : ℕ). places 256 plain k v) (sym n) ∙ ap int em)
    go true false f g e = absurd (cc)
    go false u f g e = absurd (cc)

-- ---- the number of bytes from the leading zeros

pub int_zero : int_count 0 ≡ 0
unfolding int_count
int_zero = count_zero 256 (lit< tt)

pub int_zeros : (w m : ℕ) → 0 < m → m < 2 ^ w → int_count m ≡ suc ((w - count_leading_zeros w m) / 8)
unfolding int_count place_count
int_zeros w m p h = count_next 256 (lit< tt) (2 * m) (omega arith) ∙ double_zeros 8 (lit< tt) w m h

pub ruleset zeros = (int_zero, int_zeros)
