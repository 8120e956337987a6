-- VarInt: for both signs, negative zero among them, the shortest form is read back, and whatever is read is a shortest form.
-- Assumes nothing.
use mathlib.Core.Path.{◌≡◌, refl, sym, ap, ◌∙◌}
use mathlib.Core.Bool.{Bool, true, false, cond}
use mathlib.Core.List.{List, [], ◌∷◌, ◌++◌}
use Prim.Native.Nat.{ℕ, zero, suc, ◌+◌, ◌-◌, ◌*◌, ◌/◌, ◌%◌, ◌^◌, ◌≤◌, ◌<◌}
use native.Mathlib.Omega.{arith}
use borrow.Author.Tests.{le-ltb, le-leb, lt-leb, eq-eqb, leb-true, leb-false, eqb-true}
use lib.Count.{count_leading_zeros}
use lib.Dec.{eqb, leb, ltb, lit<}
use lib.IntN.{ℤ, nat_abs}
use mir.Facts.{to_z-of_z}
use lib.ListN.{length, take, drop, set, get_or}
use lib.Seq.{drop-cons}
use Rattle.std.proofs.Common.{add-one, drop_of_length-le}
use Rattle.places.proofs.Laws.{held, place_monotone}
use Rattle.places.proofs.Slices.{rest_slice}
use Rattle.places.proofs.Below.{Below, below_cons}
use Rattle.places.proofs.Bits.{double_zeros}
use Rattle.ion.specs.Numbers.VarUInt.{groups, scan_from}
use Rattle.ion.specs.Numbers.VarInt.{is_negative, signed_count, sign_first, signed}
use Rattle.ion.specs.Numbers.VarInt.{varint, signed_magnitude, if_shortest, unsign, read_var_int}
use Rattle.std.specs.Prelude.{Result, Ok, Err}
use Rattle.ion.specs.declared.number.NumberError.{NumberError}
use Rattle.ion.specs.declared.number.NumberError.TheVariants.{Cut, Bad}
use Rattle.ion.specs.declared.number.SignedMagnitude.{SignedMagnitude}
use Rattle.places.proofs.FirstPlace.{first_below}
use Rattle.binary.proofs.Groups.{ok_pair, groups_one, groups_more, length_groups, scan_more, scan_last, scan_groups}
use Rattle.binary.proofs.Groups.{Scanned, scan_gives, scanned_bytes}
use Rattle.binary.proofs.VarUInts.{count_shortest, count_some}

-- ---- how many bytes a magnitude and its sign have: they hold both, and no fewer do

pub signed_held : (m : ℕ) → 2 * m < 128 ^ signed_count m
unfolding signed_count
signed_held m = held 128 (lit< tt) (2 * m)

pub signed_shortest : (n m : ℕ) → 2 * m < 128 ^ suc n → signed_count m ≤ suc n
unfolding signed_count
signed_shortest n m h = count_shortest n (2 * m) h

pub signed_some : (m : ℕ) → 0 < signed_count m
unfolding signed_count
signed_some m = count_some (2 * m)

-- ten bytes hold 64 bits and a sign
pub signed_u64 : (m : ℕ) → m < 2 ^ 64 → signed_count m ≤ 10
signed_u64 m h = signed_shortest 9 m (omega arith)

signed_monotone : (m l : ℕ) → m ≤ l → signed_count m ≤ signed_count l
unfolding signed_count
signed_monotone m l h = place_monotone 128 (lit< tt) (2 * m) (2 * l) (omega arith)

pub length_sign : (g : Bool) (s : List ℕ) → length (sign_first g s) ≡ length s
length_sign false s = refl
length_sign true [] = refl
length_sign true (b ∷ r) = refl

pub length_signed : (g : Bool) (m : ℕ) → length (signed g m) ≡ signed_count m
unfolding signed
length_signed g m = length_sign g (groups (signed_count m) m) ∙ length_groups (signed_count m) m

-- ---- the first byte, whose bit 64 is free for the sign

pub record SignFree (s : List ℕ) : Type 0 where
  pub byte : ℕ
  pub rest : List ℕ
  pub is : s ≡ byte ∷ rest
  pub below : byte < 192
  free : byte % 128 < 64

free_in : (n m : ℕ) → 0 < n → 2 * m < 128 ^ n → SignFree (groups n m)
free_in zero m z h = absurd (omega arith)
free_in (suc zero) m z h = record { byte = 128 + m % 128; rest = []; is = groups_one m; below = omega arith; free = omega arith }
free_in (suc (suc n)) m z h =
    let p = 128 ^ suc n in
    let q : m / p < 64 = first_below 64 (suc n) m (lit< tt) h in
    record { byte = m / p % 128; rest = groups (suc n) m; is = groups_more n m; below = omega arith; free = omega arith }

pub sign_free : (m : ℕ) → SignFree (groups (signed_count m) m)
sign_free m = free_in (signed_count m) m (signed_some m) (signed_held m)

-- what the groups become with their sign
module _ (g : Bool) (m n : ℕ) (e : n ≡ length (signed g m)) where
  groups_free : groups n m ≡ (sign_free m).byte ∷ (sign_free m).rest
  groups_free = ap (λ (k : ℕ). groups k m) (e ∙ length_signed g m) ∙ (sign_free m).is

  pub groups_sign : get_or (groups n m) 0 0 < 192
  groups_sign = rw groups_free (sign_free m).below

  pub groups_plus : g ≡ true → set (groups n m) 0 (get_or (groups n m) 0 0 + 64) ≡ signed g m
  unfolding signed
  groups_plus h = rw (groups_free, h, (sign_free m).is)

  pub groups_plain : g ≡ false → groups n m ≡ signed g m
  unfolding signed
  groups_plain h = rw (groups_free, h, (sign_free m).is)

pub ruleset signs = (length_signed, signed_some, signed_u64, groups_sign, groups_plus, groups_plain)

sign_append : (g : Bool) (s r : List ℕ) → 0 < length s → sign_first g s ++ r ≡ sign_first g (s ++ r)
sign_append g [] r h = absurd (omega arith)
sign_append false (b ∷ t) r h = refl
sign_append true (b ∷ t) r h = refl

-- a first byte that was given its sign is read as it was, and with that sign, by a reader that takes both apart
module _ {A : Type 0} (read : List ℕ → A) (read_with : Bool → List ℕ → A)
    (apart : (b : ℕ) (r : List ℕ) → read (b ∷ r) ≡ read_with (leb 64 (b % 128)) (unsign b ∷ r)) where
  first_read : (g : Bool) (b : ℕ) (r : List ℕ) → b % 128 < 64 → read (sign_first g (b ∷ r)) ≡ read_with g (b ∷ r)
  first_read false b r h = let e : unsign b ≡ b = omega arith in apart b r ∙ rw (e, lt-leb 64 (b % 128) h)
  first_read true b r h =
      let e : unsign (b + 64) ≡ b = omega arith in
      apart (b + 64) r ∙ rw (e, le-leb 64 ((b + 64) % 128) (omega arith))

  pub sign_read : (g : Bool) (n m : ℕ) (r : List ℕ) → 0 < n → 2 * m < 128 ^ n
      → read (sign_first g (groups n m) ++ r) ≡ read_with g (groups n m ++ r)
  sign_read g n m r z h =
      let f = free_in n m z h in
      ap read (sign_append g (groups n m) r (omega (arith, length_groups n m)))
      ∙ ap (λ (x : List ℕ). read (sign_first g (x ++ r))) f.is
      ∙ first_read g f.byte (f.rest ++ r) f.free
      ∙ ap (λ (x : List ℕ). read_with g (x ++ r)) (sym f.is)

-- and one that was read is itself again with its sign
sign_again : (g : Bool) (c : ℕ) (r : List ℕ) → c < 256 → leb 64 (c % 128) ≡ g → sign_first g (unsign c ∷ r) ≡ c ∷ r
sign_again false c r h e =
    let k = leb-false 64 (c % 128) e in
    ap (λ (x : ℕ). x ∷ r) (let f : unsign c ≡ c = omega arith in f)
sign_again true c r h e =
    let k = leb-true 64 (c % 128) e in
    ap (λ (x : ℕ). x ∷ r) (let f : unsign c + 64 ≡ c = omega arith in f)

pub sign_bytes : (g : Bool) (c m j : ℕ) (r : List ℕ) → c < 256 → leb 64 (c % 128) ≡ g → 0 < j
    → (unsign c ∷ r) ≡ groups j m ++ drop j (unsign c ∷ r) → (c ∷ r) ≡ sign_first g (groups j m) ++ drop j (c ∷ r)
sign_bytes g c m zero r h eg z e = absurd (omega arith)
sign_bytes g c m (suc i) r h eg z e =
    sym (sign_again g c r h eg)
    ∙ ap (sign_first g) e
    ∙ sym (sign_append g (groups (suc i) m) (drop i r) (omega (arith, length_groups (suc i) m)))

-- ---- the shortest form is read back, whatever follows it

pub read_signed : (l : ℕ) (g : Bool) (m : ℕ) (r : List ℕ) → m ≤ l
    → read_var_int l (signed g m ++ r) ≡ Ok (signed_magnitude g m, length (signed g m))
unfolding signed read_var_int
read_signed l g m r h =
    let n = signed_count m in
    let s : scan_from l (signed_count l) 0 0 (groups n m ++ r) ≡ Ok (m, n) =
    scan_groups l (signed_count l) n m r (signed_some m) (signed_monotone m l h) (omega (arith, signed_held m)) ∙ rw (le-ltb l m h)
    in
    let read_with = λ (s : Bool) (x : List ℕ). if_shortest s (scan_from l (signed_count l) 0 0 x) in
    sign_read (read_var_int l) read_with (λ b t. refl) g n m r (signed_some m) (signed_held m)
    ∙ ap (if_shortest g) s
    ∙ (rw (eq-eqb n n refl))
    ∙ ap (λ (k : ℕ). Ok (signed_magnitude g m, k)) (sym (length_signed g m))

pub read_varint : (l : ℕ) (z : ℤ) (r : List ℕ) → nat_abs z ≤ l
    → read_var_int l (varint z ++ r) ≡ Ok (signed_magnitude (is_negative z) (nat_abs z), length (varint z))
unfolding varint
read_varint l z r h = read_signed l (is_negative z) (nat_abs z) r h

-- a number that is passed as an i64 is its own
pub ruleset passed = (to_z-of_z)

-- ---- and whatever is read is the shortest form of what is found

opened : (l c : ℕ) (r : List ℕ) (g : Bool) (m j : ℕ) → read_var_int l (c ∷ r) ≡ Ok (signed_magnitude g m, j)
    → (leb 64 (c % 128) ≡ g) × Scanned l 0 0 (unsign c ∷ r) m j × (signed_count m ≡ j)
unfolding read_var_int
opened l c r g m j e = go (scan_from l (signed_count l) 0 0 (unsign c ∷ r)) refl e
  where
    pass : (x k : ℕ) → scan_from l (signed_count l) 0 0 (unsign c ∷ r) ≡ Ok (x, k) → (t : Bool) → eqb (signed_count x) k ≡ t
        → cond {A = Result (SignedMagnitude × ℕ) NumberError} t (Ok (signed_magnitude (leb 64 (c % 128)) x, k)) (Err Bad)
        ≡ Ok (signed_magnitude g m, j)
        → (leb 64 (c % 128) ≡ g) × Scanned l 0 0 (unsign c ∷ r) m j × (signed_count m ≡ j)
    pass x k f false q e = absurd (cc)
    pass x k f true q e =
        let p = ok_pair e in
        let eg = ap (λ (n : SignedMagnitude). n.negative) p.0 in
        let em = ap (λ (n : SignedMagnitude). n.magnitude) p.0 in
        let ej = p.1 in
        rw (← em, ← ej) (eg, scan_gives l (signed_count l) 0 0 (unsign c ∷ r) x k f, eqb-true (signed_count x) k q)

    go : (x : Result (ℕ × ℕ) NumberError) → scan_from l (signed_count l) 0 0 (unsign c ∷ r) ≡ x
        → if_shortest (leb 64 (c % 128)) x ≡ Ok (signed_magnitude g m, j)
        → (leb 64 (c % 128) ≡ g) × Scanned l 0 0 (unsign c ∷ r) m j × (signed_count m ≡ j)
    go (Ok x) f e = pass x.0 x.1 f (eqb (signed_count x.0) x.1) refl e
    go (Err x) f e = absurd (cc)

-- what is read lies within the input
pub read_signed_within : (l : ℕ) (s : List ℕ) (g : Bool) (m j : ℕ)
    → read_var_int l s ≡ Ok (signed_magnitude g m, j) → (0 < j) × (j ≤ length s)
unfolding read_var_int
read_signed_within l [] g m j e = absurd (cc)
read_signed_within l (c ∷ r) g m j e =
    let f = (opened l c r g m j e).1 in
    (f.some, omega (arith, f.within))

pub read_signed_is : (l : ℕ) (s : List ℕ) (g : Bool) (m j : ℕ) → Below 256 s → read_var_int l s ≡ Ok (signed_magnitude g m, j)
    → (m ≤ l) × (j ≡ signed_count m) × (s ≡ signed g m ++ drop j s)
unfolding read_var_int signed
read_signed_is l [] g m j h e = absurd (cc)
read_signed_is l (c ∷ r) g m j h e =
    let o = opened l c r g m j e in
    let f = o.1 in
    let b = below_cons 256 (unsign c) r (omega (arith, h 0)) (λ i. h (suc i)) in
    (f.limited, sym o.2, rw o.2 (sign_bytes g c m j r (h 0) o.0 f.some (scanned_bytes b f)))

-- ---- the reader's steps, by the first byte

-- the magnitude of a single byte is in its shortest form
pub read_alone : (l b : ℕ) (r : List ℕ) → 128 ≤ b → b < 256
    → read_var_int l (b ∷ r) ≡ cond (ltb l (b % 64)) (Err Bad) (Ok (signed_magnitude (leb 64 (b % 128)) (b % 64), 1))
unfolding read_var_int
read_alone l b r h k =
    let n = signed_count l - 1 in
    let e : signed_count l ≡ suc n = omega (arith, signed_some l) in
    let o : signed_count (b % 64) ≡ 1 = omega (arith, signed_some (b % 64), signed_shortest 0 (b % 64) (omega arith)) in
    ap (λ (x : ℕ). if_shortest (leb 64 (b % 128)) (scan_from l x 0 0 (unsign b ∷ r))) e
    ∙ ap (if_shortest (leb 64 (b % 128))) (scan_last l n 0 0 (unsign b) (b % 64) r (omega arith) (omega arith))
    ∙ go o (ltb l (b % 64))
  where
    go : signed_count (b % 64) ≡ 1 → (t : Bool)
        → if_shortest (leb 64 (b % 128)) (cond t (Err Bad) (Ok (b % 64, 0 + 1)))
        ≡ cond t (Err Bad) (Ok (signed_magnitude (leb 64 (b % 128)) (b % 64), 1))
    go o true = refl
    go o false = rw (eq-eqb (signed_count (b % 64)) 1 o)

pub read_first : (l b : ℕ) (r : List ℕ) → b < 128
    → read_var_int l (b ∷ r) ≡ if_shortest (leb 64 (b % 128)) (scan_from l (signed_count l - 1) (b % 64) 1 r)
unfolding read_var_int
read_first l b r h =
    let n = signed_count l - 1 in
    let e : signed_count l ≡ suc n = omega (arith, signed_some l) in
    ap (λ (x : ℕ). if_shortest (leb 64 (b % 128)) (scan_from l x 0 0 (unsign b ∷ r))) e
    ∙ ap (if_shortest (leb 64 (b % 128))) (scan_more l n 0 0 (unsign b) (b % 64) r (omega arith) (omega arith))

module _ (l : ℕ) (s : List ℕ) (i : ℕ) where
  pub read_ends : length s ≤ i → read_var_int l (drop i s) ≡ Err Cut
  unfolding read_var_int
  read_ends h = rw (drop_of_length-le s h)

  read_from : i < length s → read_var_int l (drop i s) ≡ read_var_int l (get_or s i 0 ∷ drop (i + 1) s)
  read_from h = rw (add-one i) (ap (read_var_int l) (drop-cons s i 0 h))

  pub read_marked : (b : ℕ) → i < length s → b ≡ get_or s i 0 → 128 ≤ b → b < 256
      → read_var_int l (drop i s) ≡ cond (ltb l (b % 64)) (Err Bad) (Ok (signed_magnitude (leb 64 (b % 128)) (b % 64), 1))
  read_marked b h e c k = read_from h ∙ rw (← e) (read_alone l b (drop (i + 1) s) c k)

  pub read_passed : (b n : ℕ) → i < length s → b ≡ get_or s i 0 → b < 128 → n ≡ signed_count l
      → read_var_int l (drop i s)
      ≡ if_shortest (leb 64 (b % 128)) (scan_from l (n - 1) (b % 64) 1 (take (length s - (i + 1)) (drop (i + 1) s)))
  read_passed b n h e c f =
      read_from h ∙ rw (← e, f, rest_slice s (i + 1)) (read_first l b (drop (i + 1) s) c)

pub ruleset reading = (read_ends, read_marked, read_passed, signed_u64, signed_some)

-- ---- the number of bytes from the leading zeros

pub zeros_signed : (w m : ℕ) → m < 2 ^ w → signed_count m ≡ suc ((w - count_leading_zeros w m) / 7)
unfolding signed_count
zeros_signed w m h = double_zeros 7 (lit< tt) w m h
