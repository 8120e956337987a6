-- VarUInt: the shortest form is the shortest and is read back, and whatever is read is a shortest form; where the bytes are cut short, and
-- where they are unreadable. Assumes nothing.
use mathlib.Core.Path.{◌≡◌, refl, sym, ap, ◌∙◌}
use mathlib.Core.Bool.{Bool, true, false, cond}
use mathlib.Core.List.{List, [], ◌∷◌, ◌++◌}
use Prim.Native.Nat.{ℕ, zero, suc, ◌+◌, ◌-◌, ◌*◌, ◌/◌, ◌%◌, ◌^◌, ◌≤◌, ◌<◌, max}
use native.Mathlib.Nat.{pow-succ', div-eq_of_lt, div-lt_iff_lt-mul, le-div_iff_mul-le, one-le-pow}
use native.Mathlib.Decide.{dec_lt}
use native.Mathlib.Omega.{arith}
use borrow.Author.Tests.{lt-ltb, le-ltb, ne_eqb, ltb-false}
use lib.Count.{count_leading_zeros}
use lib.Dec.{eqb, ltb, lit<}
use lib.ListN.{length, take, drop, length-append}
use Rattle.places.proofs.Laws.{held, fewest, place_some, place_monotone, place_is}
use Rattle.places.proofs.Below.{Below}
use Rattle.places.proofs.Bits.{zeros_places}
use Rattle.ion.specs.Numbers.VarUInt.{groups, group_count, varuint, scan_from, zero_first, read_var_uint}
use Rattle.std.specs.Prelude.{Ok, Err}
use Rattle.ion.specs.declared.number.NumberError.TheVariants.{Cut, Bad}
use Rattle.std.proofs.Common.{drop_of_length-le}
use Rattle.binary.proofs.Groups.{scan_none, groups_one, groups_more, length_groups, scan_groups, Scanned, scan_gives, scanned_bytes}
use Rattle.binary.proofs.Groups.{scan_cut, cut_scan, Missed, unmarked, above, scan_unmarked, scan_missed}

-- ---- how many groups a number has: its groups hold it, and no fewer do

pub count_shortest : (n m : ℕ) → m < 128 ^ suc n → group_count m ≤ suc n
count_shortest n m h = fewest 128 (lit< tt) (suc n) m (omega arith) h

pub count_some : (m : ℕ) → 0 < group_count m
count_some m = place_some 128 (lit< tt) m

pub length_varuint : (m : ℕ) → length (varuint m) ≡ group_count m
unfolding varuint
length_varuint m = length_groups (group_count m) m

pub groups_varuint : (m n : ℕ) → n ≡ length (varuint m) → groups n m ≡ varuint m
unfolding varuint
groups_varuint m n e = ap (λ (k : ℕ). groups k m) (e ∙ length_varuint m)

-- ten groups hold 64 bits
pub groups_u64 : (m : ℕ) → m < 2 ^ 64 → group_count m ≤ 10
groups_u64 m h = count_shortest 9 m (omega arith)

pub ruleset varuints = (length_varuint, count_some, groups_varuint, groups_u64)

-- ---- a first byte 0 is that of a number that fewer groups hold

pub first_of_two : (a : ℕ) (t : List ℕ) → 0 < length t → zero_first (a ∷ t) ≡ eqb a 0
first_of_two a [] h = absurd (omega arith)
first_of_two a (b ∷ t) h = refl

first_group : (p m : ℕ) → 0 < p → m < 128 * p → eqb (m / p % 128) 0 ≡ ltb m p
first_group p m z h = go (dec_lt m p)
  where
    go : Dec (m < p) → eqb (m / p % 128) 0 ≡ ltb m p
    go (yes l) = rw (lt-ltb m p l, div-eq_of_lt l)
    go (no l) =
        let k : 1 ≤ m / p = (le-div_iff_mul-le z).1 (omega arith) in
        let u : m / p < 128 = (div-lt_iff_lt-mul z).1 h in
        rw (le-ltb m p (omega arith)) (ne_eqb (m / p % 128) 0 (λ e. omega arith))

zero_first_lem : (n m : ℕ) (r : List ℕ) → m < 128 ^ suc (suc n) → zero_first (groups (suc (suc n)) m ++ r) ≡ ltb m (128 ^ suc n)
zero_first_lem n m r h =
    let p = 128 ^ suc n in
    ap (λ (s : List ℕ). zero_first (s ++ r)) (groups_more n m)
    ∙ first_of_two (m / p % 128) (groups (suc n) m ++ r) (omega (arith, length-append (groups (suc n) m) r, length_groups (suc n) m))
    ∙ first_group p m (one-le-pow (suc n) 128 (lit< tt)) (rw (pow-succ' 128 (suc n)) at h)

marked_first : (b : ℕ) (r : List ℕ) → 0 < b → zero_first (b ∷ r) ≡ false
marked_first b [] h = refl
marked_first b (c ∷ r) h = ne_eqb b 0 (λ e. omega arith)

-- so it is that of a form with more groups than the shortest
pub zero_first_padded : (n m : ℕ) (r : List ℕ) → 0 < n → m < 128 ^ n → zero_first (groups n m ++ r) ≡ ltb (group_count m) n
zero_first_padded zero m r z h = absurd (omega arith)
zero_first_padded (suc zero) m r z h =
    ap (λ (s : List ℕ). zero_first (s ++ r)) (groups_one m)
    ∙ marked_first (128 + m % 128) r (omega arith)
    ∙ sym (le-ltb (group_count m) 1 (count_some m))
zero_first_padded (suc (suc n)) m r z h = zero_first_lem n m r h ∙ go (dec_lt m (128 ^ suc n))
  where
    go : Dec (m < 128 ^ suc n) → ltb m (128 ^ suc n) ≡ ltb (group_count m) (suc (suc n))
    go (yes l) =
        let k = count_shortest n m l in
        lt-ltb m (128 ^ suc n) l ∙ sym (lt-ltb (group_count m) (suc (suc n)) (omega arith))
    go (no l) =
        let b : 128 ^ suc n ≤ m = omega arith in
        le-ltb m (128 ^ suc n) b ∙ sym (le-ltb (group_count m) (suc (suc n)) (omega (arith, place_is 128 (lit< tt) (suc n) m b h)))

pub read_scanned : (l : ℕ) (s : List ℕ) → zero_first s ≡ false → read_var_uint l s ≡ scan_from l (group_count l) 0 0 s
unfolding read_var_uint
read_scanned l s e = rw e

pub ruleset reading = (groups_u64, count_some, scan_none, drop_of_length-le)

-- ---- the bytes are cut short: no marked one, fewer than the limit has, and no 0 before another

pub record CutShort (l : ℕ) (s : List ℕ) : Type 0 where
  pub few : length s < group_count l
  pub unmarked : Below 128 s
  pub unpadded : zero_first s ≡ false

pub read_cut : (l : ℕ) (s : List ℕ) → CutShort l s → read_var_uint l s ≡ Err Cut
read_cut l s c = read_scanned l s c.unpadded ∙ scan_cut l (group_count l) 0 0 s c.few c.unmarked

pub cut_read : (l : ℕ) (s : List ℕ) → read_var_uint l s ≡ Err Cut → CutShort l s
unfolding read_var_uint
cut_read l s e = go (zero_first s) refl e
  where
    go : (t : Bool) → zero_first s ≡ t → cond t (Err Bad) (scan_from l (group_count l) 0 0 s) ≡ Err Cut → CutShort l s
    go true f e = absurd (cc)
    go false f e = let p = cut_scan l (group_count l) 0 0 s e in record { few = p.0; unmarked = p.1; unpadded = f }

-- ---- the shortest form is read back, whatever follows it

pub read_varuint : (l m : ℕ) (r : List ℕ) → m ≤ l → read_var_uint l (varuint m ++ r) ≡ Ok (m, group_count m)
unfolding read_var_uint varuint
read_varuint l m r h =
    let n = group_count m in
    let k = held 128 (lit< tt) m in
    rw (zero_first_padded n m r (count_some m) k, le-ltb n n (omega arith))
    (scan_groups l (group_count l) n m r (count_some m) (place_monotone 128 (lit< tt) m l h) k ∙ rw (le-ltb l m h))

-- ---- and whatever is read is the shortest form of what is found

opened : (l : ℕ) (s : List ℕ) (m j : ℕ) → read_var_uint l s ≡ Ok (m, j) → (zero_first s ≡ false) × Scanned l 0 0 s m j
unfolding read_var_uint
opened l s m j e = go (zero_first s) refl e
  where
    go : (t : Bool) → zero_first s ≡ t → cond t (Err Bad) (scan_from l (group_count l) 0 0 s) ≡ Ok (m, j)
        → (zero_first s ≡ false) × Scanned l 0 0 s m j
    go true f e = absurd (cc)
    go false f e = (f, scan_gives l (group_count l) 0 0 s m j e)

pub read_varuint_is : (l : ℕ) (s : List ℕ) (m j : ℕ) → Below 256 s → read_var_uint l s ≡ Ok (m, j)
    → (m ≤ l) × (j ≡ group_count m) × (s ≡ varuint m ++ drop j s)
unfolding varuint
read_varuint_is l s m j g e =
    let o = opened l s m j e in
    let f = o.1 in
    let h = f.held (lit< tt) in
    let b = scanned_bytes g f in
    let u : ltb (group_count m) j ≡ false = sym (zero_first_padded j m (drop j s) f.some h) ∙ ap zero_first (sym b) ∙ o.0 in
    let n : j ≡ group_count m = omega (arith, ltb-false (group_count m) j u, fewest 128 (lit< tt) j m f.some h) in
    (f.limited, n, b ∙ ap (λ (k : ℕ). groups k m ++ drop j s) n)

-- ---- no shortest form up to l begins the bytes, however they go on: a 0 before another, as many as l has without a mark, or a number
-- above l at one

pub data Unreadable (l : ℕ) (s : List ℕ) : Type 0 where
  padded : zero_first s ≡ true → Unreadable l s
  endless : group_count l ≤ length s → Below 128 (take (group_count l) s) → Unreadable l s
  too_large : (m j : ℕ) (r : List ℕ) → l < m → 0 < j → j ≤ group_count l → m < 128 ^ j → s ≡ groups j m ++ r → Unreadable l s

pub read_bad : (l : ℕ) (s : List ℕ) → Unreadable l s → read_var_uint l s ≡ Err Bad
unfolding read_var_uint
read_bad l s u = from u
  where
    scanned : scan_from l (group_count l) 0 0 s ≡ Err Bad → (t : Bool) → cond t (Err Bad) (scan_from l (group_count l) 0 0 s) ≡ Err Bad
    scanned e true = refl
    scanned e false = e

    from : Unreadable l s → cond (zero_first s) (Err Bad) (scan_from l (group_count l) 0 0 s) ≡ Err Bad
    from (padded e) = rw e
    from (endless h b) = scanned (scan_unmarked l (group_count l) 0 0 s h b) (zero_first s)
    from (too_large m j r h z i k e) =
        let found : scan_from l (group_count l) 0 0 (groups j m ++ r) ≡ Err Bad =
        scan_groups l (group_count l) j m r z i k ∙ rw (lt-ltb l m h) in
        scanned (ap (scan_from l (group_count l) 0 0) e ∙ found) (zero_first s)

pub bad_read : (l : ℕ) (s : List ℕ) → Below 256 s → read_var_uint l s ≡ Err Bad → Unreadable l s
unfolding read_var_uint
bad_read l s b e = go (zero_first s) refl e
  where
    from : Missed l (group_count l) 0 0 s → Unreadable l s
    from (unmarked h c) = endless h c
    from (above m j h i f) = too_large m j (drop j s) h f.some (omega arith) (f.held (lit< tt)) (scanned_bytes b f)

    go : (t : Bool) → zero_first s ≡ t → cond t (Err Bad) (scan_from l (group_count l) 0 0 s) ≡ Err Bad → Unreadable l s
    go true f e = padded f
    go false f e = from (scan_missed l (group_count l) 0 0 s e)

-- what is read lies within the input
pub read_within : (l : ℕ) (s : List ℕ) (m j : ℕ) → read_var_uint l s ≡ Ok (m, j) → (0 < j) × (j ≤ length s)
read_within l s m j e =
    let f = (opened l s m j e).1 in
    (f.some, omega (arith, f.within))

-- ---- the number of groups from the leading zeros

pub zeros_count : (w v : ℕ) → v < 2 ^ w → group_count v ≡ suc ((w - count_leading_zeros w v - 1) / 7)
zeros_count w v h = zeros_places 7 (lit< tt) w v h

pub zeros_of_word : (v : ℕ) → v < 2 ^ 64 → group_count v ≡ max 1 ((64 - count_leading_zeros 64 v + 6) / 7)
zeros_of_word v h = omega (arith, zeros_count 64 v h)
