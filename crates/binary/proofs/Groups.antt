-- The seven-bit groups of a number, with the number of groups a variable: they are as many as asked for, they read back as the number,
-- what a scan finds has its groups where the scan began, and what it has met where it finds nothing. Assumes nothing.
use mathlib.Core.Path.{◌≡◌, refl, sym, ap, ap₂, ◌∙◌}
use mathlib.Core.Bool.{Bool, true, false, cond}
use mathlib.Core.List.{List, [], ◌∷◌, ◌++◌}
use Prim.Native.Nat.{ℕ, zero, suc, ◌+◌, ◌-◌, ◌*◌, ◌/◌, ◌%◌, ◌^◌, ◌≤◌, ◌<◌}
use native.Mathlib.Nat.{pow-le-pow_right, lt_of_lt_of_le, pow-zero, pow-suc, pow-succ', mod-eq_of_lt, div-div-eq-div-mul}
use native.Mathlib.Numerals.{add-one}
use native.Mathlib.Omega.{arith}
use borrow.Author.Tests.{le-leb, lt-leb, ltb-true, ltb-false, leb-true, leb-false}
use lib.Dec.{leb, ltb, lit<}
use lib.ListN.{length, take, drop, set, get_or}
use lib.Seq.{length-take-le, drop-cons, set_at}
use Rattle.std.proofs.Common.{drop_of_length-le}
use Rattle.places.specs.Places.{plain, byte_from, places_on, places, value_from}
use Rattle.places.proofs.Laws.{zero_byte, length_places, places_append, value_on}
use Rattle.places.proofs.Below.{Below, below_none, below_cons}
use Rattle.places.proofs.Values.{place_more}
use Rattle.places.proofs.FirstPlace.{places_first}
use Rattle.ion.specs.Numbers.VarUInt.{groups, up_to, scan_from}
use Rattle.std.specs.Prelude.{Result, Ok, Err}
use Rattle.ion.specs.declared.number.NumberError.TheVariants.{Cut, Bad}

pub ok_pair : {A B E : Type 0} {a c : A} {b d : B} → ◌≡◌ {A = Result (A × B) E} (Ok (a, b)) (Ok (c, d)) → (a ≡ c) × (b ≡ d)
ok_pair {A} {B} {E} {a} {c} {b} {d} e =
    let p : ◌≡◌ {A = A × B} (a, b) (c, d) = cc in
    (ap (λ (x : A × B). x.0) p, ap (λ (x : A × B). x.1) p)

-- ---- the groups are the places of base 128, of which the last is marked

pub groups_append : (n m : ℕ) (r : List ℕ) → groups (suc n) m ++ r ≡ places_on 128 plain n (m / 128) ((128 + m % 128) ∷ r)
unfolding groups
groups_append n m r = places_append 128 plain n (m / 128) ((128 + m % 128) ∷ []) r

pub groups_one : (m : ℕ) → groups 1 m ≡ (128 + m % 128) ∷ []
unfolding groups places_on
groups_one m = refl

-- one group more is one in front
pub groups_more : (n m : ℕ) → groups (suc (suc n)) m ≡ (m / 128 ^ suc n % 128) ∷ groups (suc n) m
unfolding groups places_on
groups_more n m =
    let t = (128 + m % 128) ∷ [] in
    let f : m / 128 / 128 ^ n ≡ m / 128 ^ suc n = div-div-eq-div-mul m 128 (128 ^ n) ∙ ap (λ (x : ℕ). m / x) (sym (pow-succ' 128 n)) in
    places_first 128 (lit< tt) plain n (m / 128) t
    ∙ ap (λ (x : ℕ). x % 128 ∷ places_on 128 plain n (m / 128) t) f

pub length_groups : (n m : ℕ) → length (groups n m) ≡ n
unfolding groups
length_groups zero m = refl
length_groups (suc zero) m = ap length (groups_one m)
length_groups (suc (suc n)) m = ap length (groups_more n m) ∙ ap suc (length_groups (suc n) m)

-- as many bytes, of which the last is stored behind the places of the others
pub groups_stored : (v : ℕ) (front room : List ℕ) → 1 ≤ length room
    → front ≡ places 128 (byte_from 0) (length (take (length room - 1) room)) (v / 128)
    → set (front ++ drop (length room - 1) room) (length room - 1) (128 + v % 128) ≡ groups (length room) v
unfolding groups places
groups_stored v front room h e =
    let n = length room - 1 in
    let x = 128 + v % 128 in
    let k : length (take n room) ≡ n = length-take-le n room (omega arith) in
    let f : front ≡ places 128 plain n (v / 128) = e ∙ ap₂ (λ (g : ℕ → ℕ) (m : ℕ). places 128 g m (v / 128)) zero_byte k in
    let l : length front ≡ n = ap length f ∙ length_places 128 plain n (v / 128) in
    let z : suc n ≡ length room = omega arith in
    let none = drop_of_length-le room {i = suc n} (omega arith) in
    let d = drop-cons room n 0 (omega arith) ∙ ap (λ (r : List ℕ). get_or room n 0 ∷ r) none in
    ap (λ (r : List ℕ). set (front ++ r) n x) d
    ∙ set_at front (get_or room n 0) [] x n l
    ∙ ap (λ (r : List ℕ). r ++ x ∷ []) f
    ∙ places_append 128 plain n (v / 128) [] (x ∷ [])
    ∙ ap (λ (m : ℕ). groups m v) z

-- ---- the group law: the n groups of a number below 128 ^ n make it up again

abbrev pub group : ℕ → ℕ
group c = c % 128

pub value_groups : (n m : ℕ) → m < 128 ^ n → value_from 128 group 0 (groups n m) ≡ m
unfolding groups value_from
value_groups zero m h = omega (arith, pow-zero 128)
value_groups (suc n) m h =
    value_on 128 (lit< tt) plain group (λ d l. mod-eq_of_lt l) n (m / 128) ((128 + m % 128) ∷ []) (omega (arith, pow-suc 128 n))
    ∙ omega arith

-- ---- a scan, byte by byte; w is the value with the byte's group

pub scan_more : (l n v k b w : ℕ) (r : List ℕ) → b < 128 → v * 128 + b % 128 ≡ w
    → scan_from l (suc n) v k (b ∷ r) ≡ scan_from l n w (k + 1) r
unfolding scan_from
scan_more l n v k b w r h e = rw (e, lt-leb 128 b h)

pub scan_last : (l n v k b w : ℕ) (r : List ℕ) → 128 ≤ b → v * 128 + b % 128 ≡ w → scan_from l (suc n) v k (b ∷ r) ≡ up_to l w (k + 1)
unfolding scan_from
scan_last l n v k b w r h e = rw (e, le-leb 128 b h)

-- ---- a scan of the bytes from index i on, of which there may be m in all

module _ (l m v k : ℕ) (s : List ℕ) (i : ℕ) where
  scan_at : k < m → i < length s
      → scan_from l (m - k) v k (drop i s) ≡ scan_from l (suc (m - (k + 1))) v k (get_or s i 0 ∷ drop (i + 1) s)
  scan_at h g =
      let e : m - k ≡ suc (m - (k + 1)) = omega arith in
      rw (add-one i) (ap₂ (λ (n : ℕ) (r : List ℕ). scan_from l n v k r) e (drop-cons s i 0 g))

  pub scan_marked : k < m → i < length s → 128 ≤ get_or s i 0
      → scan_from l (m - k) v k (drop i s) ≡ up_to l (v * 128 + get_or s i 0 % 128) (k + 1)
  scan_marked h g c = scan_at h g ∙ scan_last l (m - (k + 1)) v k (get_or s i 0) _ (drop (i + 1) s) c refl

  pub scan_passed : k < m → i < length s → get_or s i 0 < 128
      → scan_from l (m - k) v k (drop i s) ≡ scan_from l (m - (k + 1)) (v * 128 + get_or s i 0) (k + 1) (drop (i + 1) s)
  scan_passed h g c = scan_at h g ∙ scan_more l (m - (k + 1)) v k (get_or s i 0) _ (drop (i + 1) s) c (omega arith)

  pub scan_full : k + 1 ≡ m → i < length s → get_or s i 0 < 128 → scan_from l (m - k) v k (drop i s) ≡ Err Bad
  unfolding scan_from
  scan_full h g c =
      let e : m - (k + 1) ≡ 0 = omega arith in
      scan_passed (omega arith) g c ∙ rw e

  pub scan_ends : k < m → length s ≤ i → scan_from l (m - k) v k (drop i s) ≡ Err Cut
  unfolding scan_from
  scan_ends h g =
      let e : m - k ≡ suc (m - (k + 1)) = omega arith in
      rw (e, drop_of_length-le s g)

  pub scan_done : k ≡ m → scan_from l (m - k) v k (drop i s) ≡ Err Bad
  unfolding scan_from
  scan_done h =
      let e : m - k ≡ 0 = omega arith in
      rw e

-- nothing to scan
pub scan_none : (l n v k : ℕ) → 0 < n → scan_from l n v k [] ≡ Err Cut
unfolding scan_from
scan_none l n v k h = let e : n ≡ suc (n - 1) = omega arith in rw e

-- the groups that are passed before the last that may be are below 2 ^ 56
pub groups_few : (v k : ℕ) → v < 128 ^ k → k ≤ 8 → v < 2 ^ 56
groups_few v k h l = lt_of_lt_of_le h (pow-le-pow_right {n = 128} (lit< tt) l)

pub ruleset scanning = (scan_marked, scan_full, scan_ends, scan_done)

-- the input ends before a marked byte, and before the last that may be read
pub scan_cut : (l n v k : ℕ) (s : List ℕ) → length s < n → Below 128 s → scan_from l n v k s ≡ Err Cut
unfolding scan_from
scan_cut l zero v k s h b = absurd (omega arith)
scan_cut l (suc n) v k [] h b = refl
scan_cut l (suc n) v k (c ∷ r) h b = rw (lt-leb 128 c (b 0)) (scan_cut l n (v * 128 + c % 128) (k + 1) r (omega arith) (λ i. b (suc i)))

pub cut_scan : (l n v k : ℕ) (s : List ℕ) → scan_from l n v k s ≡ Err Cut → (length s < n) × Below 128 s
unfolding scan_from
cut_scan l zero v k s e = absurd (cc)
cut_scan l (suc n) v k [] e = (omega arith, below_none 128 (lit< tt))
cut_scan l (suc n) v k (c ∷ r) e = go (cut_scan l n w (k + 1) r) (leb 128 c) (ltb l w) refl e
  where
    w : ℕ
    w = v * 128 + c % 128

    go : (scan_from l n w (k + 1) r ≡ Err Cut → (length r < n) × Below 128 r) → (t u : Bool) → leb 128 c ≡ t
        → cond t (cond u (Err Bad) (Ok (w, k + 1))) (scan_from l n w (k + 1) r) ≡ Err Cut → (length (c ∷ r) < suc n) × Below 128 (c ∷ r)
    go ih true true f e = absurd (cc)
    go ih true false f e = absurd (cc)
    go ih false u f e = let p = ih e in (omega (arith, p.0), below_cons 128 c r (leb-false 128 c f) p.1)

scan_on : (l n c q : ℕ) (t : List ℕ) → q < 128 ^ n → scan_from l (n + c) 0 0 (places_on 128 plain n q t) ≡ scan_from l c q n t
unfolding places_on
scan_on l zero c q t h =
    let e : 0 ≡ q = omega (arith, pow-zero 128) in
    let f : 0 + c ≡ c = omega arith in
    rw (f, ← e)
scan_on l (suc n) c q t h =
    let e : suc n + c ≡ n + suc c = omega arith in
    rw e
    (scan_on l n (suc c) (q / 128) (q % 128 ∷ t) (omega (arith, pow-suc 128 n))
    ∙ scan_more l c (q / 128) n (q % 128) q t (omega arith) (omega arith)
    ∙ ap (λ (k : ℕ). scan_from l c q k t) (add-one n))

-- n groups are read back as their number, whatever follows them, by a scan that takes as many bytes or more
pub scan_groups : (l k n m : ℕ) (r : List ℕ) → 0 < n → n ≤ k → m < 128 ^ n → scan_from l k 0 0 (groups n m ++ r) ≡ up_to l m n
scan_groups l k zero m r z b h = absurd (omega arith)
scan_groups l k (suc n) m r z b h =
    let c = k - suc n in
    let e : k ≡ n + suc c = omega arith in
    ap₂ (λ (x : ℕ) (s : List ℕ). scan_from l x 0 0 s) e (groups_append n m r)
    ∙ scan_on l n (suc c) (m / 128) ((128 + m % 128) ∷ r) (omega (arith, pow-suc 128 n))
    ∙ scan_last l c (m / 128) n (128 + m % 128) m r (omega arith) (omega arith)
    ∙ ap (up_to l m) (add-one n)

-- ---- what a scan finds: m in j bytes, of which the k first, those of v, stand in front of the bytes s

pub record Scanned (l v k : ℕ) (s : List ℕ) (m j : ℕ) : Type 0 where
  pub limited : m ≤ l
  pub some : k < j
  pub within : j ≤ k + length s
  pub held : v < 128 ^ k → m < 128 ^ j
  pub bytes : Below 256 s → places_on 128 plain k v s ≡ groups j m ++ drop (j - k) s

place_last : (k v c : ℕ) (r : List ℕ) → 128 ≤ c → c < 256 → places_on 128 plain k v (c ∷ r) ≡ groups (suc k) (v * 128 + c % 128) ++ r
place_last k v c r h l =
    let w = v * 128 + c % 128 in
    let e : w / 128 ≡ v = omega arith in
    let f : 128 + w % 128 ≡ c = omega arith in
    sym (groups_append k w r ∙ rw (e, f))

grown : (k v c : ℕ) → v < 128 ^ k → v * 128 + c % 128 < 128 ^ (k + 1)
grown k v c h = rw (add-one k) (omega (arith, pow-suc 128 k))

scanned_last : (l v k c w : ℕ) (r : List ℕ) → v * 128 + c % 128 ≡ w → 128 ≤ c → w ≤ l → Scanned l v k (c ∷ r) w (k + 1)
scanned_last l v k c w r e h b =
    let d : k + 1 - k ≡ 1 = omega arith in
    record {
      limited = b;
      some = omega arith;
      within = omega arith;
      held = λ g. rw e at (grown k v c g);
      bytes = λ g. rw (← e, d, add-one k) (place_last k v c r h (g 0));
    }

scanned_more : (l v k c w : ℕ) (r : List ℕ) (m j : ℕ) → v * 128 + c % 128 ≡ w → c < 128 → Scanned l w (k + 1) r m j
    → Scanned l v k (c ∷ r) m j
scanned_more l v k c w r m j e h s =
    let d : j - k ≡ suc (j - (k + 1)) = omega (arith, s.some) in
    let f : v * 128 + c ≡ w = omega arith in
    record {
      limited = s.limited;
      some = omega (arith, s.some);
      within = omega (arith, s.within);
      held = λ g. s.held (rw e at (grown k v c g));
      bytes = λ g. place_more 128 plain k v c r h ∙ rw (f, ← add-one k, d) (s.bytes (λ i. g (suc i)));
    }

pub scan_gives : (l n v k : ℕ) (s : List ℕ) (m j : ℕ) → scan_from l n v k s ≡ Ok (m, j) → Scanned l v k s m j
unfolding scan_from
scan_gives l zero v k s m j e = absurd (cc)
scan_gives l (suc n) v k [] m j e = absurd (cc)
scan_gives l (suc n) v k (c ∷ r) m j e = go (scan_gives l n w (k + 1) r m j) (leb 128 c) (ltb l w) refl refl e
  where
    w : ℕ
    w = v * 128 + c % 128

    go : (scan_from l n w (k + 1) r ≡ Ok (m, j) → Scanned l w (k + 1) r m j) → (t u : Bool) → leb 128 c ≡ t → ltb l w ≡ u
        → cond t (cond u (Err Bad) (Ok (w, k + 1))) (scan_from l n w (k + 1) r) ≡ Ok (m, j) → Scanned l v k (c ∷ r) m j
    go ih true true f g e = absurd (cc)
    go ih true false f g e =
        let p = ok_pair e in
        rw (← p.0, ← p.1) (scanned_last l v k c w r refl (leb-true 128 c f) (ltb-false l w g))
    go ih false u f g e = scanned_more l v k c w r m j refl (leb-false 128 c f) (ih e)

-- from the first byte on, all bytes are those of what is found and the rest
pub scanned_bytes : {l m j : ℕ} {s : List ℕ} → Below 256 s → Scanned l 0 0 s m j → s ≡ groups j m ++ drop j s
unfolding places_on
scanned_bytes {l} {m} {j} {s} h f = let z : j - 0 ≡ j = omega arith in rw z at (f.bytes h)

-- no more bytes than there may be
pub scan_most : (l n v k : ℕ) (s : List ℕ) (m j : ℕ) → scan_from l n v k s ≡ Ok (m, j) → j ≤ k + n
unfolding scan_from
scan_most l zero v k s m j e = absurd (cc)
scan_most l (suc n) v k [] m j e = absurd (cc)
scan_most l (suc n) v k (c ∷ r) m j e = go (scan_most l n w (k + 1) r m j) (leb 128 c) (ltb l w) e
  where
    w : ℕ
    w = v * 128 + c % 128

    go : (scan_from l n w (k + 1) r ≡ Ok (m, j) → j ≤ k + 1 + n) → (t u : Bool)
        → cond t (cond u (Err Bad) (Ok (w, k + 1))) (scan_from l n w (k + 1) r) ≡ Ok (m, j) → j ≤ k + suc n
    go ih true true e = absurd (cc)
    go ih true false e = omega (arith, (ok_pair e).1)
    go ih false u e = omega (arith, ih e)

-- ---- what a scan has met that finds nothing: n bytes without a mark, or a number above l at one

pub data Missed (l n v k : ℕ) (s : List ℕ) : Type 0 where
  unmarked : n ≤ length s → Below 128 (take n s) → Missed l n v k s
  above : (m j : ℕ) → l < m → j ≤ k + n → Scanned m v k s m j → Missed l n v k s

pub scan_unmarked : (l n v k : ℕ) (s : List ℕ) → n ≤ length s → Below 128 (take n s) → scan_from l n v k s ≡ Err Bad
unfolding scan_from
scan_unmarked l zero v k s h b = refl
scan_unmarked l (suc n) v k [] h b = absurd (omega arith)
scan_unmarked l (suc n) v k (c ∷ r) h b =
    rw (lt-leb 128 c (b 0)) (scan_unmarked l n (v * 128 + c % 128) (k + 1) r (omega arith) (λ i. b (suc i)))

pub scan_missed : (l n v k : ℕ) (s : List ℕ) → scan_from l n v k s ≡ Err Bad → Missed l n v k s
unfolding scan_from
scan_missed l zero v k s e = unmarked (omega arith) (below_none 128 (lit< tt))
scan_missed l (suc n) v k [] e = absurd (cc)
scan_missed l (suc n) v k (c ∷ r) e = go (scan_missed l n w (k + 1) r) (leb 128 c) (ltb l w) refl refl e
  where
    w : ℕ
    w = v * 128 + c % 128

    more : c < 128 → Missed l n w (k + 1) r → Missed l (suc n) v k (c ∷ r)
    more h (unmarked i b) = unmarked (omega arith) (below_cons 128 c (take n r) h b)
    more h (above m j i x d) = above m j i (omega arith) (scanned_more m v k c w r m j refl h d)

    go : (scan_from l n w (k + 1) r ≡ Err Bad → Missed l n w (k + 1) r) → (t u : Bool) → leb 128 c ≡ t → ltb l w ≡ u
        → cond t (cond u (Err Bad) (Ok (w, k + 1))) (scan_from l n w (k + 1) r) ≡ Err Bad → Missed l (suc n) v k (c ∷ r)
    go ih true true f g e =
        above w (k + 1) (ltb-true l w g) (omega arith) (scanned_last w v k c w r refl (leb-true 128 c f) (omega arith))
    go ih true false f g e = absurd (cc)
    go ih false u f g e = more (leb-false 128 c f) (ih e)
