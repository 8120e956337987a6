-- The last kept scans are of posts apart from one another, so each stands in the place of its post. Assumes nothing.
use Rattle.std.proofs.Common.{◌≡◌, refl, sym, ap, ap₂, ◌∙◌, ℕ, zero, suc, ◌<◌, Bool, true, false, ◌&&◌, eqb}
use Rattle.std.proofs.lemmas.Bool.{false≢true}
use Rattle.std.proofs.Common.{cond, List, [], ◌∷◌, ◌++◌, ◌≤◌, length, get_or, set, length-set, arith}
use mathlib.Core.Bool.{and-eq-true_iff}
use borrow.Author.Tests.{eqb-true, eq-eqb}
use native.Mathlib.Decide.{dec_lt}
use Rattle.scan_report.specs.Kept.{None, Apart}
use Rattle.scans.specs.Tally.{same_post, place_of, with_last, last_after}
use Rattle.scan_laws.proofs.Tallies.{place_within, last_length}
use Rattle.scans.specs.declared.Scan.{Scan}
use Rattle.scans.specs.declared.Kind.{Kind}
use Rattle.scans.specs.declared.Kind.TheVariants.{Double, Kept, Gap, Backward}

-- the same site and tag
same_is : (x y : Scan) → same_post x y ≡ true → (x.site ≡ y.site) × (x.tag ≡ y.tag)
same_is x y q =
    let both = (and-eq-true_iff (eqb x.site y.site) (eqb x.tag y.tag)).0 q in
    (eqb-true x.site y.site both.0, eqb-true x.tag y.tag both.1)

same_turned : (x y : Scan) → same_post x y ≡ false → same_post y x ≡ false
same_turned x y q = go (same_post y x) refl
  where
    go : (t : Bool) → same_post y x ≡ t → t ≡ false
    go true r =
        let e = same_is y x r in
        absurd (false≢true (sym q ∙ ap₂ ◌&&◌ (eq-eqb x.site y.site (sym e.0)) (eq-eqb x.tag y.tag (sym e.1))))
    go false r = refl

none_first : (x y : Scan) (l : List Scan) → None x (y ∷ l) → (same_post x y ≡ false) × None x l
unfolding place_of
none_first x y l e = go (same_post x y) refl e
  where
    go : (t : Bool) → same_post x y ≡ t → cond t 0 (suc (place_of x l)) ≡ suc (length l) → (same_post x y ≡ false) × None x l
    go true q e = absurd (omega arith)
    go false q e = (q, omega arith)

none_before : (x y : Scan) (l : List Scan) → same_post x y ≡ false → None x l → None x (y ∷ l)
unfolding place_of
none_before x y l q e = rw (q, e)

-- scans of one post have one place
same_place : (x y : Scan) (l : List Scan) → same_post x y ≡ true → place_of x l ≡ place_of y l
unfolding place_of
same_place x y [] q = refl
same_place x y (z ∷ l) q = let e = same_is x y q in rw (e.0, e.1, same_place x y l q)

-- a scan of another post put in its place
none_last : (x y : Scan) (l : List Scan) → same_post y x ≡ false → None y l → None y (with_last x l)
unfolding with_last
none_last x y [] q e = none_before y x [] q e
none_last x y (z ∷ l) q e = go (none_first y z l e) (none_last x y l q) (same_post x z)
  where
    go : (same_post y z ≡ false) × None y l → (None y l → None y (with_last x l)) → (t : Bool) → None y (cond t (x ∷ l) (z ∷ with_last x l))
    go n h true = none_before y x l q n.1
    go n h false = none_before y z (with_last x l) n.0 (h n.1)

pub apart_last : (x : Scan) (l : List Scan) → Apart l → Apart (with_last x l)
unfolding with_last place_of
apart_last x [] p = (refl, tt)
apart_last x (y ∷ l) p = go (apart_last x l p.1) (same_post x y) refl
  where
    go : Apart (with_last x l) → (t : Bool) → same_post x y ≡ t → Apart (cond t (x ∷ l) (y ∷ with_last x l))
    go h true q = (same_place x y l q ∙ p.0, p.1)
    go h false q = (none_last x y l (same_turned x y q) p.0, h)

-- so a scan whose post is that of the one at i has the place i
pub place_at : (x : Scan) (l : List Scan) (i : ℕ) (d : Scan) → Apart l → i < length l → same_post x (get_or l i d) ≡ true
    → place_of x l ≡ i
unfolding place_of
place_at x [] i d p h e = absurd (omega arith)
place_at x (y ∷ l) zero d p h e = rw e
place_at x (y ∷ l) (suc i) d p h e = go (place_at x l i d p.1 (omega arith) e) (same_post x y) refl
  where
    go : place_of x l ≡ i → (t : Bool) → same_post x y ≡ t → cond t 0 (suc (place_of x l)) ≡ suc i
    go f true q = absurd (omega (arith, f, same_place x y l q, p.0))
    go f false q = ap suc f

-- ---- a scan put in its place

pub last_push : (x : Scan) (l : List Scan) → None x l → with_last x l ≡ l ++ (x ∷ [])
unfolding with_last
last_push x [] e = refl
last_push x (y ∷ l) e = go (none_first x y l e) (last_push x l)
  where
    go : (same_post x y ≡ false) × None x l → (None x l → with_last x l ≡ l ++ (x ∷ []))
        → cond (same_post x y) (x ∷ l) (y ∷ with_last x l) ≡ y ∷ (l ++ (x ∷ []))
    go n h = rw n.0 (ap (λ (r : List Scan). y ∷ r) (h n.1))

pub last_set : (x : Scan) (l : List Scan) → place_of x l < length l → with_last x l ≡ set l (place_of x l) x
unfolding with_last place_of
last_set x [] h = absurd (omega arith)
last_set x (y ∷ l) h = go (last_set x l) (same_post x y) h
  where
    go : (place_of x l < length l → with_last x l ≡ set l (place_of x l) x)
        → (t : Bool)
        → cond t 0 (suc (place_of x l)) < suc (length l)
        → cond t (x ∷ l) (y ∷ with_last x l) ≡ set (y ∷ l) (cond t 0 (suc (place_of x l))) x
    go f true h = refl
    go f false h = ap (λ (r : List Scan). y ∷ r) (f (omega arith))

-- the last kept scans are no more than there is room for
pub after_few : (n : ℕ) (k : Kind) (x : Scan) (l : List Scan) → length l ≤ n → place_of x l < n → length (last_after k x l) ≤ n
after_few n k x l h p = go k
  where
    kept : length (with_last x l) ≤ n
    kept = by (dec_lt (place_of x l) (length l))
      where
        by : Dec (place_of x l < length l) → length (with_last x l) ≤ n
        by (yes q) = omega (arith, ap length (last_set x l q), length-set l (place_of x l) x)
        by (no q) = omega (arith, (last_length x l).1, place_within x l)

    go : (k : Kind) → length (last_after k x l) ≤ n
    go Double = h
    go Kept = kept
    go Gap = kept
    go Backward = kept
