-- What holds of a tally: its counts add up, every scan is of one kind, and the last kept scans only become more. Assumes nothing.
use Rattle.std.proofs.Common.{◌≡◌, refl, ap, ℕ, zero, suc, ◌+◌, ◌≤◌, ◌<◌, Bool, true}
use Rattle.std.proofs.Common.{false, cond, List, [], ◌∷◌, ◌++◌, length, take, drop, get_or, arith}
use Rattle.std.specs.List.{AllByRecursion}
use Rattle.scans.specs.Tally.{same_post, place_of, with_last, kind_of, counts_of, added}
use Rattle.scans.specs.Tally.{last_after, Tally, no_tally, tallied, tally_from, tally_of}
use Rattle.scans.specs.declared.Scan.{Scan}
use Rattle.scans.specs.declared.Counts.{Counts}
use Rattle.scans.specs.declared.Kind.{Kind}
use Rattle.scans.specs.declared.Kind.TheVariants.{Double, Kept, Gap, Backward}

-- ---- the counts

-- scans are doubles and kept; gaps and backward steps are kept
pub record Sums (c : Counts) : Type 0 where
  pub all : c.scans ≡ c.doubles + c.kept
  pub steps : c.gaps + c.backward ≤ c.kept

one_more_lem : (k : Kind) (c : Counts) → Sums c → Sums (added c (counts_of k))
one_more_lem Double c s = record { all = omega (arith, s.all); steps = omega (arith, s.steps) }
one_more_lem Kept c s = record { all = omega (arith, s.all); steps = omega (arith, s.steps) }
one_more_lem Gap c s = record { all = omega (arith, s.all); steps = omega (arith, s.steps) }
one_more_lem Backward c s = record { all = omega (arith, s.all); steps = omega (arith, s.steps) }

sums_from : (w g : ℕ) (t : Tally) (xs : List Scan) → Sums t.counts → Sums (tally_from w g t xs).counts
unfolding tally_from
sums_from w g t [] s = s
sums_from w g t (x ∷ xs) s = sums_from w g (tallied (kind_of w g t.last x) t x) xs (one_more_lem (kind_of w g t.last x) t.counts s)

pub sums : (w g : ℕ) (xs : List Scan) → Sums (tally_of w g xs).counts
sums w g xs = sums_from w g no_tally xs (record { all = refl; steps = omega arith })

scan_more : (k : Kind) (c : Counts) → (added c (counts_of k)).scans ≡ c.scans + 1
scan_more Double c = refl
scan_more Kept c = refl
scan_more Gap c = refl
scan_more Backward c = refl

scans_from : (w g : ℕ) (t : Tally) (xs : List Scan) → (tally_from w g t xs).counts.scans ≡ t.counts.scans + length xs
unfolding tally_from
scans_from w g t [] = omega arith
scans_from w g t (x ∷ xs) =
    let k = kind_of w g t.last x in
    omega (arith, scans_from w g (tallied k t x) xs, scan_more k t.counts)

-- every scan is counted
pub all_counted : (w g : ℕ) (xs : List Scan) → (tally_of w g xs).counts.scans ≡ length xs
all_counted w g xs = omega (arith, scans_from w g no_tally xs)

-- ---- the last kept scans

-- the place of a scan is one of them, or the next
pub place_within : (x : Scan) (l : List Scan) → place_of x l ≤ length l
unfolding place_of
place_within x [] = omega arith
place_within x (y ∷ l) = go (place_within x l) (same_post x y)
  where
    go : place_of x l ≤ length l → (t : Bool) → cond t 0 (suc (place_of x l)) ≤ suc (length l)
    go h true = omega arith
    go h false = omega arith

-- a scan in its place: all before it and all after it stay
pub last_is : (x : Scan) (l : List Scan) → with_last x l ≡ take (place_of x l) l ++ x ∷ drop (suc (place_of x l)) l
unfolding place_of with_last
last_is x [] = refl
last_is x (y ∷ l) = go (last_is x l) (same_post x y)
  where
    go : with_last x l ≡ take (place_of x l) l ++ x ∷ drop (suc (place_of x l)) l
        → (t : Bool)
        → cond t (x ∷ l) (y ∷ with_last x l)
        ≡ take (cond t 0 (suc (place_of x l))) (y ∷ l) ++ x ∷ drop (suc (cond t 0 (suc (place_of x l)))) (y ∷ l)
    go h true = refl
    go h false = ap (λ (r : List Scan). y ∷ r) h

-- as many as before, or one more where the place is the next
pub last_length : (x : Scan) (l : List Scan) → (length l ≤ length (with_last x l)) × (length (with_last x l) ≤ suc (length l))
unfolding with_last
last_length x [] = (omega arith, omega arith)
last_length x (y ∷ l) = go (last_length x l) (same_post x y)
  where
    go : (length l ≤ length (with_last x l)) × (length (with_last x l) ≤ suc (length l))
        → (t : Bool)
        → (suc (length l) ≤ length (cond t (x ∷ l) (y ∷ with_last x l)))
        × (length (cond t (x ∷ l) (y ∷ with_last x l)) ≤ suc (suc (length l)))
    go h true = (omega arith, omega arith)
    go h false = (omega (arith, h.0), omega (arith, h.1))

pub last_new : (x : Scan) (l : List Scan) → place_of x l ≡ length l → length (with_last x l) ≡ suc (length l)
unfolding place_of with_last
last_new x [] e = refl
last_new x (y ∷ l) e = go (last_new x l) (same_post x y) e
  where
    go : (place_of x l ≡ length l → length (with_last x l) ≡ suc (length l))
        → (t : Bool)
        → cond t 0 (suc (place_of x l)) ≡ suc (length l)
        → length (cond t (x ∷ l) (y ∷ with_last x l)) ≡ suc (suc (length l))
    go h true e = absurd (omega arith)
    go h false e = ap suc (h (omega arith))

after_more : (k : Kind) (x : Scan) (l : List Scan) → length l ≤ length (last_after k x l)
after_more Double x l = omega arith
after_more Kept x l = (last_length x l).0
after_more Gap x l = (last_length x l).0
after_more Backward x l = (last_length x l).0

-- so once there are 257 tags there are never fewer: a report may stop there
pub never_fewer : (w g : ℕ) (t : Tally) (xs : List Scan) → length t.last ≤ length (tally_from w g t xs).last
unfolding tally_from
never_fewer w g t [] = omega arith
never_fewer w g t (x ∷ xs) =
    let k = kind_of w g t.last x in
    omega (arith, never_fewer w g (tallied k t x) xs, after_more k x t.last)

-- ---- what holds of every scan holds of the last kept ones

module _ (P : Scan → Type 0) where
  pub last_each : (x : Scan) (l : List Scan) → P x → AllByRecursion P l → AllByRecursion P (with_last x l)
  unfolding with_last
  last_each x [] p q = (p, tt)
  last_each x (y ∷ l) p q = go (last_each x l p q.1) (same_post x y)
    where
      go : AllByRecursion P (with_last x l) → (t : Bool) → AllByRecursion P (cond t (x ∷ l) (y ∷ with_last x l))
      go h true = (p, q.1)
      go h false = (q.0, h)

  pub after_each : (k : Kind) (x : Scan) (l : List Scan) → P x → AllByRecursion P l → AllByRecursion P (last_after k x l)
  after_each Double x l p q = q
  after_each Kept x l p q = last_each x l p q
  after_each Gap x l p q = last_each x l p q
  after_each Backward x l p q = last_each x l p q

  pub each_at : (l : List Scan) (i : ℕ) (d : Scan) → AllByRecursion P l → i < length l → P (get_or l i d)
  each_at [] i d q h = absurd (omega arith)
  each_at (y ∷ l) zero d q h = q.0
  each_at (y ∷ l) (suc i) d q h = each_at l i d q.1 (omega arith)

-- ---- a tally of one scan more, and of scans and more after them

pub tally_append : (w g : ℕ) (t : Tally) (xs ys : List Scan) → tally_from w g t (xs ++ ys) ≡ tally_from w g (tally_from w g t xs) ys
unfolding tally_from
tally_append w g t [] ys = refl
tally_append w g t (x ∷ xs) ys = tally_append w g (tallied (kind_of w g t.last x) t x) xs ys

pub tally_next : (w g : ℕ) (xs : List Scan) (x : Scan)
    → tally_of w g (xs ++ (x ∷ [])) ≡ tallied (kind_of w g (tally_of w g xs).last x) (tally_of w g xs) x
unfolding tally_from
tally_next w g xs x = tally_append w g _ xs (x ∷ [])

-- for the code
pub ruleset places = (place_within)
