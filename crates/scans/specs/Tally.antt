-- Doubles and gaps: what each scan is beside the last kept scan of its post, and the counts, over a list of scans. A post is a
-- site and a tag. Assumes nothing.
use Rattle.std.specs.Prelude.{ℕ, suc, ◌+◌, ◌*◌, ◌^◌, Bool, cond, ◌&&◌, List, [], ◌∷◌, eqb, ltb, length, get_or}
use Rattle.ion.specs.Pair.Count.{count_of}
use Rattle.ion.specs.Pair.Pair.{no_stamp}
use Rattle.ion.specs.Calls.Order.{size_of_difference}
use Rattle.scans.specs.Scan.{scan_of}
use Rattle.scans.specs.declared.Scan.{Scan}
use Rattle.scans.specs.declared.Counts.{Counts}
use Rattle.scans.specs.declared.Kind.{Kind}
use Rattle.scans.specs.declared.Kind.TheVariants.{Double, Kept, Gap, Backward}

-- ---- the last kept scans, in the order of their posts' first scans

abbrev pub same_post : Scan → Scan → Bool
same_post x y = eqb x.site y.site && eqb x.tag y.tag

-- the place of x's post among them; past the last where it has none
unfoldable pub place_of : Scan → List Scan → ℕ
place_of x [] = 0
place_of x (y ∷ l) = cond (same_post x y) 0 (suc (place_of x l))

-- x in that place
unfoldable pub with_last : Scan → List Scan → List Scan
with_last x [] = x ∷ []
with_last x (y ∷ l) = cond (same_post x y) (x ∷ l) (y ∷ with_last x l)

-- ---- what a scan is

-- seconds in attoseconds, as counts are
abbrev pub seconds : ℕ → ℕ
seconds n = n * 10 ^ 18

-- a timestamp by its count n, beside the last kept one by its: less than w seconds away; before it; more than g seconds after it
unfoldable pub kind_beside : ℕ → ℕ → ℕ → ℕ → Kind
kind_beside w g last n =
    cond (ltb (size_of_difference n last) (seconds w)) Double
    (cond (ltb n last) Backward
    (cond (ltb (last + seconds g) n) Gap Kept))

abbrev pub no_scan : Scan
no_scan = scan_of 0 0 0 no_stamp

-- the first scan of its post is kept
unfoldable pub kind_of : ℕ → ℕ → List Scan → Scan → Kind
kind_of w g l x =
    let i = place_of x l in
    cond (eqb i (length l)) Kept (kind_beside w g (count_of (get_or l i no_scan).stamp) (count_of x.stamp))

-- ---- one scan after another

abbrev pub counts_with : ℕ → ℕ → ℕ → ℕ → ℕ → Counts
counts_with s d k g b = record { scans = s; doubles = d; kept = k; gaps = g; backward = b }

abbrev pub no_counts : Counts
no_counts = counts_with 0 0 0 0 0

-- what one scan of a kind counts
abbrev pub counts_of : Kind → Counts
counts_of Double = counts_with 1 1 0 0 0
counts_of Kept = counts_with 1 0 1 0 0
counts_of Gap = counts_with 1 0 1 1 0
counts_of Backward = counts_with 1 0 1 0 1

abbrev pub added : Counts → Counts → Counts
added c u = counts_with (c.scans + u.scans) (c.doubles + u.doubles) (c.kept + u.kept) (c.gaps + u.gaps) (c.backward + u.backward)

-- the last kept scans after x; a double changes none
abbrev pub last_after : Kind → Scan → List Scan → List Scan
last_after Double x l = l
last_after Kept x l = with_last x l
last_after Gap x l = with_last x l
last_after Backward x l = with_last x l

-- the last kept scans, and the counts
pub record Tally : Type 0 where
  pub last : List Scan
  pub counts : Counts

abbrev pub no_tally : Tally
no_tally = record { last = []; counts = no_counts }

abbrev pub tallied : Kind → Tally → Scan → Tally
tallied k t x = record { last = last_after k x t.last; counts = added t.counts (counts_of k) }

unfoldable pub tally_from : ℕ → ℕ → Tally → List Scan → Tally
tally_from w g t [] = t
tally_from w g t (x ∷ xs) = tally_from w g (tallied (kind_of w g t.last x) t x) xs

abbrev pub tally_of : ℕ → ℕ → List Scan → Tally
tally_of w g xs = tally_from w g no_tally xs
