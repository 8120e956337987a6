-- The lengths of months, and the days before a month of its year: each is a table's entry, one more in a leap year for some months.
-- Assumes nothing.
use mathlib.Core.Path.{◌≡◌, refl, sym, ◌∙◌}
use mathlib.Core.Bool.{Bool, true, false, true≢false, cond}
use mathlib.Core.List.{List, [], ◌∷◌}
use Prim.Native.Nat.{ℕ, zero, suc, ◌+◌, ◌≤◌, ◌<◌}
use native.Mathlib.Nat.{add-zero}
use native.Mathlib.Decide.{dec_le}
use native.Mathlib.Omega.{arith}
use lib.Dec.{T, eqb, leb, ltb, eqb→eq, leb→le}
use lib.ListN.{length, get_or, get_or-eq_default}
use borrow.Author.Tests.{lt-ltb, le-ltb, ne_eqb}
use Rattle.places.proofs.Table.{every, at}
use Rattle.places.proofs.Decides.{Decides, le_decides, ◌and◌}
use Rattle.ion.specs.Calendar.Dates.{leap_day, month_lengths, month_length_of, sum_below, is_month}

-- ---- what a table says of each month

-- an entry x of month k, with a leap day where the month has a share of it
entry_is : (Bool → ℕ → ℕ) → (ℕ → Bool) → Bool → ℕ → ℕ → Bool
entry_is f shares leap k x = eqb (f leap k) (x + cond (shares k) (leap_day leap) 0)

by_table : (f : Bool → ℕ → ℕ) (shares : ℕ → Bool) (xs : List ℕ)
    → T (every (entry_is f shares true) 0 xs) → T (every (entry_is f shares false) 0 xs)
    → (leap : Bool) (m : ℕ) → m < length xs → f leap m ≡ get_or xs m 0 + cond (shares m) (leap_day leap) 0
unfolding entry_is
by_table f shares xs t u true m h = eqb→eq _ _ (at (entry_is f shares true) xs t m h)
by_table f shares xs t u false m h = eqb→eq _ _ (at (entry_is f shares false) xs u m h)

-- ---- lengths

pub month_decides : (m : ℕ) → Decides (is_month m) ((1 ≤ m) × (m ≤ 12))
month_decides m = le_decides 1 m and le_decides m 12

past_december : (leap : Bool) (m : ℕ) → 12 < m → month_length_of leap m ≡ 0
unfolding month_length_of
past_december leap m h = get_or-eq_default (0 ∷ month_lengths leap) 0 h

length_is : (leap : Bool) (m : ℕ) → m ≤ 12
    → month_length_of leap m ≡ get_or (0 ∷ month_lengths false) m 0 + cond (eqb m 2) (leap_day leap) 0
unfolding entry_is month_length_of
length_is leap m h = by_table month_length_of (λ m. eqb m 2) (0 ∷ month_lengths false) tt tt leap m (omega arith)

-- every month but February has one length
pub fixed_length : (leap : Bool) (m : ℕ) → m ≤ 12 → (m ≡ 2 → ⊥) → month_length_of leap m ≡ get_or (0 ∷ month_lengths false) m 0
fixed_length leap m h n = length_is leap m h ∙ simp (ne_eqb m 2 n, add-zero)

pub february : (leap : Bool) (m : ℕ) → m ≡ 2 → month_length_of leap m ≡ 28 + leap_day leap
unfolding month_length_of
february leap m e = rw e

-- what each length of the two lists passes, each month's does
each_month : (f : ℕ → Bool) → T (every (λ i x. f x) 0 (month_lengths true)) → T (every (λ i x. f x) 0 (month_lengths false))
    → (leap : Bool) (m : ℕ) → 1 ≤ m → m ≤ 12 → T (f (month_length_of leap m))
unfolding month_length_of
each_month f t u leap zero h k = absurd (omega arith)
each_month f t u true (suc m) h k = at (λ i x. f x) (month_lengths true) t m k
each_month f t u false (suc m) h k = at (λ i x. f x) (month_lengths false) u m k

-- a month has 28 to 31 days
pub month_least : (leap : Bool) (m : ℕ) → 1 ≤ m → m ≤ 12 → 28 ≤ month_length_of leap m
month_least leap m h k = leb→le 28 (month_length_of leap m) (each_month (leb 28) tt tt leap m h k)

-- a month with a day is 1 to 12
pub month_from_one : (leap : Bool) (m : ℕ) → 0 < month_length_of leap m → 1 ≤ m
unfolding month_length_of
month_from_one leap zero h = h
month_from_one leap (suc m) h = omega arith

pub month_to_twelve : (leap : Bool) (m : ℕ) → 0 < month_length_of leap m → m ≤ 12
month_to_twelve leap m h = go (dec_le m 12)
  where
    go : Dec (m ≤ 12) → m ≤ 12
    go (yes k) = k
    go (no n) = omega (arith, n, past_december leap m (omega (arith, n)))

-- no other has one
pub no_month : (leap : Bool) (m : ℕ) → is_month m ≡ false → month_length_of leap m ≡ 0
no_month leap m e = go (dec_le 1 (month_length_of leap m))
  where
    go : Dec (1 ≤ month_length_of leap m) → month_length_of leap m ≡ 0
    go (yes h) = absurd (true≢false (sym ((month_decides m).1 (month_from_one leap m h, month_to_twelve leap m h)) ∙ e))
    go (no h) = omega (arith, h)

pub month_most : (leap : Bool) (m : ℕ) → month_length_of leap m ≤ 31
month_most leap m = go (dec_le 1 (month_length_of leap m))
  where
    go : Dec (1 ≤ month_length_of leap m) → month_length_of leap m ≤ 31
    go (yes h) =
        leb→le (month_length_of leap m) 31 (each_month (λ x. leb x 31) tt tt leap m (month_from_one leap m h) (month_to_twelve leap m h))
    go (no h) = omega (arith, h)

pub december : (leap : Bool) → month_length_of leap 12 ≡ 31
unfolding month_length_of
december leap = refl

-- ---- starts

-- the months make up the year
pub months_year : (leap : Bool) → sum_below (month_length_of leap) 13 ≡ 365 + leap_day leap
unfolding sum_below month_length_of
months_year true = refl
months_year false = refl

pub january : (leap : Bool) → sum_below (month_length_of leap) 1 ≡ 0
unfolding sum_below month_length_of
january leap = refl

-- the days before each month in a year that is no leap year
abbrev pub starts : List ℕ
starts = 0 ∷ 0 ∷ 31 ∷ 59 ∷ 90 ∷ 120 ∷ 151 ∷ 181 ∷ 212 ∷ 243 ∷ 273 ∷ 304 ∷ 334 ∷ []

pub start_is : (leap : Bool) (m : ℕ) → m ≤ 12 → sum_below (month_length_of leap) m ≡ get_or starts m 0 + cond (ltb 2 m) (leap_day leap) 0
unfolding entry_is sum_below month_length_of
start_is leap m h = by_table (λ leap. sum_below (month_length_of leap)) (ltb 2) starts tt tt leap m (omega arith)

pub start_early : (leap : Bool) (m : ℕ) → m ≤ 2 → sum_below (month_length_of leap) m ≡ get_or starts m 0
start_early leap m h = start_is leap m (omega arith) ∙ simp (le-ltb 2 m h, add-zero)

pub start_late : (leap : Bool) (m : ℕ) → 2 < m → m ≤ 12 → sum_below (month_length_of leap) m ≡ get_or starts m 0 + leap_day leap
start_late leap m h k = start_is leap m k ∙ simp (lt-ltb 2 m h)

-- ---- lists of laws, for the code

pub ruleset lengths = (fixed_length, february)
