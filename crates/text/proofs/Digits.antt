-- The laws of padded numbers, of which those of `places` are over any base, in decimal. Assumes nothing.
use mathlib.Core.Path.{◌≡◌, sym, ap, ◌∙◌}
use mathlib.Core.List.{List, [], ◌∷◌, ◌++◌, append-nil}
use Prim.Native.Nat.{ℕ, suc, ◌+◌, ◌-◌, ◌/◌, ◌%◌, ◌^◌, ◌≤◌, ◌<◌, max}
use native.Mathlib.Omega.{arith}
use lib.Dec.{lit<, lit≤}
use lib.ListN.{length, drop_of_length-le}
use Rattle.places.proofs.Laws.{length_places, fewest, place_is, place_split}
use Rattle.places.proofs.Padded as base
use Rattle.places.specs.Places.{places, places_on, byte_from}
use Rattle.ion.specs.Calls.Output.{Run}
use Rattle.ion.specs.Numbers.Padded.{digit, last_digits, digit_count, padded}

pub length_padded : (w n : ℕ) → length (padded w n) ≡ max w (digit_count n)
length_padded w n = base.length_padded 10 digit w n

-- a number below 10 ^ w takes w digits
pub padded_digits : (w n : ℕ) → 1 ≤ w → n < 10 ^ w → padded w n ≡ last_digits w n
padded_digits w n l h = base.padded_places_lem 10 digit (lit< tt) w n l h

pub length_exact : (w n : ℕ) → 1 ≤ w → n < 10 ^ w → length (padded w n) ≡ w
length_exact w n l h = ap length (padded_digits w n l h) ∙ length_places 10 digit w n

-- ---- how many digits a number has

pub count_most : (k n : ℕ) → 1 ≤ k → n < 10 ^ k → digit_count n ≤ k
count_most k n l h = fewest 10 (lit< tt) k n l h

pub count_is : (k n : ℕ) → 10 ^ k ≤ n → n < 10 ^ suc k → suc k ≡ digit_count n
count_is k n l h = sym (place_is 10 (lit< tt) k n l h)

-- those in front of the last k, and k
pub count_split : (k n : ℕ) → 10 ^ k ≤ n → k + digit_count (n / 10 ^ k) ≡ digit_count n
count_split k n h = sym (place_split 10 (lit< tt) k n h)

-- 64 bits have twenty
pub count_u64 : (n : ℕ) → n < 2 ^ 64 → digit_count n ≤ 20
count_u64 n h = count_most 20 n (lit≤ tt) (omega arith)

pub ruleset sizes = (length_padded, count_u64)

-- as many places as a padded number has
pub places_padded : (w v k : ℕ) → k ≡ length (padded w v) → places 10 (byte_from 48) k v ≡ padded w v
places_padded w v k e = base.places_padded 10 digit w v k (e ∙ length_padded w v)

pub two_digits : (v : ℕ) → v < 100 → (48 + v / 10) ∷ (48 + v % 10) ∷ [] ≡ padded 2 v
unfolding places places_on
two_digits v h =
    let tens : v / 10 % 10 ≡ v / 10 = omega arith in
    sym (padded_digits 2 v (lit≤ tt) h ∙ ap (λ (d : ℕ). (48 + d) ∷ (48 + v % 10) ∷ []) tens)

-- what was put in front of the end of n bytes from index at on
pub put_before : (at n w v : ℕ) {d e : List ℕ} → n ≡ max w (digit_count v) → Run d (at + n - max w (digit_count v)) (padded w v) e (at + n)
    → Run d at (padded w v) e (at + n)
put_before at n w v {d} {e} s p = let z : at + n - max w (digit_count v) ≡ at = omega arith in rw z at p

-- the same in room of just its size
pub fills : (w v : ℕ) {d e : List ℕ} → length d ≡ length (padded w v) → Run d (length d - max w (digit_count v)) (padded w v) e (length d)
    → e ≡ padded w v
fills w v {d} {e} n p =
    let s = padded w v in
    let z : length d - max w (digit_count v) ≡ 0 = omega (arith, n, length_padded w v) in
    (rw z at p).bytes ∙ ap (λ (l : List ℕ). s ++ l) (drop_of_length-le d (omega (arith, n))) ∙ append-nil s

pub room_fits : (w v : ℕ) {k : ℕ} → k ≡ length (padded w v) → max w (digit_count v) ≤ k
room_fits w v e = omega (arith, e, length_padded w v)

-- for the code
pub ruleset whole = (fills, room_fits)
