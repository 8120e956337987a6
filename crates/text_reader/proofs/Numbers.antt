-- Digits read back, with their number a variable. Assumes nothing.
use mathlib.Core.Path.{◌≡◌, refl, sym, ap, ◌∙◌}
use mathlib.Core.Bool.{true}
use mathlib.Core.List.{List, [], ◌∷◌, ◌++◌}
use Prim.Native.Nat.{ℕ, zero, suc, ◌+◌, ◌/◌, ◌%◌, ◌^◌, ◌<◌}
use native.Mathlib.Nat.{zero-add}
use native.Mathlib.Omega.{arith}
use borrow.Author.Tests.{le-leb, eq-eqb}
use lib.Dec.{lit<}
use lib.Seq.{take_at}
use Rattle.std.specs.Prelude.{Some}
use Rattle.places.specs.Places.{places_on, places, value_from}
use Rattle.places.proofs.Laws.{places_append, length_places, value_places}
use Rattle.ion.specs.Numbers.Padded.{digit, last_digits}
use Rattle.ion.specs.Text.ReadText.{is_digit, digit_run, digit_of, digits_value, read_digits, read_marked}

digit_is : (d : ℕ) → d < 10 → is_digit (digit d) ≡ true
digit_is d h = rw (le-leb 48 (digit d) (omega arith), le-leb (digit d) 57 (omega arith))

run_on : (k q : ℕ) (t : List ℕ) → digit_run (places_on 10 digit k q t) ≡ k + digit_run t
unfolding places_on digit_run
run_on zero q t = sym (zero-add (digit_run t))
run_on (suc k) q t = run_on k (q / 10) (digit (q % 10) ∷ t) ∙ rw (digit_is (q % 10) (omega arith)) (omega arith)

-- a run of digits goes on with what follows
pub run_digits : (k n : ℕ) (r : List ℕ) → digit_run (last_digits k n ++ r) ≡ k + digit_run r
unfolding places
run_digits k n r = ap digit_run (places_append 10 digit k n [] r) ∙ run_on k n r

module _ (k n : ℕ) (r : List ℕ) (h : n < 10 ^ k) where
  -- k digits of a number below 10 ^ k are read back as that number, whatever follows
  pub value_digits : digits_value k (last_digits k n ++ r) ≡ n
  unfolding digits_value
  value_digits =
      ap (value_from 10 digit_of 0) (take_at (last_digits k n) r k (length_places 10 digit k n))
      ∙ value_places 10 (lit< tt) digit digit_of (λ d l. omega arith) k n h

  pub read_digits_lem : read_digits k (last_digits k n ++ r) ≡ Some n
  unfolding read_digits
  read_digits_lem = rw (run_digits k n r, le-leb k (k + digit_run r) (omega arith), value_digits)

pub read_marked_lem : (mark n : ℕ) (r : List ℕ) → n < 100 → read_marked mark (mark ∷ last_digits 2 n ++ r) ≡ Some n
unfolding read_marked
read_marked_lem mark n r h = rw (eq-eqb mark mark refl) (read_digits_lem 2 n r h)
