-- What a loop over the digits of a text has read before index i: they make v. Assumes nothing.
use mathlib.Core.Path.{◌≡◌, refl, ◌∙◌}
use mathlib.Core.Bool.{Bool, true, false, cond}
use mathlib.Core.List.{List, [], ◌∷◌, ◌++◌}
use Prim.Native.Nat.{ℕ, suc, ◌+◌, ◌*◌, ◌^◌, ◌≤◌, ◌<◌, min}
use native.Mathlib.Nat.{pow-le-pow_right}
use native.Mathlib.Numerals.{add-one}
use native.Mathlib.Omega.{arith}
use native.Mathlib.Decide.{dec_lt}
use borrow.Author.Tests.{lt-ltb, le-ltb}
use lib.Dec.{ltb, lit<}
use lib.ListN.{length, take, drop, get_or, drop_of_length-le}
use lib.Seq.{drop-cons, take-suc}
use Rattle.places.specs.Places.{value_from}
use Rattle.ion.specs.Text.ReadText.{is_digit, digit_run, digit_of, digits_value}
use Rattle.text_reader.proofs.ExactDigits.{run_value}

value_append : (v : ℕ) (w : List ℕ) (b : ℕ) → value_from 10 digit_of v (w ++ (b ∷ [])) ≡ value_from 10 digit_of v w * 10 + digit_of b
unfolding value_from
value_append v [] b = refl
value_append v (c ∷ w) b = value_append (v * 10 + digit_of c) w b

pub value_none : (n : ℕ) (r : List ℕ) → n ≡ 0 → digits_value n r ≡ 0
unfolding digits_value value_from
value_none n r e = rw e

value_more : (n : ℕ) (r : List ℕ) → n < length r → digits_value (suc n) r ≡ digits_value n r * 10 + digit_of (get_or r n 0)
unfolding digits_value
value_more n r h = rw (take-suc r n 0 h) (value_append 0 (take n r) (get_or r n 0))

-- the digits with which the text r begins: n of them, of which the first 18 make v
pub record RunIs (r : List ℕ) (n v : ℕ) : Type 0 where
  pub count : n ≡ digit_run r
  pub value : v ≡ digits_value (min (digit_run r) 18) r

-- what is read before index i: digits, of which the first 18 make v
pub record Read (r : List ℕ) (i v : ℕ) : Type 0 where
  pub run : digit_run r ≡ i + digit_run (drop i r)
  pub value : v ≡ digits_value (min i 18) r

module _ {r : List ℕ} {i v : ℕ} (p : Read r i v) where
  pub read_small : v < 10 ^ 18
  read_small =
      let n = min i 18 in
      let m : n ≤ 18 = omega arith in
      let l = run_value n r (omega (arith, p.run)) in
      omega (arith, p.value, l.0, pow-le-pow_right {n = 10} (lit< tt) m)

  read_run : i < length r → (t : Bool) → is_digit (get_or r i 0) ≡ t → digit_run (drop i r) ≡ cond t (suc (digit_run (drop (i + 1) r))) 0
  unfolding digit_run
  read_run h t e = rw (drop-cons r i 0 h, add-one i, e)

  ended : digit_run (drop i r) ≡ 0 → RunIs r i v
  ended z =
      let c : i ≡ digit_run r = omega (arith, p.run) in
      record { count = c; value = rw (← c) p.value }

  -- no digit comes next, or nothing
  pub read_stop : i < length r → is_digit (get_or r i 0) ≡ false → RunIs r i v
  read_stop h e = ended (read_run h false e)

  pub read_end : length r ≤ i → RunIs r i v
  unfolding digit_run
  read_end h = ended (rw (drop_of_length-le r h))

  pub read_more : (x : ℕ) → i < length r → is_digit (get_or r i 0) ≡ true
      → x ≡ cond (ltb i 18) (v * 10 + digit_of (get_or r i 0)) v → Read r (i + 1) x
  read_more x h e q = record { run = omega (arith, p.run, read_run h true e); value = q ∙ go (dec_lt i 18) }
    where
      go : Dec (i < 18) → cond (ltb i 18) (v * 10 + digit_of (get_or r i 0)) v ≡ digits_value (min (i + 1) 18) r
      go (yes l) =
          let a : min i 18 ≡ i = omega arith in
          let b : min (i + 1) 18 ≡ suc i = omega arith in
          let w : v ≡ digits_value i r = rw a at p.value in
          rw (lt-ltb i 18 l, b, value_more i r h, ← w)
      go (no l) =
          let b : min (i + 1) 18 ≡ min i 18 = omega arith in
          rw (le-ltb i 18 (omega arith), b) p.value

-- for the code
pub ruleset reading = (value_none, read_small, read_stop, read_end, read_more)
