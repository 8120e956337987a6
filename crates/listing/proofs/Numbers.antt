-- The numbers of the readers' refusals are at most 15. Assumes nothing.
use mathlib.Core.Bool.{Bool, true, false, cond, ◌||◌}
use mathlib.Core.List.{List, [], ◌∷◌}
use Prim.Native.Nat.{ℕ, ◌+◌, ◌-◌, ◌≤◌}
use native.Mathlib.Omega.{arith}
use lib.Dec.{eqb, ltb}
use lib.ListN.{length, take, drop}
use Rattle.std.specs.Prelude.{Option, None, Some, Result, Ok, Err}
use Rattle.ion.specs.Calls.Refusal.{number_in}
use Rattle.ion.specs.Numbers.PaddedNumbers.{read_padded_var_uint}
use Rattle.ion.specs.Value.Decode.{Parts, decode_body, decode_parts, pair_from}
use Rattle.ion.specs.Value.ReadValue.{taking, read_after, read_long, read_by, is_body_of, taken_as, read_body, read_length, read_value}
use Rattle.ion.specs.Value.ReadPaddedValue.{padded, decode_padded_fraction, utc_in, is_utc_time, or_body, local_stamp, stamp_from}
use Rattle.ion.specs.Value.ReadPaddedValue.{read_padded_body, length_from, read_padded_length, read_padded_value}
use Rattle.ion.specs.declared.Body.{Body}
use Rattle.ion.specs.declared.Decimal.{Decimal}
use Rattle.ion.specs.declared.Timestamp.{Timestamp}
use Rattle.ion.specs.declared.number.NumberError.{NumberError}
use Rattle.ion.specs.declared.number.NumberError.TheVariants.{Cut, Bad}
use Rattle.ion.specs.declared.refusal.Refusal.{Refusal}

either : {A : Type 0} (t : Bool) (a b : Result A Refusal) → number_in a ≤ 15 → number_in b ≤ 15 → number_in (cond t a b) ≤ 15
either true a b h k = h
either false a b h k = k

-- ---- a reader of values, by its readers of bodies and of lengths

module _ (body : List ℕ → Result Timestamp Refusal) (len : List ℕ → Result (ℕ × ℕ) Refusal)
    (few_body : (b : List ℕ) → number_in (body b) ≤ 15) (few_length : (s : List ℕ) → number_in (len s) ≤ 15) where
  after_number : (k n : ℕ) (s : List ℕ) → number_in (read_after body len k n s) ≤ 15
  unfolding read_after
  after_number k n s = either (ltb (length s) n) _ _ (omega arith) (go (body (take n s)) (few_body (take n s)))
    where
      go : (r : Result Timestamp Refusal) → number_in r ≤ 15 → number_in (taking (k + n) r) ≤ 15
      go (Ok t) h = omega arith
      go (Err r) h = h

  long_number : (s : List ℕ) (r : Result (ℕ × ℕ) Refusal) → number_in r ≤ 15 → number_in (read_long body len s r) ≤ 15
  long_number s (Ok x) h = after_number (1 + x.1) x.0 (drop x.1 s)
  long_number s (Err r) h = h

  pub read_by_number : (s : List ℕ) → number_in (read_by body len s) ≤ 15
  unfolding read_by
  read_by_number [] = omega arith
  read_by_number (d ∷ s) =
      either (ltb d 0x60 || ltb 0x6e d) _ _ (omega arith)
      (either (eqb d 0x6e) _ _ (long_number s (len s) (few_length s)) (after_number 1 (d - 0x60) s))

-- ---- in the shortest form

body_number : (b : List ℕ) → number_in (read_body b) ≤ 15
unfolding read_body
body_number b = go (decode_body b)
  where
    go : (d : Option Body) → number_in (taken_as b d) ≤ 15
    go (Some x) = either (is_body_of b (pair_from x)) _ _ (omega arith) (omega arith)
    go None = omega arith

length_number : (s : List ℕ) → number_in (read_length s) ≤ 15
unfolding read_length
length_number [] = omega arith
length_number (c ∷ s) = either (ltb c 0x8e || ltb 0x92 c) _ _ (omega arith) (omega arith)

pub read_number_lem : (s : List ℕ) → number_in (read_value s) ≤ 15
unfolding read_value
read_number_lem s = read_by_number read_body read_length body_number length_number s

-- ---- in every form

padded_body_number : (b : List ℕ) → number_in (read_padded_body b) ≤ 15
unfolding read_padded_body
padded_body_number b = go (decode_parts padded decode_padded_fraction b)
  where
    built : (r : Result Timestamp Refusal) → number_in (or_body r) ≤ 15
    built (Ok s) = omega arith
    built (Err r) = omega arith

    go : (x : Option (Parts Decimal)) → number_in (stamp_from x) ≤ 15
    go (Some x) = either (is_utc_time x.offset (utc_in x)) _ _ (built (local_stamp x)) (omega arith)
    go None = omega arith

padded_length_number : (s : List ℕ) → number_in (read_padded_length s) ≤ 15
unfolding read_padded_length
padded_length_number s = go (read_padded_var_uint 64 s)
  where
    go : (r : Result (ℕ × ℕ) NumberError) → number_in (length_from r) ≤ 15
    go (Ok x) = omega arith
    go (Err Cut) = omega arith
    go (Err Bad) = omega arith

pub read_padded_number_lem : (s : List ℕ) → number_in (read_padded_value s) ≤ 15
unfolding read_padded_value
read_padded_number_lem s = read_by_number read_padded_body read_padded_length padded_body_number padded_length_number s
