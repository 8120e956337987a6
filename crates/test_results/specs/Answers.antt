-- What a C function hands out of an answer x: it returns the number, n, and stores the rest through references; beside a refusal what it
-- stores is 0, no and unknown. Assumes nothing.
use Rattle.std.specs.Prelude.{ℕ, ◌≡◌, Bool, false, ℤ, pos, neg_ℤ, Option, None, Result, is_some}
use Rattle.std.specs.Result.{result_unwrap_or}
use Rattle.std.specs.declared.cmp.Ordering.{Ordering}
use Rattle.std.specs.declared.cmp.Ordering.TheVariants.{Less, Equal, Greater}
use Rattle.ion.specs.Pair.Pair.{word_in, no_stamp}
use Rattle.ion.specs.Pair.Offset.{minutes_of}
use Rattle.ion.specs.Calls.Refusal.{number_in}
use Rattle.ion.specs.Calls.Order.{distant}
use Rattle.ion.specs.declared.Timestamp.{Timestamp}
use Rattle.ion.specs.declared.Decimal.{Decimal}
use Rattle.ion.specs.declared.Distance.{Distance}
use Rattle.ion.specs.declared.offset.OffsetMinutes.{OffsetMinutes}
use Rattle.ion.specs.declared.refusal.Refusal.{Refusal}

-- one value v, which is `none` beside a refusal
pub record AnswerIs {A : Type 0} (x : Result A Refusal) (none : A) (n : ℕ) (v : A) : Type 0 where
  pub number : n ≡ number_in x
  pub value : v ≡ result_unwrap_or x none

-- a pair
pub record PairIs (x : Result Timestamp Refusal) (n w a : ℕ) : Type 0 where
  pub number : n ≡ number_in x
  pub word : w ≡ word_in (result_unwrap_or x no_stamp)
  pub attoseconds : a ≡ (result_unwrap_or x no_stamp).attoseconds

abbrev pub no_decimal : Decimal
no_decimal = record { negative = false; coefficient = 0; exponent = pos 0 }

-- a fraction is not below zero, so its sign is left out
pub record DecimalIs (x : Result Decimal Refusal) (n c : ℕ) (e : ℤ) : Type 0 where
  pub number : n ≡ number_in x
  pub coefficient : c ≡ (result_unwrap_or x no_decimal).coefficient
  pub exponent : e ≡ (result_unwrap_or x no_decimal).exponent

-- an unknown offset is not known, with 0 minutes
pub record OffsetIs (x : Result (Option OffsetMinutes) Refusal) (n : ℕ) (k : Bool) (m : ℤ) : Type 0 where
  pub number : n ≡ number_in x
  pub known : k ≡ is_some (result_unwrap_or x None)
  pub minutes : m ≡ minutes_of (result_unwrap_or x None)

-- an order as a number
abbrev pub sign_of : Ordering → ℤ
sign_of Less = neg_ℤ (pos 1)
sign_of Equal = pos 0
sign_of Greater = pos 1

-- an order: -1, 0 or 1
pub record OrderIs (x : Result Ordering Refusal) (n : ℕ) (o : ℤ) : Type 0 where
  pub number : n ≡ number_in x
  pub order : o ≡ sign_of (result_unwrap_or x Equal)

abbrev pub no_distance : Distance
no_distance = distant Equal 0

-- a sign, and a size in seconds and attoseconds
pub record DistanceIs (x : Result Distance Refusal) (n : ℕ) (z : ℤ) (s a : ℕ) : Type 0 where
  pub number : n ≡ number_in x
  pub sign : z ≡ sign_of (result_unwrap_or x no_distance).order
  pub seconds : s ≡ (result_unwrap_or x no_distance).seconds
  pub attoseconds : a ≡ (result_unwrap_or x no_distance).attoseconds

-- a pair, and how many bytes it took
pub record ReadIs (x : Result (Timestamp × ℕ) Refusal) (n w a k : ℕ) : Type 0 where
  pub number : n ≡ number_in x
  pub word : w ≡ word_in (result_unwrap_or x (no_stamp, 0)).0
  pub attoseconds : a ≡ (result_unwrap_or x (no_stamp, 0)).0.attoseconds
  pub taken : k ≡ (result_unwrap_or x (no_stamp, 0)).1
