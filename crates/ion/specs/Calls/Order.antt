-- Order, equality and distance of two timestamps, the first checked before the second. Assumes nothing.
use Rattle.std.specs.Prelude.{ℕ, ◌/◌, ◌%◌, ◌^◌, Bool, eqb, pos, nat_abs, ◌-ℤ◌, Result, Ok}
use Rattle.std.specs.Result.{result_and}
use Rattle.std.specs.Ordering.{nat_cmp, ordering_then}
use Rattle.std.specs.declared.cmp.Ordering.{Ordering}
use Rattle.ion.specs.Pair.Pair.{word_in, same_pair}
use Rattle.ion.specs.Pair.Count.{count_of}
use Rattle.ion.specs.Calls.Check.{check_of}
use Rattle.ion.specs.declared.Timestamp.{Timestamp}
use Rattle.ion.specs.declared.Distance.{Distance}
use Rattle.ion.specs.declared.refusal.Refusal.{Refusal}

abbrev pub check_both : Timestamp → Timestamp → Result Timestamp Refusal
check_both s t = result_and (check_of s) (check_of t)

-- ---- order

-- by the first numbers, then by the second
abbrev pub order_of_pairs : ℕ → ℕ → ℕ → ℕ → Ordering
order_of_pairs m a n b = ordering_then (nat_cmp m n) (nat_cmp a b)

unfoldable pub cmp_of : Timestamp → Timestamp → Result Ordering Refusal
cmp_of s t = result_and (check_both s t) (Ok (nat_cmp (count_of s) (count_of t)))

-- by packed word, then by attoseconds
unfoldable pub ion_cmp_of : Timestamp → Timestamp → Result Ordering Refusal
ion_cmp_of s t = result_and (check_both s t) (Ok (order_of_pairs (word_in s) s.attoseconds (word_in t) t.attoseconds))

-- ---- equality

unfoldable pub eq_of : Timestamp → Timestamp → Result Bool Refusal
eq_of s t = result_and (check_both s t) (Ok (eqb (count_of s) (count_of t)))

-- the pairs are the same
unfoldable pub ion_eq_of : Timestamp → Timestamp → Result Bool Refusal
ion_eq_of s t = result_and (check_both s t) (Ok (same_pair s t))

-- ---- distance

-- the difference of two counts, without its sign
abbrev pub size_of_difference : ℕ → ℕ → ℕ
size_of_difference m n = nat_abs (pos m -ℤ pos n)

-- an order, and the size of the difference in attoseconds
abbrev pub distant : Ordering → ℕ → Distance
distant o size = record { order = o; seconds = size / 10 ^ 18; attoseconds = size % 10 ^ 18 }

-- the distance of two counts
abbrev pub distance_of_counts : ℕ → ℕ → Distance
distance_of_counts m n = distant (nat_cmp m n) (size_of_difference m n)

unfoldable pub distance_of : Timestamp → Timestamp → Result Distance Refusal
distance_of s t = result_and (check_both s t) (Ok (distance_of_counts (count_of s) (count_of t)))
