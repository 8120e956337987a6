-- The two checks before an answer about two timestamps, and the answers where both are accepted. Assumes nothing.
use mathlib.Core.Path.{◌≡◌}
use lib.Dec.{eqb}
use Rattle.std.specs.Prelude.{Result, Ok}
use Rattle.std.specs.Result.{result_and}
use Rattle.std.specs.Ordering.{nat_cmp}
use Rattle.ion.specs.Pair.Count.{count_of}
use Rattle.ion.specs.Calls.Accepted.{Accepted}
use Rattle.ion.specs.Calls.Order.{check_both, cmp_of, eq_of, distance_of_counts, distance_of}
use Rattle.ion.specs.declared.Timestamp.{Timestamp}
use Rattle.ion.specs.declared.refusal.Refusal.{Refusal}
use Rattle.ion.specs.Calls.Check.{check_of}
use Rattle.ion.proofs.Answers.{both_ok, ok_is}
use Rattle.timestamp.proofs.Accepts.{check_gives, check_accepts}

-- ---- both checks pass where both timestamps are accepted, and nowhere else

module _ (s t : Timestamp) where
  pub both_checked : Accepted s → Accepted t → check_both s t ≡ Ok t
  both_checked p q = rw (check_accepts s p) (check_accepts t q)

  pub both_accepted : {u : Timestamp} → check_both s t ≡ Ok u → Accepted s × Accepted t
  both_accepted {u} e = let h = both_ok (check_of s) (check_of t) (ok_is _ u e) in (check_gives s h.0, check_gives t h.1)

-- ---- of accepted timestamps `cmp`, `==` and the distance are by the counts

module _ (s t : Timestamp) (p : Accepted s) (q : Accepted t) where
  pub after_both : {A : Type 0} (r : Result A Refusal) → result_and (check_both s t) r ≡ r
  after_both r = rw (both_checked s t p q)

  pub cmp_counts : cmp_of s t ≡ Ok (nat_cmp (count_of s) (count_of t))
  unfolding cmp_of
  cmp_counts = after_both _

  pub eq_counts : eq_of s t ≡ Ok (eqb (count_of s) (count_of t))
  unfolding eq_of
  eq_counts = after_both _

  pub distance_counts : distance_of s t ≡ Ok (distance_of_counts (count_of s) (count_of t))
  unfolding distance_of
  distance_counts = after_both _

-- for the code
pub ruleset both = (both_accepted)
