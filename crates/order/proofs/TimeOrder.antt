-- `cmp` is a total order of the accepted timestamps; where the stored order, that of `ion_cmp`, is the same. Assumes nothing.
use mathlib.Core.Path.{◌≡◌, refl, sym, ap, ◌∙◌}
use mathlib.Core.Logic.{◌⊎◌, inl, inr}
use mathlib.Core.Bool.{true}
use Prim.Native.Nat.{ℕ, ◌*◌, ◌^◌, ◌≤◌}
use native.Mathlib.Nat.{le_trans}
use native.Mathlib.Decide.{dec_le}
use native.Mathlib.Omega.{arith}
use Rattle.std.specs.Prelude.{Ok, IsOkAnd}
use Rattle.std.specs.Ordering.{nat_cmp, ordering_reverse, is_le}
use Rattle.std.specs.declared.cmp.Ordering.{Ordering}
use Rattle.std.specs.declared.cmp.Ordering.TheVariants.{Less, Equal, Greater}
use Rattle.ion.specs.Calendar.Dates.{is_leap, month_length_of, sum_below}
use Rattle.ion.specs.Pair.Offset.{raw_offset}
use Rattle.ion.specs.Pair.Word.{word_of, fields_of}
use Rattle.ion.specs.Pair.Pair.{word_in, packed_pair}
use Rattle.ion.specs.Calls.Build.{build_of, build_checks, build_pair}
use Rattle.ion.specs.Calls.Check.{check_of}
use Rattle.ion.specs.Calls.Accepted.{Accepted}
use Rattle.ion.specs.Pair.Count.{count_of}
use Rattle.ion.specs.Calls.Order.{cmp_of, ion_cmp_of}
use Rattle.ion.specs.declared.Timestamp.{Timestamp}
use Rattle.order.proofs.Orders.{order_at_most, at_most_order, order_equal, order_turned}
use Rattle.order.proofs.Answers.{after_both, cmp_counts}
use Rattle.order.proofs.WordOrder.{word_order}

-- `cmp` gives less or equal
abbrev pub NotLater : Timestamp → Timestamp → Type 0
NotLater s t = IsOkAnd (cmp_of s t) (λ o. is_le o ≡ true)

module _ (s t : Timestamp) (p : Accepted s) (q : Accepted t) where
  at_most_counts : NotLater s t → count_of s ≤ count_of t
  at_most_counts h = order_at_most (count_of s) (count_of t) (rw (cmp_counts s t p q) at h)

  not_later : count_of s ≤ count_of t → NotLater s t
  not_later h = rw (cmp_counts s t p q) (at_most_order (count_of s) (count_of t) h)

  is_order : {o : Ordering} → cmp_of s t ≡ Ok o → nat_cmp (count_of s) (count_of t) ≡ o
  is_order h = let k = sym (cmp_counts s t p q) ∙ h in cc

  equal_counts : cmp_of s t ≡ Ok Equal → count_of s ≡ count_of t
  equal_counts h = order_equal (count_of s) (count_of t) (is_order h)

-- any three accepted timestamps, whatever their precisions and offsets
pub record IsOrder (s t u : Timestamp) : Type 0 where
  pub total : NotLater s t ⊎ NotLater t s
  pub turned : (o : Ordering) → cmp_of s t ≡ Ok o → cmp_of t s ≡ Ok (ordering_reverse o)
  pub transitive : NotLater s t → NotLater t u → NotLater s u
  -- equal ones compare alike with every third
  pub alike : cmp_of s t ≡ Ok Equal → (cmp_of s u ≡ cmp_of t u) × (cmp_of u s ≡ cmp_of u t)

pub cmp_order : (s t u : Timestamp) → Accepted s → Accepted t → Accepted u → IsOrder s t u
cmp_order s t u p q r = record { total = total; turned = turned; transitive = transitive; alike = alike }
  where
    total : NotLater s t ⊎ NotLater t s
    total = go (dec_le (count_of s) (count_of t))
      where
        go : Dec (count_of s ≤ count_of t) → NotLater s t ⊎ NotLater t s
        go (yes h) = inl (not_later s t p q h)
        go (no h) = inr (not_later t s q p (omega arith))

    turned : (o : Ordering) → cmp_of s t ≡ Ok o → cmp_of t s ≡ Ok (ordering_reverse o)
    turned o h =
        cmp_counts t s q p
        ∙ ap Ok (order_turned (count_of s) (count_of t) ∙ ap ordering_reverse (is_order s t p q h))

    transitive : NotLater s t → NotLater t u → NotLater s u
    transitive h k = not_later s u p r (le_trans (at_most_counts s t p q h) (at_most_counts t u q r k))

    alike : cmp_of s t ≡ Ok Equal → (cmp_of s u ≡ cmp_of t u) × (cmp_of u s ≡ cmp_of u t)
    alike h =
        let e = equal_counts s t p q h in (
          rw (cmp_counts s u p r, cmp_counts t u q r, e),
          rw (cmp_counts u s r p, cmp_counts u t r q, e),
        )

-- ---- against `ion_cmp`

-- with the same raw offset, precision and digit count they agree
pub stored_is_time :
    (s t : Timestamp) → Accepted s → Accepted t →
    (fields_of (word_in s)).offset.0 ≡ (fields_of (word_in t)).offset.0 →
    (fields_of (word_in s)).precision ≡ (fields_of (word_in t)).precision →
    (fields_of (word_in s)).digits ≡ (fields_of (word_in t)).digits →
    ion_cmp_of s t ≡ cmp_of s t
unfolding ion_cmp_of
stored_is_time s t p q o h k =
    after_both s t p q _ ∙ ap Ok (word_order s t p q o h k) ∙ sym (cmp_counts s t p q)

-- 2020-02-03T04:05:06 in UTC with a fraction of so many digits
abbrev pub sixth : ℕ → ℕ → Timestamp
sixth digits a =
    packed_pair
    (word_of
    (record {
      year = 2020;
      month = 2;
      day = 3;
      hour = 4;
      minute = 5;
      second = 6;
      precision = 4;
      digits = digits;
      offset = raw_offset 1440;
    }))
    a

-- without equal digit counts they need not: .5 is later than .10, though stored before it
pub stored_is_not_time :
    (cmp_of (sixth 1 (5 * 10 ^ 17)) (sixth 2 (1 * 10 ^ 17)) ≡ Ok Greater)
    × (ion_cmp_of (sixth 1 (5 * 10 ^ 17)) (sixth 2 (1 * 10 ^ 17)) ≡ Ok Less)
unfolding word_of fields_of check_of build_of build_checks build_pair count_of cmp_of ion_cmp_of is_leap month_length_of sum_below
stored_is_not_time = (refl, refl)
