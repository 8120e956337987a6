-- Two local times by one clock lie as the two instants do. Assumes nothing.
use mathlib.Core.Path.{◌≡◌}
use Prim.Native.Nat.{ℕ, ◌+◌, ◌^◌, ◌<◌}
use native.Mathlib.Omega.{arith}
use lib.IntN.{ℤ, pos, neg_ℤ, nat_abs, ◌+ℤ◌, ◌-ℤ◌}
use borrow.Author.Differences.{up, down, sum_is_lem, neg_is}
use Rattle.integers.specs.Floor.{◌plus◌}
use Rattle.integers.proofs.Parts.{IsNatural, apart, sub_parts, plus_parts, nat_abs_parts}
use Rattle.ion.specs.Pair.Offset.{offset_of}
use Rattle.ion.specs.Pair.Count.{offset_in, fields_count, count_of}
use Rattle.ion.specs.Calendar.Shift.{minute_number}
use Rattle.ion.specs.Calls.Accepted.{time_in, date_in, Valid, Accepted}
use Rattle.ion.specs.Pair.Word.{fields_of}
use Rattle.ion.specs.Pair.Pair.{word_in}
use Rattle.ion.specs.declared.Fields.{Fields}
use Rattle.ion.specs.declared.Timestamp.{Timestamp}
use Rattle.ion.proofs.Offsets.{within_day}
use Rattle.calendar.proofs.Dates.{after_year_zero, day_number_below}
use Rattle.timestamp.proofs.Valid.{valid_time, valid_offset}
use Rattle.order.specs.Local.{IsLocalFields, seconds_at, count_by, offset_difference}
use Rattle.order.proofs.CountsInSeconds.{shift_counts}

-- the fields of an accepted timestamp are local fields
pub valid_local : {f : Fields} {a : ℕ} → Valid f a → IsLocalFields f
valid_local {f} v =
    record {
      time = valid_time v;
      from_year = v.from_year;
      to_year = v.to_year;
      second = v.second;
      offset = within_day (offset_of f.offset) (valid_offset v);
    }

-- whole seconds in UTC
abbrev pub utc_seconds : Fields → ℕ
utc_seconds f = seconds_at f (neg_ℤ (offset_in f))

-- ---- minutes by another clock

module _ (f : Fields) (p : IsLocalFields f) where
  abbrev minutes : ℕ
  minutes = minute_number (time_in f)

  pub minutes_below : minutes + 2880 < 2 ^ 33
  minutes_below = omega (arith, day_number_below (date_in f) p.time.date (omega (arith, p.to_year)), p.time.hours, p.time.minutes)

  -- a clock that is less than two days ahead or behind
  module _ (z : ℤ) (h : nat_abs z < 2880) where
    -- from year 1 on there are two days to take away
    minutes_parts : (minutes plus z) + down z ≡ minutes + up z
    minutes_parts = omega (arith, plus_parts minutes z (omega (arith, after_year_zero (date_in f) p.from_year, nat_abs_parts z)))

    -- the sum in signed numbers, as the code makes it
    pub moved_gives : IsNatural (pos minutes +ℤ z) (minutes plus z)
    moved_gives = omega (arith, sum_is_lem (pos minutes) z, apart (pos minutes +ℤ z), minutes_parts)

    pub moved_below : minutes plus z < 2 ^ 33
    moved_below = omega (arith, minutes_below, nat_abs_parts z, minutes_parts)

  pub utc_parts : (minutes plus neg_ℤ (offset_in f)) + up (offset_in f) ≡ minutes + down (offset_in f)
  utc_parts =
      let o = offset_in f in
      let m = neg_ℤ o in
      let h : nat_abs m < 2880 = omega (arith, p.offset, nat_abs_parts o, nat_abs_parts m, neg_is o) in
      omega (arith, neg_is o, minutes_parts m h)

-- ---- both by the local clock of the first

module _ (f g : Fields) (p : IsLocalFields f) (q : IsLocalFields g) where
  pub ahead_small : nat_abs (offset_difference f g) < 2880
  ahead_small =
      let o = offset_in f in
      let r = offset_in g in
      omega (arith, p.offset, q.offset, nat_abs_parts o, nat_abs_parts r, nat_abs_parts (o -ℤ r), sub_parts o r, apart (o -ℤ r))

  -- both are as far from UTC
  same_clock : seconds_at f (pos 0) + utc_seconds g ≡ seconds_at g (offset_difference f g) + utc_seconds f
  same_clock =
      let ahead = minutes_parts g q (offset_difference f g) ahead_small in
      omega (arith, utc_parts f p, utc_parts g q, ahead, sub_parts (offset_in f) (offset_in g))

  pub counts_shift : (a b : ℕ) → count_by f a (pos 0) + fields_count g b ≡ count_by g b (offset_difference f g) + fields_count f a
  counts_shift a b = shift_counts (10 ^ 18) _ _ (utc_seconds f) (utc_seconds g) a b same_clock

-- the same of two accepted timestamps, by what the code computes of them
pub one_clock : {s t : Timestamp} {f g : Fields} {z : ℤ} {m n : ℕ} → Accepted s × Accepted t → f ≡ fields_of (word_in s)
    → g ≡ fields_of (word_in t) → z ≡ offset_difference f g → m ≡ count_by f s.attoseconds (pos 0) → n ≡ count_by g t.attoseconds z
    → m + count_of t ≡ n + count_of s
unfolding count_of
one_clock {s} {t} p u v d e f =
    rw (e, f, d, u, v) (counts_shift _ _ (valid_local p.0.fields) (valid_local p.1.fields) s.attoseconds t.attoseconds)

-- ---- lists of laws, for the code

pub ruleset ahead = (valid_local, ahead_small)

pub ruleset moved = (moved_gives, moved_below)

pub ruleset in_utc = (valid_local)
