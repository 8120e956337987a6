-- Where a day is wanted, the 0 of `days_in_month` is never met. Assumes nothing.
use Prim.Native.Nat.{ℕ, ◌-◌, ◌≤◌, ◌<◌}
use mathlib.Core.Path.{◌≡◌}
use mathlib.Core.Logic.{inl, inr}
use mathlib.Core.Bool.{and-false}
use native.Mathlib.Decide.{dec_le}
use native.Mathlib.Omega.{arith}
use lib.IntN.{neg_ℤ}
use Rattle.std.specs.Prelude.{Option, None, Some}
use borrow.Author.Tests.{le-leb, lt-leb}
use Rattle.ion.specs.Calendar.Dates.{is_leap, days_in_month, IsDate}
use Rattle.ion.specs.Calendar.Shift.{IsDateTime}
use Rattle.ion.specs.Pair.Offset.{offset_of}
use Rattle.ion.specs.Calls.Accepted.{time_in}
use Rattle.ion.specs.Calls.Utc.{utc_by, utc_fields}
use Rattle.ion.specs.Value.Decode.{local_by}
use Rattle.ion.specs.declared.Date.{Date}
use Rattle.ion.specs.declared.Fields.{Fields}
use Rattle.ion.specs.declared.offset.OffsetMinutes.{OffsetMinutes}
use Rattle.calendar.proofs.Months.{month_decides, month_least}
use Rattle.calendar.proofs.Dates.{is_date_lem, month_low, month_of_lem}
use Rattle.calendar.proofs.Days.{next_day_lem, prev_day_lem}
use Rattle.calendar.proofs.Shifts.{add_days_lem, shifted_is}
use Rattle.builder.proofs.Times.{time_is, year_zero_refused}
use Rattle.theorem.specs.DaysWanted.{Unanswered, HasDays, DaysWanted}

-- a month from 1 to 12
has_days : (y m : ℕ) → 1 ≤ m → m ≤ 12 → HasDays y m
unfolding days_in_month
has_days y m h k =
    record { least = month_least (is_leap y) m h k; told = λ l. simp ((month_decides m).1 (h, k), le-leb y 10000 l) }

unanswered_zero : (y m : ℕ) → Unanswered y m → days_in_month y m ≡ 0
unfolding days_in_month
unanswered_zero y m (inl h) = simp (lt-leb 1 m h)
unanswered_zero y m (inr (inl h)) = simp (lt-leb m 12 h, and-false)
unanswered_zero y m (inr (inr h)) = simp (lt-leb y 10000 h, and-false)

zero_unanswered : (y m : ℕ) → days_in_month y m ≡ 0 → Unanswered y m
zero_unanswered y m e = go (dec_le 1 m) (dec_le m 12) (dec_le y 10000)
  where
    go : Dec (1 ≤ m) → Dec (m ≤ 12) → Dec (y ≤ 10000) → Unanswered y m
    go (no h) k l = inl (omega arith)
    go (yes h) (no k) l = inr (inl (omega arith))
    go (yes h) (yes k) (no l) = inr (inr (omega arith))
    go (yes h) (yes k) (yes l) = let d = has_days y m h k in absurd (omega (arith, d.least, d.told l, e))

own_month : (t : Date) → IsDate t → HasDays t.year t.month
own_month t p = has_days t.year t.month (month_low t p) (month_of_lem t p)

month_before : (t : Date) → IsDate t → 1 < t.month → HasDays t.year (t.month - 1)
month_before t p h = has_days t.year (t.month - 1) (omega arith) (omega (arith, month_of_lem t p))

utc_time : (o : Option OffsetMinutes) (f : Fields) → IsDateTime (time_in f) → IsDateTime (time_in (utc_by o f))
utc_time None f p = p
utc_time (Some m) f p = shifted_is (time_in f) (neg_ℤ m.0) p

local_time_lem : (o : Option OffsetMinutes) (u : Fields) → IsDateTime (time_in u) → IsDateTime (time_in (local_by o u))
local_time_lem None u p = p
local_time_lem (Some m) u p = shifted_is (time_in u) m.0 p

utc_form_time : (f : Fields) → IsDateTime (time_in f) → IsDateTime (time_in (utc_fields f))
unfolding utc_fields
utc_form_time f p = utc_time (offset_of f.offset) f p

pub days_wanted : DaysWanted
days_wanted =
    record {
      zero_exact = λ y m. (zero_unanswered y m, unanswered_zero y m);
      tested = λ t e. let p = is_date_lem t e in (p.first, own_month t p);
      day_after = λ t p. (own_month t p, (next_day_lem t p).0);
      day_before = λ t p. (month_before t p, (prev_day_lem t p).0);
      days_added = λ t z p. (add_days_lem t z p).0;
      minutes_added = shifted_is;
      built = λ f m b e. shifted_is _ m.0 (time_is f b e);
      utc_form = utc_form_time;
      value_read = local_time_lem;
      year_zero = year_zero_refused;
    }
