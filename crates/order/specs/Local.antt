-- Local fields, and their whole seconds by a clock that is ahead of the local one. Assumes nothing.
use Rattle.std.specs.Prelude.{ℕ, ◌+◌, ◌*◌, ◌^◌, ◌≤◌, ◌<◌, ℤ, nat_abs, ◌-ℤ◌}
use Rattle.integers.specs.Floor.{◌plus◌}
use Rattle.ion.specs.Calendar.Shift.{IsDateTime, minute_number}
use Rattle.ion.specs.Calls.Accepted.{time_in}
use Rattle.ion.specs.Pair.Count.{offset_in}
use Rattle.ion.specs.declared.Fields.{Fields}

-- what the order needs of the fields of an accepted timestamp
pub record IsLocalFields (f : Fields) : Type 0 where
  pub time : IsDateTime (time_in f)
  pub from_year : 1 ≤ f.year
  pub to_year : f.year ≤ 9999
  pub second : f.second ≤ 59
  pub offset : nat_abs (offset_in f) < 1440

-- whole seconds by a clock that is a number of minutes ahead of the local one
abbrev pub seconds_at : Fields → ℤ → ℕ
seconds_at f z = (minute_number (time_in f) plus z) * 60 + f.second

-- the count, in attoseconds
abbrev pub count_by : Fields → ℕ → ℤ → ℕ
count_by f a z = seconds_at f z * 10 ^ 18 + a

-- how many minutes the local clock of the first is ahead of that of the second
abbrev pub offset_difference : Fields → Fields → ℤ
offset_difference f g = offset_in f -ℤ offset_in g
