-- `year_starts` meets its contract: there are 10,001 entries, and one test over all of them, which antt computes, is their recurrence.
use Rattle.std.proofs.Common.{refl}
use Rattle.ion.specs.Calendar.Dates.{is_leap}
use Rattle.year_table.proofs.Recurrence.{recurring}
use Rattle.year_table.proofs.year_starts.Goals as goal

pub returns : goal.returns
unfolding is_leap
returns c = recurring _ refl tt
