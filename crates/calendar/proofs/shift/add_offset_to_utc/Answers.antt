-- Where the day stays. Assumes nothing.
use Rattle.std.proofs.Common.{arith, pos, ◌+ℤ◌, ◌+◌, ◌*◌}
use Rattle.std.proofs.lemmas.Grind.{common_steps}
use Rattle.std.proofs.lemmas.Int.{ints, to_z-of_z}
use Rattle.ion.specs.Calendar.Shift.{date_of}
use Rattle.calendar.proofs.Shifts.{same_day}
use Rattle.calendar.proofs.shift.add_offset_to_utc.Goals as goal

pub returns-then-contains : goal.returns-then-contains
returns-then-contains c =
    let total = pos (c.args.t.hour * 60 + c.args.t.minute) +ℤ c.args.offset.0 in
    let e = same_day (date_of c.args.t) total (grind (arith, ints, common_steps)) in
    grind (arith, ints, common_steps, to_z-of_z)
