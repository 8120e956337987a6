-- The local time of a UTC date and time is one too, and has room in the word.
use Rattle.std.proofs.Common.{sym, ◌∙◌, arith}
use Rattle.ion.specs.Calendar.Shift.{IsDateTime}
use Rattle.std.specs.Prelude.{Some}
use Rattle.calendar.proofs.Shifts.{shifted_is}
use Rattle.builder.proofs.Bounds.{year_decides}
use Rattle.builder.proofs.Times.{time_is, time_in_range}
use Rattle.builder.proofs.routes.from_utc_fields.Goals as goal

pub finish-requires : goal.finish-requires
finish-requires c =
    let f = c.args.f in
    let t = c.add_offset_to_utc-local.result in
    let g = time_is f c.requires.0 (sym c.is_day.ensures ∙ c.if-not-is_day.false) in
    let p : IsDateTime t = rw (c.add_offset_to_utc-local.ensures, c.given_time.ensures) (shifted_is _ _ g) in
    let y = (year_decides t.year).0 (sym c.is_year.ensures ∙ c.if-not-is_year.false) in
    (c.requires.1, time_in_range f t (Some c.args.m) c.requires.0 p (omega arith) c.requires.1)
