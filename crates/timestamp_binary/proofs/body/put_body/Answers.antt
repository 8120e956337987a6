-- `body::put_body` meets its contract: the three parts stand one after another.
use Rattle.output.proofs.Runs.{room_first, room_next, run_both}
use Rattle.timestamp_binary.proofs.BodyRuns.{body_room, room_after}
use Rattle.timestamp_binary.proofs.body.put_body.Goals as goal

pub put_offset-after_offset-requires : goal.put_offset-after_offset-requires
put_offset-after_offset-requires c =
    let count = c.field_count-count.ensures.value in
    room_first (body_room c.requires.accepted c.requires.room c.unpack-local.ensures c.utc_fields-utc.ensures c.offset_of-o.ensures count)

pub put_fields-after_fields-requires : goal.put_fields-after_fields-requires
put_fields-after_fields-requires c =
    let count = c.field_count-count.ensures.value in
    let r = body_room c.requires.accepted c.requires.room c.unpack-local.ensures c.utc_fields-utc.ensures c.offset_of-o.ensures count in
    let w = c.put_offset-after_offset in
    room_first (room_after r w.ensures w.auto.buf)

pub put_fraction-requires : goal.put_fraction-requires
put_fraction-requires c =
    let count = c.field_count-count.ensures.value in
    let r = body_room c.requires.accepted c.requires.room c.unpack-local.ensures c.utc_fields-utc.ensures c.offset_of-o.ensures count in
    let w = c.put_offset-after_offset in
    rw c.put_fields-after_fields.auto.buf (room_next (room_after r w.ensures w.auto.buf) c.put_fields-after_fields.ensures)

pub returns : goal.returns
returns c =
    let count = c.field_count-count.ensures.value in
    let r = body_room c.requires.accepted c.requires.room c.unpack-local.ensures c.utc_fields-utc.ensures c.offset_of-o.ensures count in
    let w = c.put_offset-after_offset in
    run_both r w.ensures (run_both (room_after r w.ensures w.auto.buf) c.put_fields-after_fields.ensures c.put_fraction.ensures)
