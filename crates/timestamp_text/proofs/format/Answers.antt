-- Where there is no room the buffer is left.
use Rattle.std.proofs.Common.{◌≡◌, ◌∙◌, sym, length}
use Rattle.ion.specs.Pair.Word.{fields_of}
use Rattle.ion.specs.Text.Format.{text_of}
use Rattle.output.proofs.Stores.{put_unroomed}
use Rattle.timestamp_text.proofs.Lengths.{length_text}
use Rattle.timestamp_text.proofs.format.Goals as goal

pub returns-in_err-n-clause-buffer : goal.returns-in_err-n-clause-buffer
unfolding text_of
returns-in_err-n-clause-buffer c =
    let l = length_text (fields_of c.args.s.packed_fields) c.args.s.attoseconds c.in_ok-check.ensures.accepted.fields in
    let size : c.text_length.result ≡ length (text_of c.args.s) = rw (c.text_length.ensures, c.unpack-f.ensures) (sym l) in
    put_unroomed c.args.buf.now c.args.at (text_of c.args.s)
    (sym c.check.ensures.value ∙ c.in_ok-check.was)
    size
    (sym c.room_for.ensures ∙ c.in_err-n.was)
