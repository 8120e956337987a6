-- The loop of `output::put_places`: the places of what is left, in front of those that are stored, are those of the value.
use Rattle.std.proofs.Common.{◌≡◌, length, drop}
use Rattle.places.specs.Places.{places_on, places, byte_from}
use Rattle.output.proofs.put_places.Given as goal

abbrev pub invariant-loop-i : goal.invariant-loop-i
invariant-loop-i g l =
    let f = byte_from g.row.FIRST in
    places_on g.row.BASE f l.i l.rest (drop l.i l.bytes) ≡ places g.row.BASE f (length l.fn.bytes) l.value
