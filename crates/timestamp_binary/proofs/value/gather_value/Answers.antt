-- `value::gather_value` meets its contract.
use Rattle.timestamp_binary.proofs.Headers.{stored_short, stored_long}
use Rattle.timestamp_binary.proofs.value.gather_value.Goals as goal

pub returns-then-length-le-MAX_INLINE_LENGTH-clause-value : goal.returns-then-length-le-MAX_INLINE_LENGTH-clause-value
returns-then-length-le-MAX_INLINE_LENGTH-clause-value c =
    stored_short c.requires.accepted c.requires.room c.put_body-end.ensures c.if-length-le-MAX_INLINE_LENGTH.true

pub returns-else-length-le-MAX_INLINE_LENGTH-clause-value : goal.returns-else-length-le-MAX_INLINE_LENGTH-clause-value
returns-else-length-le-MAX_INLINE_LENGTH-clause-value c =
    stored_long c.requires.accepted c.requires.room c.put_body-end.ensures c.if-length-le-MAX_INLINE_LENGTH.false
