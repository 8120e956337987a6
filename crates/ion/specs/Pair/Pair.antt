-- A timestamp's packed pair: its word and its attoseconds. Assumes nothing.
use Rattle.std.specs.Prelude.{ℕ, Bool, ◌&&◌, eqb}
use Rattle.ion.specs.declared.Timestamp.{Timestamp}

-- the packed word
abbrev pub word_in : Timestamp → ℕ
word_in s = s.packed_fields

abbrev pub packed_pair : ℕ → ℕ → Timestamp
packed_pair w a = record { packed_fields = w; attoseconds = a }

-- what a refusal hands out where there must be a pair
abbrev pub no_stamp : Timestamp
no_stamp = packed_pair 0 0

abbrev pub same_pair : Timestamp → Timestamp → Bool
same_pair s t = eqb (word_in s) (word_in t) && eqb s.attoseconds t.attoseconds
