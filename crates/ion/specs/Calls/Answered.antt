-- The answer of a call that first makes another. Assumes nothing.
use Rattle.std.specs.Prelude.{Result, Ok, Err}

-- what is made of the value, else the error: the `?` of the code
abbrev pub and_then : {A B E : Type 0} → Result A E → (A → Result B E) → Result B E
and_then (Ok a) make = make a
and_then (Err e) make = Err e

-- a where a check passes, else b
abbrev pub where_ok : {A E B : Type 0} → Result A E → B → B → B
where_ok (Ok x) a b = a
where_ok (Err e) a b = b
