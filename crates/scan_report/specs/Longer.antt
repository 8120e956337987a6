-- Distances and whole seconds. Assumes nothing.
use Rattle.std.specs.Prelude.{ℕ, Bool, ◌&&◌, ◌||◌, eqb, ltb}
use Rattle.ion.specs.declared.Distance.{Distance}

-- more than g seconds
abbrev pub is_longer : ℕ → Distance → Bool
is_longer g d = ltb g d.seconds || (eqb d.seconds g && ltb 0 d.attoseconds)
