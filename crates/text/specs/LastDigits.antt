-- What a writer of a padded number leaves, read from the back. Assumes nothing.
use Rattle.std.specs.Prelude.{ℕ, ◌-◌, ◌%◌, ◌^◌, ◌≤◌, List}
use Rattle.ion.specs.Calls.Output.{Between}
use Rattle.ion.specs.Numbers.Padded.{padded}

-- for each k from 1 to the count of bytes written, the last k of them, which end before index end of the buffer e, are the remainder
-- of n by 10 ^ k, padded to k digits
abbrev pub LastDigits : ℕ → List ℕ → ℕ → ℕ → Type 0
LastDigits n e end count = (k : ℕ) → 1 ≤ k → k ≤ count → Between e (end - k) end (padded k (n % 10 ^ k))
