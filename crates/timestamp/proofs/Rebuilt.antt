-- The packed check by its parts. Assumes nothing.
use mathlib.Core.Path.{◌≡◌}
use Prim.Native.Nat.{◌≤◌, ◌<◌}
use borrow.Author.Tests.{lt-ltb, le-ltb}
use Rattle.std.specs.Prelude.{Err}
use Rattle.ion.specs.Pair.Word.{fields_of}
use Rattle.ion.specs.Pair.Pair.{word_in}
use Rattle.ion.specs.Calls.Build.{build_of}
use Rattle.ion.specs.Calls.Check.{rebuilt, same_as, check_of}
use Rattle.ion.specs.declared.Timestamp.{Timestamp}
use Rattle.ion.specs.declared.refusal.Refusal.TheVariants as refusal

-- more than 18 digits come first
pub check_digits : (s : Timestamp) → 18 < (fields_of (word_in s)).digits → check_of s ≡ Err refusal.Digits
unfolding check_of
check_digits s h = simp (lt-ltb 18 (fields_of (word_in s)).digits h)

-- else the pair is compared with what is built of the fields that the precision has
pub check_built : (s : Timestamp) → (fields_of (word_in s)).digits ≤ 18
    → check_of s ≡ same_as s (build_of (rebuilt (fields_of (word_in s)) s.attoseconds))
unfolding check_of
check_built s h = simp (le-ltb 18 (fields_of (word_in s)).digits h)
