-- The texts of a timestamp: every text that is read as it. Assumes nothing.
use Rattle.std.specs.Prelude.{ℕ, List, ◌++◌, ◌≡◌, length}
use Rattle.ion.specs.Text.Ascii.{ascii}
use Rattle.ion.specs.Text.Format.{zero_text, text_of}
use Rattle.ion.specs.declared.Timestamp.{Timestamp}

pub data TextFor (t : Timestamp) (s : List ℕ) : Type 0 where
  -- what the writer writes
  written : s ≡ text_of t → TextFor t s
  -- that of a full date, which has ten bytes, without its T
  without_t : length s ≡ 10 → s ++ ascii "T" ≡ text_of t → TextFor t s
  -- with Z in place of +00:00
  with_z : (r : List ℕ) → s ≡ r ++ ascii "Z" → r ++ zero_text ≡ text_of t → TextFor t s
