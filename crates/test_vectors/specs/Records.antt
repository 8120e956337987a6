-- What a record says of its bytes, and a count of cases of its file. Assumes nothing.
use Rattle.std.specs.Prelude.{ℕ, ◌+◌, ◌≤◌, ◌≡◌, List, length}
use Rattle.test_answers.specs.Fields.{half_at}
use Rattle.test_vectors.specs.declared.records.Record.{Record}
use Rattle.test_vectors.specs.declared.records.Record.TheVariants.{Source, Case, End}
use Rattle.test_vectors.specs.declared.replay.Tally.{Tally}

-- what a record has of its bytes: a source and a case all of them, the end the number that they begin with
abbrev pub Holds : List ℕ → Record → Type 0
Holds bytes (Source s) = s.now ≡ bytes
Holds bytes (Case k s) = s.now ≡ bytes
Holds bytes (End c) = c ≡ half_at bytes 0

-- it lies in n bytes, with its kind and length: an end has four bytes after these
abbrev pub Inside : ℕ → Record → Type 0
Inside n (Source s) = 2 + length s.now ≤ n
Inside n (Case k s) = 2 + length s.now ≤ n
Inside n (End c) = 6 ≤ n

-- in a file of n bytes, of which `left` come after the cases: each case has a byte at least, and no more agree than there are
pub record Counted (n : ℕ) (t : Tally) (left : ℕ) : Type 0 where
  pub few : t.records + left ≤ n
  pub agreed : t.agreed ≤ t.records
