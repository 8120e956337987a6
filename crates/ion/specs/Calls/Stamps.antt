-- What the program `stamps` prints for an input. Assumes nothing.
use Rattle.std.specs.Prelude.{ℕ, cond, List, [], ◌∷◌, ◌++◌, ltb, length, Result, Ok, Err}
use Prim.Native.Char.{code}
use Rattle.ion.specs.Calls.Refusal.{number_of}
use Rattle.ion.specs.Calls.Contents.{Reader, Contents, contents, in_turn}
use Rattle.ion.specs.Text.Ascii.{ascii}
use Rattle.ion.specs.Numbers.Padded.{padded}
use Rattle.ion.specs.Text.Format.{text_of}
use Rattle.ion.specs.Value.ReadPaddedValue.{read_padded_value}
use Rattle.ion.specs.declared.Timestamp.{Timestamp}
use Rattle.ion.specs.declared.refusal.Refusal.{Refusal}
use Rattle.ion.specs.declared.refusal.Refusal.TheVariants as refusal

abbrev pub line_of : List ℕ → List ℕ
line_of s = s ++ (code "\n" ∷ [])

abbrev pub text_line : Timestamp → List ℕ
text_line s = line_of (text_of s)

abbrev pub stop_line : Refusal → List ℕ
stop_line r = line_of (ascii "stop " ++ padded 1 (number_of r))

-- the last line, where there is one
abbrev pub last_line : Result Unit Refusal → List ℕ
last_line (Ok u) = []
last_line (Err r) = stop_line r

-- a line for each timestamp, and one more where the bytes do not read to their end
unfoldable pub lines_of : Contents Timestamp → List ℕ
lines_of c = in_turn text_line c.items ++ last_line c.ending

-- by a reader of values
unfoldable pub output_by : Reader Timestamp → List ℕ → List ℕ
output_by read s =
    let lines = lines_of (contents read s) in
    cond (ltb 65536 (length s)) (stop_line refusal.LongInput) lines

-- values in every form
abbrev pub output_of : List ℕ → List ℕ
output_of s = output_by read_padded_value s
