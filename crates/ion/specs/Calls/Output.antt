-- What a writer leaves in a lent buffer, and what it answers. Assumes nothing.
use Rattle.std.specs.Prelude.{ℕ, ◌+◌, ◌-◌, ◌≤◌, Bool, cond, List, ◌++◌, ◌≡◌, leb, length, take, drop, Result, Ok, Err}
use Rattle.std.specs.Result.{result_and}
use Rattle.ion.specs.Calls.Answered.{where_ok}
use Rattle.ion.specs.declared.refusal.Refusal.{Refusal}
use Rattle.ion.specs.declared.refusal.Refusal.TheVariants as refusal

-- d with the bytes s from index at on
abbrev pub over : List ℕ → ℕ → List ℕ → List ℕ
over d at s = take at d ++ (s ++ drop (at + length s) d)

-- whether the bytes s fit from index at on
abbrev pub has_room : List ℕ → ℕ → List ℕ → Bool
has_room d at s = leb (at + length s) (length d)

-- the buffer after a writer of the bytes s: as it was where there is no room
unfoldable pub put : List ℕ → ℕ → List ℕ → List ℕ
put d at s = cond (has_room d at s) (over d at s) d

-- the answer of a writer of n bytes from index at on of a buffer of size bytes: their number
unfoldable pub room_for : ℕ → ℕ → ℕ → Result ℕ Refusal
room_for size at n = cond (leb (at + n) size) (Ok n) (Err refusal.ShortBuffer)

-- that of a writer of the bytes s
abbrev pub wrote : List ℕ → ℕ → List ℕ → Result ℕ Refusal
wrote d at s = room_for (length d) at (length s)

-- the same of a writer that first makes the check c
unfoldable pub put_after : {A : Type 0} → Result A Refusal → List ℕ → ℕ → List ℕ → List ℕ
put_after c d at s = where_ok c (put d at s) d

unfoldable pub wrote_after : {A : Type 0} → Result A Refusal → List ℕ → ℕ → List ℕ → Result ℕ Refusal
wrote_after c d at s = result_and c (wrote d at s)

-- inside a writer: e is d with the bytes s from index at on, and r is the index after them
pub record Run (d : List ℕ) (at : ℕ) (s e : List ℕ) (r : ℕ) : Type 0 where
  pub bytes : e ≡ over d at s
  pub next : r ≡ at + length s

-- the bytes of e from index a up to index b are s
pub record Between (e : List ℕ) (a b : ℕ) (s : List ℕ) : Type 0 where
  pub from : a ≤ b
  pub to : b ≤ length e
  pub bytes : take (b - a) (drop a e) ≡ s
