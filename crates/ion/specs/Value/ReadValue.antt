-- Readers of a value, and that of the shortest form, which takes the writer's bytes and no others. Assumes nothing.
use Rattle.std.specs.Prelude.{ℕ, ◌+◌, ◌-◌, Bool, true, false, cond, ◌&&◌, ◌||◌, List, [], ◌∷◌, eqb, ltb, length, take, drop}
use Rattle.std.specs.Prelude.{Option, None, Some, Result, Ok, Err, is_ok}
use Rattle.ion.specs.Calls.Check.{check_of}
use Rattle.ion.specs.Value.Encode.{body_of}
use Rattle.ion.specs.Value.Decode.{decode_body, pair_from}
use Rattle.ion.specs.declared.Timestamp.{Timestamp}
use Rattle.ion.specs.declared.Body.{Body}
use Rattle.ion.specs.declared.refusal.Refusal.{Refusal}
use Rattle.ion.specs.declared.refusal.Refusal.TheVariants as refusal

-- what is read, a timestamp and how many bytes it takes
abbrev pub Reading : Type 0
Reading = Result (Timestamp × ℕ) Refusal

-- ---- a reader of values, by a reader of bodies and one of the length after 6E, with how many bytes that takes

-- what is read of a body, with which n bytes are taken
abbrev pub taking : ℕ → Result Timestamp Refusal → Reading
taking n (Ok s) = Ok (s, n)
taking n (Err r) = Err r

module _ (body : List ℕ → Result Timestamp Refusal) (length_of : List ℕ → Result (ℕ × ℕ) Refusal) where
  -- a body of n bytes after a header of k: all there, or the input ends
  unfoldable pub read_after : ℕ → ℕ → List ℕ → Reading
  read_after k n s = cond (ltb (length s) n) (Err refusal.InputEnds) (taking (k + n) (body (take n s)))

  abbrev pub read_long : List ℕ → Result (ℕ × ℕ) Refusal → Reading
  read_long s (Ok x) = read_after (1 + x.1) x.0 (drop x.1 s)
  read_long s (Err r) = Err r

  -- the value with which the bytes begin
  unfoldable pub read_by : List ℕ → Reading
  read_by [] = Err refusal.InputEnds
  read_by (d ∷ s) =
      cond (ltb d 0x60 || ltb 0x6e d) (Err refusal.FirstByte)
      (cond (eqb d 0x6e) (read_long s (length_of s)) (read_after 1 (d - 0x60) s))

-- ---- in the shortest form

-- whether two lists are the same
unfoldable pub same : List ℕ → List ℕ → Bool
same [] [] = true
same [] (y ∷ t) = false
same (x ∷ s) [] = false
same (x ∷ s) (y ∷ t) = eqb x y && same s t

-- whether the bytes b are the body of an accepted timestamp, s
unfoldable pub is_body_of : List ℕ → Timestamp → Bool
is_body_of b s = is_ok (check_of s) && same (body_of s) b

abbrev pub taken_as : List ℕ → Option Body → Result Timestamp Refusal
taken_as b (Some x) = cond (is_body_of b (pair_from x)) (Ok (pair_from x)) (Err refusal.Body)
taken_as b None = Err refusal.Body

unfoldable pub read_body : List ℕ → Result Timestamp Refusal
read_body b = taken_as b (decode_body b)

-- a byte 8E to 92, for 14 to 18
unfoldable pub read_length : List ℕ → Result (ℕ × ℕ) Refusal
read_length [] = Err refusal.InputEnds
read_length (c ∷ s) = cond (ltb c 0x8e || ltb 0x92 c) (Err refusal.Body) (Ok (c - 0x80, 1))

-- the value with which the bytes begin
unfoldable pub read_value : List ℕ → Reading
read_value s = read_by read_body read_length s
