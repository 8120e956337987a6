-- How many bytes a value takes in any of its forms: three at least, and no more than there are. Assumes nothing.
use mathlib.Core.Path.{◌≡◌, refl, ap}
use mathlib.Core.List.{List, [], ◌∷◌}
use Prim.Native.Nat.{ℕ, ◌%◌, ◌≤◌}
use native.Mathlib.Omega.{arith}
use lib.Dec.{leb}
use lib.ListN.{length, take, drop, length-drop}
use lib.Seq.{length-take-le}
use Rattle.std.specs.Prelude.{Result, Ok, Err}
use Rattle.ion.specs.Numbers.VarUInt.{scan_from}
use Rattle.ion.specs.Numbers.VarInt.{unsign}
use Rattle.ion.specs.Numbers.PaddedNumbers.{longest, with_sign, read_padded_var_uint, read_padded_var_int}
use Rattle.ion.specs.Value.Decode.{offset_from, from_offset, decode_offset, decode_fields, decode_parts}
use Rattle.ion.specs.Value.ReadPaddedValue.{padded, decode_padded_fraction, stamp_from, length_from}
use Rattle.ion.specs.Value.ReadPaddedValue.{read_padded_body, read_padded_length, read_padded_value}
use Rattle.ion.specs.declared.Timestamp.{Timestamp}
use Rattle.ion.specs.declared.number.NumberError.{NumberError}
use Rattle.binary.proofs.Groups.{scan_gives}
use Rattle.value_decoder.proofs.ReadBy.{given_one, BodyAt, ReadBy, read_by_is}
use Rattle.padded_reader.proofs.Bounds.{uint_room}

-- a body has an offset and a year: a single byte is no more than an offset
body_some : (s : Timestamp) (b : List ℕ) → read_padded_body b ≡ Ok s → 2 ≤ length b
unfolding read_padded_body decode_parts decode_offset decode_fields read_padded_var_int
body_some s [] e = absurd cc
body_some s (c ∷ []) e = go (scan_from 1439 longest 0 0 (unsign c ∷ [])) refl e
  where
    go : (x : Result (ℕ × ℕ) NumberError) → scan_from 1439 longest 0 0 (unsign c ∷ []) ≡ x
        → stamp_from (from_offset padded decode_padded_fraction (offset_from (c ∷ []) (with_sign (leb 64 (c % 128)) x))) ≡ Ok s
        → 2 ≤ length (c ∷ [])
    go (Ok (m, j)) f e =
        let q = scan_gives 1439 longest 0 0 (unsign c ∷ []) m j f in
        let one : j ≡ 1 = omega (arith, q.some, q.within) in
        absurd (let z = rw one at e in cc)
    go (Err r) f e = absurd cc
body_some s (c ∷ d ∷ b) e = omega arith

length_room : (r : List ℕ) (n j : ℕ) → read_padded_length r ≡ Ok (n, j) → j ≤ length r
unfolding read_padded_length
length_room r n j e = go (read_padded_var_uint 64 r) refl e
  where
    go : (x : Result (ℕ × ℕ) NumberError) → read_padded_var_uint 64 r ≡ x → length_from x ≡ Ok (n, j) → j ≤ length r
    go (Ok (m, k)) f e = given_one (λ (p : ℕ × ℕ). p.1 ≤ length r) e (omega (arith, uint_room 64 0 r m k f))
    go (Err c) f e = absurd cc

pub padded_within : (b : List ℕ) (s : Timestamp) (n : ℕ) → read_padded_value b ≡ Ok (s, n) → (3 ≤ n) × (n ≤ length b)
unfolding read_padded_value
padded_within b s k e = go (read_by_is read_padded_body read_padded_length b s k e)
  where
    some : (n : ℕ) (r : List ℕ) → BodyAt read_padded_body read_padded_length n r s → 2 ≤ n
    some n r a = omega (arith, body_some s (take n r) a.read, length-take-le n r a.enough)

    go : ReadBy read_padded_body read_padded_length b s k → (3 ≤ k) × (k ≤ length b)
    go (ReadBy.short n r f h a t) = (omega (arith, some n r a, t), omega (arith, a.enough, t, ap length f))
    go (ReadBy.long n j r f l a t) =
        let room = length_room r n j l in
        (omega (arith, some n (drop j r) a, t), omega (arith, a.enough, t, ap length f, length-drop j r, room))
