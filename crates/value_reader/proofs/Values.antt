-- The value of an accepted timestamp is read back, whatever follows it, and whatever is read begins with such a value.
-- Assumes nothing.
use mathlib.Core.Path.{◌≡◌, ap, ap₂, ◌∙◌}
use mathlib.Core.List.{List, [], ◌∷◌, ◌++◌}
use Prim.Native.Nat.{ℕ, ◌+◌, ◌-◌, ◌*◌, ◌/◌, ◌≤◌, ◌<◌}
use native.Mathlib.Omega.{arith}
use native.Mathlib.Decide.{dec_le}
use Rattle.std.specs.Prelude.{Some, Ok}
use borrow.Author.Tests.{le-ltb}
use lib.ListN.{length}
use Rattle.ion.specs.Pair.Pair.{word_in, packed_pair}
use Rattle.ion.specs.Pair.Word.{word_of, fields_of}
use Rattle.ion.specs.Pair.Fraction.{scale}
use Rattle.ion.specs.Calls.Accepted.{Accepted}
use Rattle.ion.specs.Value.Encode.{body_of, value_of}
use Rattle.ion.specs.Value.Decode.{decode_body, pair_from}
use Rattle.ion.specs.Value.ReadValue.{is_body_of, taken_as, read_body, read_length, read_value}
use Rattle.ion.specs.declared.Timestamp.{Timestamp}
use Rattle.ion.proofs.Same.{same_refl}
use Rattle.timestamp.proofs.Accepts.{check_accepts}
use Rattle.timestamp.proofs.Valid.{accepted_word}
use Rattle.timestamp.proofs.UtcForm.{utc_is}
use Rattle.timestamp_binary.proofs.Lengths.{body_length}
use Rattle.timestamp_binary.proofs.Headers.{header_short, header_long}
use Rattle.value_decoder.specs.BodyParts.{body_for}
use Rattle.value_decoder.proofs.ReadBy.{short_back, long_back}
use Rattle.value_reader.proofs.ShortestForms.{body_back}
use Rattle.value_decoder.proofs.UtcBody.{encodable, fields_again, attoseconds_back}

-- ---- the body of an accepted timestamp

module _ (s : Timestamp) (p : Accepted s) where
  pub pair_back : pair_from (body_for (fields_of (word_in s)) s.attoseconds) ≡ s
  unfolding pair_from
  pair_back =
      let f = fields_of (word_in s) in
      let a = s.attoseconds in
      let v = p.fields in
      let w = ap word_of (fields_again f a v) ∙ accepted_word p in
      let c = ap (λ (d : ℕ). a / scale f.digits * scale d) (utc_is v).digits ∙ attoseconds_back f a v in
      ap₂ packed_pair w c

  pub decode_value : decode_body (body_of s) ≡ Some (body_for (fields_of (word_in s)) s.attoseconds)
  unfolding body_of
  decode_value = body_back (body_for (fields_of (word_in s)) s.attoseconds) (encodable (fields_of (word_in s)) s.attoseconds p.fields)

  pub body_read : read_body (body_of s) ≡ Ok s
  unfolding read_body is_body_of
  body_read =
      ap (taken_as (body_of s)) decode_value
      ∙ rw pair_back (rw (check_accepts s p, same_refl (body_of s)))

  -- ---- the value, and whatever follows it

  short_value : (r : List ℕ) → length (body_of s) ≤ 13 → read_value (value_of s ++ r) ≡ Ok (s, length (value_of s))
  unfolding read_value value_of
  short_value r h = rw (header_short (length (body_of s)) h) (short_back read_body read_length s (body_of s) r body_read h)

  long_value : (r : List ℕ) → 13 < length (body_of s) → read_value (value_of s ++ r) ≡ Ok (s, length (value_of s))
  unfolding read_value read_length value_of
  long_value r h =
      let n = length (body_of s) in
      let e : 0x80 + n - 0x80 ≡ n = omega arith in
      let b = body_length s p in
      rw (header_long n h (omega (arith, b)))
      (long_back read_body read_length s (body_of s) r body_read ((0x80 + n) ∷ [])
      (rw (le-ltb (0x80 + n) 0x8e (omega arith), le-ltb 0x92 (0x80 + n) (omega (arith, b)), e)))

  -- the writer's bytes are read back, with whatever bytes after them
  pub value_back : (r : List ℕ) → read_value (value_of s ++ r) ≡ Ok (s, length (value_of s))
  value_back r = go (dec_le (length (body_of s)) 13)
    where
      go : Dec (length (body_of s) ≤ 13) → read_value (value_of s ++ r) ≡ Ok (s, length (value_of s))
      go (yes h) = short_value r h
      go (no h) = long_value r (omega (arith, h))
