-- What is read of a body's parts is the timestamp whose body they are. Assumes nothing.
use mathlib.Core.Path.{◌≡◌, refl, sym, ap, ◌∙◌}
use mathlib.Core.Bool.{Bool, true, false, cond, and-eq-true_iff, false≢true}
use mathlib.Core.List.{List}
use Prim.Native.Nat.{ℕ}
use lib.ListN.{get_or}
use mir.Syntax.{w8}
use mir.Val.{Fits}
use Rattle.std.specs.Prelude.{Option, None, Some, Result, Ok, Err, is_ok}
use Rattle.places.proofs.Below.{Below}
use Rattle.ion.specs.Pair.Pair.{word_in}
use Rattle.ion.specs.Pair.Word.{fields_of}
use Rattle.ion.specs.Calls.Check.{check_of}
use Rattle.ion.specs.Calls.Accepted.{Valid, Accepted}
use Rattle.ion.specs.Value.Encode.{body_from, body_of}
use Rattle.ion.specs.Value.Decode.{shortest, decode_fraction, decode_body, pair_from, local_by}
use Rattle.ion.specs.Value.ReadValue.{same, is_body_of, taken_as, read_body, read_by, read_length, read_value}
use Rattle.ion.specs.declared.Fields.{Fields}
use Rattle.ion.specs.declared.Body.{Body}
use Rattle.ion.specs.declared.Timestamp.{Timestamp}
use Rattle.ion.specs.declared.refusal.Refusal.{Refusal}
use Rattle.ion.specs.declared.refusal.Refusal.TheVariants as refusal
use Rattle.ion.proofs.Same.{same_is}
use Rattle.packed.proofs.Words.{unpack_pack}
use Rattle.timestamp.proofs.Valid.{valid_in_range, valid_accepted}
use Rattle.timestamp.proofs.Accepts.{check_gives}
use Rattle.value_decoder.specs.BodyParts.{body_for, Acceptable, is_acceptable, parts_answer, stamp_by}
use Rattle.value_decoder.proofs.UtcBody.{acceptable}
use Rattle.value_decoder.proofs.LocalFields.{attoseconds_from, local_valid, body_again}
use Rattle.value_decoder.proofs.PartsTested.{acceptable_decides}
use Rattle.value_decoder.proofs.ReadBy.{read_same}
use Rattle.value_reader.proofs.ShortestForms.{body_is}
use Rattle.value_reader.proofs.Values.{decode_value, body_read}

-- ---- a body b that is decoded to x

module _ (b : List ℕ) (x : Body) (bytes : Below 256 b) (decoded : decode_body b ≡ Some x) where
  module _ (q : Acceptable x) where
    local : Valid (local_by x.offset x.utc) (attoseconds_from x)
    local = local_valid x (body_is b x bytes decoded).encodable q

    accepted : Accepted (pair_from x)
    unfolding pair_from
    accepted = valid_accepted local

    body_same : body_of (pair_from x) ≡ b
    unfolding pair_from body_of
    body_same =
        let w = body_is b x bytes decoded in
        let packed = unpack_pack (local_by x.offset x.utc) (valid_in_range local) in
        ap (λ (y : Body). body_from y.offset y.utc y.coefficient)
        (ap (λ (g : Fields). body_for g (attoseconds_from x)) packed ∙ body_again x w.encodable q)
        ∙ sym w.bytes

    body_accepted : read_body b ≡ Ok (pair_from x)
    body_accepted = ap read_body (sym body_same) ∙ body_read (pair_from x) accepted

  body_refused : (Acceptable x → ⊥) → read_body b ≡ Err refusal.Body
  unfolding read_body is_body_of
  body_refused h = ap (taken_as b) decoded ∙ go (is_body_of b (pair_from x)) refl
    where
      go : (t : Bool) → is_body_of b (pair_from x) ≡ t
          → cond {A = Result Timestamp Refusal} t (Ok (pair_from x)) (Err refusal.Body) ≡ Err refusal.Body
      go true e =
          let s = pair_from x in
          let p = (and-eq-true_iff (is_ok (check_of s)) (same (body_of s) b)).0 e in
          let a = check_gives s p.0 in
          let y = body_for (fields_of (word_in s)) s.attoseconds in
          let d : Some x ≡ Some y = sym decoded ∙ ap decode_body (sym (same_is (body_of s) b p.1)) ∙ decode_value s a in
          let z : x ≡ y = cc in
          absurd (h (rw z (acceptable (fields_of (word_in s)) s.attoseconds a.fields)))
      go false e = refl

  parts_same : parts_answer (Some x) ≡ read_body b
  parts_same = go (is_acceptable x) refl
    where
      go : (t : Bool) → is_acceptable x ≡ t → cond {A = Result Timestamp Refusal} t (Ok (pair_from x)) (Err refusal.Body) ≡ read_body b
      go true e = sym (body_accepted ((acceptable_decides x).0 e))
      go false e = sym (body_refused (λ q. absurd (let z = (acceptable_decides x).1 q in false≢true (sym e ∙ z))))

stamp_same : (b : List ℕ) → Below 256 b → stamp_by shortest decode_fraction b ≡ read_body b
unfolding stamp_by read_body decode_body
stamp_same b h = go (decode_body b) refl
  where
    go : (q : Option Body) → decode_body b ≡ q → parts_answer q ≡ taken_as b q
    go (Some x) e = parts_same b x h e ∙ ap (taken_as b) e
    go None e = refl

-- the bytes of s as a value
pub value_same : (s : List ℕ) → ((i : ℕ) → Fits w8 (get_or s i 0))
    → read_by (stamp_by shortest decode_fraction) read_length s ≡ read_value s
unfolding read_value
value_same s h = read_same read_length stamp_same s (λ i. (h i).fits)

-- ---- a list of laws, for the code

pub ruleset values = (value_same)
