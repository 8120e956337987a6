-- Whatever the reader accepts begins with the value of the timestamp that it gives, of the length that it gives. So no two timestamps
-- share a value, and no value is the beginning of another. Assumes nothing.
use mathlib.Core.Path.{◌≡◌, refl, sym, ap, ◌∙◌}
use mathlib.Core.Bool.{Bool, true, false, cond, ◌||◌, and-eq-true_iff}
use mathlib.Core.List.{List, [], ◌∷◌, ◌++◌, append_assoc}
use Prim.Native.Nat.{ℕ, ◌+◌, ◌-◌, ◌≤◌, ◌<◌}
use native.Mathlib.Omega.{arith}
use lib.Dec.{ltb}
use lib.ListN.{length, take, drop, length-append, take-append-drop}
use lib.Seq.{length-take-le, drop-drop, drop-append_seam}
use Rattle.std.proofs.lemmas.Bool.Decides.{nat_tests}
use Rattle.std.specs.Prelude.{Option, None, Some, Result, Ok, Err, is_ok}
use Rattle.ion.specs.Calls.Check.{check_of}
use Rattle.ion.specs.Calls.Accepted.{Accepted}
use Rattle.ion.specs.Value.Encode.{body_of, header, value_of}
use Rattle.ion.specs.Value.Decode.{decode_body, pair_from}
use Rattle.ion.specs.Value.ReadValue.{same, is_body_of, taken_as, read_body, read_length, read_value}
use Rattle.ion.specs.declared.Body.{Body}
use Rattle.ion.specs.declared.Timestamp.{Timestamp}
use Rattle.ion.specs.declared.refusal.Refusal.{Refusal}
use Rattle.ion.specs.declared.refusal.Refusal.TheVariants as refusal
use Rattle.ion.proofs.Same.{same_is}
use Rattle.timestamp.proofs.Accepts.{check_gives}
use Rattle.timestamp_binary.proofs.Headers.{header_short, header_long}
use Rattle.timestamp_binary.proofs.Lengths.{value_some}
use Rattle.value_decoder.proofs.ReadBy.{given_one, BodyAt, ReadBy, read_by_is}
use Rattle.value_reader.proofs.Values.{value_back}

-- ---- a body

record BodyTaken (b : List ℕ) (s : Timestamp) : Type 0 where
  accepted : Accepted s
  bytes : body_of s ≡ b

body_read_is : (b : List ℕ) (s : Timestamp) → read_body b ≡ Ok s → BodyTaken b s
unfolding read_body is_body_of
body_read_is b s e = go (decode_body b) e
  where
    test : (t : Timestamp) (f : Bool) → is_body_of b t ≡ f → cond {A = Result Timestamp Refusal} f (Ok t) (Err refusal.Body) ≡ Ok s
        → BodyTaken b s
    test t true q e =
        let p = (and-eq-true_iff (is_ok (check_of t)) (same (body_of t) b)).0 q in
        given_one (BodyTaken b) e (record { accepted = check_gives t p.0; bytes = same_is (body_of t) b p.1 })
    test t false q e = absurd cc

    go : (d : Option Body) → taken_as b d ≡ Ok s → BodyTaken b s
    go (Some x) e = test (pair_from x) _ refl e
    go None e = absurd cc

-- ---- the whole

-- the bytes b begin with the value of s, which has n bytes
pub record ReadAs (b : List ℕ) (s : Timestamp) (n : ℕ) : Type 0 where
  pub accepted : Accepted s
  pub bytes : b ≡ value_of s ++ drop n b
  pub taken : n ≡ length (value_of s)

-- by its header x
value_is : (x : List ℕ) (n : ℕ) (r : List ℕ) (s : Timestamp) → header n ≡ x → BodyAt read_body read_length n r s
    → ReadAs (x ++ r) s (length x + n)
unfolding value_of
value_is x n r s e a =
    let b = body_read_is (take n r) s a.read in
    let z : length (body_of s) ≡ n = ap length b.bytes ∙ length-take-le n r a.enough in
    let w : header (length (body_of s)) ≡ x = ap header z ∙ e in
    record {
      accepted = b.accepted;
      bytes =
          rw (w, b.bytes)
          (sym (append_assoc x (take n r) (drop (length x + n) (x ++ r))
          ∙ ap (λ (t : List ℕ). x ++ (take n r ++ t)) (sym (drop-drop n (length x) (x ++ r)) ∙ ap (drop n) (drop-append_seam x r))
          ∙ ap (λ (t : List ℕ). x ++ t) (take-append-drop n r)));
      taken = rw w (omega (arith, z, length-append x (body_of s)));
    }

-- a length n in one byte
record LengthIs (n j : ℕ) (r : List ℕ) : Type 0 where
  more : 13 < n
  least : n ≤ 18
  one : j ≡ 1
  bytes : r ≡ (0x80 + n) ∷ drop 1 r

length_is : (r : List ℕ) (n j : ℕ) → read_length r ≡ Ok (n, j) → LengthIs n j r
unfolding read_length
length_is [] n j e = absurd cc
length_is (c ∷ r) n j e = go (ltb c 0x8e || ltb 0x92 c) refl e
  where
    go : (t : Bool) → (ltb c 0x8e || ltb 0x92 c) ≡ t → cond {A = Result (ℕ × ℕ) Refusal} t (Err refusal.Body) (Ok (c - 0x80, 1)) ≡ Ok (n, j)
        → LengthIs n j (c ∷ r)
    go true q e = absurd cc
    go false q e =
        let low : 0x8e ≤ c = grind (arith, nat_tests) in
        let high : c ≤ 0x92 = grind (arith, nat_tests) in
        let z : 0x80 + (c - 0x80) ≡ c = omega arith in
        given_one (λ (x : ℕ × ℕ). LengthIs x.0 x.1 (c ∷ r)) e
        (record { more = omega arith; least = omega arith; one = refl; bytes = ap (λ (x : ℕ). x ∷ r) (sym z) })

-- what is accepted begins with the value of the timestamp given, of the length given
pub read_is : (b : List ℕ) (s : Timestamp) (n : ℕ) → read_value b ≡ Ok (s, n) → ReadAs b s n
unfolding read_value
read_is b s k e = go (read_by_is read_body read_length b s k e)
  where
    go : ReadBy read_body read_length b s k → ReadAs b s k
    go (ReadBy.short n r f h a t) = rw (f, t) (value_is ((0x60 + n) ∷ []) n r s (header_short n h) a)
    go (ReadBy.long n j r f l a t) =
        let q = length_is r n j l in
        let d : drop j r ≡ drop 1 r = ap (λ (x : ℕ). drop x r) q.one in
        let x = value_is (0x6e ∷ (0x80 + n) ∷ []) n (drop 1 r) s (header_long n q.more (omega (arith, q.least))) (rw d at a) in
        let y : b ≡ 0x6e ∷ (0x80 + n) ∷ drop 1 r = f ∙ ap (λ (t : List ℕ). 0x6e ∷ t) q.bytes in
        rw (y, t, q.one) x

-- it takes three bytes at least, and no more than there are
pub value_within : (b : List ℕ) (s : Timestamp) (n : ℕ) → read_value b ≡ Ok (s, n) → (3 ≤ n) × (n ≤ length b)
value_within b s n e =
    let r = read_is b s n e in
    let l = length-append (value_of s) (drop n b) in
    (omega (arith, r.taken, value_some s), omega (arith, r.taken, ap length r.bytes, l))

-- ---- two timestamps

-- if one value with bytes after it is another with bytes after it, the timestamps are the same
pub value_apart : (s t : Timestamp) → Accepted s → Accepted t → (q r : List ℕ) → value_of s ++ q ≡ value_of t ++ r → s ≡ t
value_apart s t p u q r e =
    let a = sym (value_back s p q) ∙ ap read_value e ∙ value_back t u r in
    given_one (λ (x : Timestamp × ℕ). x.0 ≡ t) (sym a) refl
