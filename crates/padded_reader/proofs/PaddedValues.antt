-- The forms of a timestamp's value and the reader: every form is read as its timestamp, so two timestamps share none and none of the one
-- is the beginning of one of the other; what is read is a form; the writer's is one, the shortest, and the only one of its length; and
-- what the reader of the shortest form accepts is accepted alike. Assumes nothing.
use mathlib.Core.Path.{◌≡◌, refl, sym, ap, subst, ◌∙◌}
use mathlib.Core.List.{List, [], ◌∷◌, ◌++◌}
use Prim.Native.Nat.{ℕ, suc, ◌+◌, ◌≤◌, ◌<◌}
use native.Mathlib.Decide.{dec_le}
use native.Mathlib.Nat.{mod-eq_of_lt}
use native.Mathlib.Omega.{arith}
use lib.Dec.{lit<}
use lib.ListN.{length, take, drop, get_or, length-append, length-drop}
use lib.Seq.{length-take-le, take-add}
use mir.Syntax.{w8}
use mir.Val.{Fits}
use Rattle.std.specs.Prelude.{Result, Ok, Err}
use Rattle.places.proofs.Below.{Below, below_take, below_drop}
use Rattle.ion.specs.Numbers.VarUInt.{groups}
use Rattle.ion.specs.Numbers.PaddedNumbers.{read_padded_var_uint}
use Rattle.ion.specs.Calls.Accepted.{Accepted}
use Rattle.ion.specs.Value.Encode.{body_of, value_of}
use Rattle.ion.specs.Value.Forms.{VarUIntForm, Form}
use Rattle.ion.specs.Value.ReadValue.{read_by, read_value}
use Rattle.ion.specs.Value.ReadPaddedValue.{padded, length_from, read_padded_body, read_padded_length, read_padded_value}
use Rattle.ion.specs.declared.Timestamp.{Timestamp}
use Rattle.ion.specs.declared.number.NumberError.{NumberError}
use Rattle.binary.proofs.Groups.{groups_one}
use Rattle.timestamp_binary.proofs.Lengths.{body_length}
use Rattle.timestamp_binary.proofs.Headers.{header_short, header_long}
use Rattle.value_decoder.specs.BodyParts.{stamp_by}
use Rattle.value_decoder.proofs.Exact.{Found}
use Rattle.value_decoder.proofs.ReadBy.{given_one, short_back, long_back, ReadBy, read_by_is, read_same}
use Rattle.value_reader.proofs.Readings.{read_is}
use Rattle.padded_reader.specs.Fractions.{padded_fraction}
use Rattle.padded_reader.proofs.NumberForms.{uint_length, uint_read}
use Rattle.padded_reader.proofs.NumbersRead.{uint_is}
use Rattle.padded_reader.proofs.BodyForms.{body_read, body_exact, stamp_same}
use Rattle.padded_reader.proofs.Shortest.{Least, writer_body, body_least}

-- ---- every form is read as its timestamp, with whatever bytes after it

length_read : (n : ℕ) (h r : List ℕ) → n ≤ 64 → VarUIntForm n h → read_padded_length (h ++ r) ≡ Ok (n, length h)
unfolding read_padded_length
length_read n h r l f = ap length_from (uint_read 64 n h r l f)

module _ (s : Timestamp) (p : Accepted s) where
  pub form_read : (b : List ℕ) → Form s b → (r : List ℕ) → read_padded_value (b ++ r) ≡ Ok (s, length b)
  unfolding read_padded_value
  form_read v (Form.short {b = b} w h) r = short_back read_padded_body read_padded_length s b r (body_read s p b w) h
  form_read v (Form.long {b = b} {h = h} w l f) r =
      long_back read_padded_body read_padded_length s b r (body_read s p b w) h (length_read (length b) h (b ++ r) l f)

-- so two timestamps never share a form, nor does one of the one begin one of the other
pub form_apart : (s t : Timestamp) → Accepted s → Accepted t → (b c q r : List ℕ) → Form s b → Form t c → b ++ q ≡ c ++ r → s ≡ t
form_apart s t p u b c q r f g e =
    let a = sym (form_read s p b f q) ∙ ap read_padded_value e ∙ form_read t u c g r in
    given_one (λ (x : Timestamp × ℕ). x.0 ≡ t) (sym a) refl

length_is : (r : List ℕ) (n j : ℕ) → Below 256 r → read_padded_length r ≡ Ok (n, j) → Found (VarUIntForm n) 64 n j r
unfolding read_padded_length
length_is r n j h e = go (read_padded_var_uint 64 r) refl e
  where
    go : (x : Result (ℕ × ℕ) NumberError) → read_padded_var_uint 64 r ≡ x → length_from x ≡ Ok (n, j) → Found (VarUIntForm n) 64 n j r
    go (Ok (m, k)) f e = given_one (λ (p : ℕ × ℕ). Found (VarUIntForm p.0) 64 p.0 p.1 r) e (uint_is 64 r m k h f)
    go (Err c) f e = absurd cc

-- ---- what is read is a form of the timestamp that is given, which is an accepted one

pub record ReadsForm (b : List ℕ) (s : Timestamp) (n : ℕ) : Type 0 where
  pub accepted : Accepted s
  pub within : n ≤ length b
  pub form : Form s (take n b)

pub read_exact : (b : List ℕ) (s : Timestamp) (n : ℕ) → Below 256 b → read_padded_value b ≡ Ok (s, n) → ReadsForm b s n
unfolding read_padded_value
read_exact b s k low e = go (read_by_is read_padded_body read_padded_length b s k e)
  where
    after : (r : List ℕ) (d : ℕ) → b ≡ d ∷ r → Below 256 r
    after r d f i = rw f at (low (suc i))

    go : ReadBy read_padded_body read_padded_length b s k → ReadsForm b s k
    go (ReadBy.short n r f h a t) =
        let x = body_exact s (take n r) (below_take 256 n r (lit< tt) (after r (0x60 + n) f)) a.read in
        let z : length (take n r) ≡ n = length-take-le n r a.enough in
        let m : k ≡ suc n = omega (arith, t) in
        rw (f, m)
        (record {
          accepted = x.accepted;
          within = omega (arith, a.enough);
          form = subst (λ (m : ℕ). Form s ((0x60 + m) ∷ take n r)) z (Form.short x.form (omega (arith, z)));
        })
    go (ReadBy.long n j r f l a t) =
        let q = length_is r n j (after r 0x6e f) l in
        let x = body_exact s (take n (drop j r)) (below_take 256 n (drop j r) (lit< tt) (below_drop 256 j r (after r 0x6e f))) a.read in
        let z : length (take n (drop j r)) ≡ n = length-take-le n (drop j r) a.enough in
        let m : k ≡ suc (j + n) = omega (arith, t) in
        let g : VarUIntForm (length (take n (drop j r))) (take j r) = rw z q.form in
        rw (f, m)
        (record {
          accepted = x.accepted;
          within = omega (arith, a.enough, length-drop j r, q.within);
          form = rw (take-add j n r) (Form.long x.form (omega (arith, z, q.limited)) g);
        })

-- so what follows is not looked at
pub read_on : (b : List ℕ) (s : Timestamp) (n : ℕ) → Below 256 b → read_padded_value b ≡ Ok (s, n) → (r : List ℕ)
    → read_padded_value (take n b ++ r) ≡ Ok (s, n)
read_on b s n h e r =
    let x = read_exact b s n h e in
    form_read s x.accepted (take n b) x.form r ∙ ap (λ (k : ℕ). Ok (s, k)) (length-take-le n b x.within)

-- ---- the writer's is a form, the shortest, and the only one of its length

one_group : (n : ℕ) → n < 128 → groups 1 n ≡ (0x80 + n) ∷ []
one_group n l = groups_one n ∙ ap (λ (x : ℕ). (128 + x) ∷ []) (mod-eq_of_lt l)

one_byte : (n : ℕ) (h : List ℕ) → n < 128 → VarUIntForm n h → length h ≡ 1 → h ≡ (0x80 + n) ∷ []
one_byte n h l f e = f.bytes ∙ ap (λ (x : ℕ). groups x n) (sym (uint_length f) ∙ e) ∙ one_group n l

module _ (s : Timestamp) (p : Accepted s) where
  abbrev n : ℕ
  n = length (body_of s)

  short_value : n ≤ 13 → value_of s ≡ (0x60 + n) ∷ body_of s
  unfolding value_of
  short_value h = ap (λ (x : List ℕ). x ++ body_of s) (header_short n h)

  long_value : 13 < n → value_of s ≡ 0x6e ∷ (0x80 + n) ∷ body_of s
  unfolding value_of
  long_value h = ap (λ (x : List ℕ). x ++ body_of s) (header_long n h (omega (arith, body_length s p)))

  -- a length in one byte
  one_form : n < 128 → VarUIntForm n ((0x80 + n) ∷ [])
  one_form h = record { width = 1; some = omega arith; most = omega arith; holds = omega arith; bytes = sym (one_group n h) }

  pub writer_form : Form s (value_of s)
  writer_form = go (dec_le n 13)
    where
      go : Dec (n ≤ 13) → Form s (value_of s)
      go (yes h) = rw (short_value h) (Form.short (writer_body s p) h)
      go (no h) =
          let l = body_length s p in
          rw (long_value (omega arith)) (Form.long (writer_body s p) (omega (arith, l)) (one_form (omega (arith, l))))

  pub shortest_form : (b : List ℕ) → Form s b → Least b (value_of s)
  shortest_form x (Form.short {b = b} w h) =
      let q = body_least s p b w in
      let l : n ≤ 13 = omega (arith, q.shorter) in
      rw (short_value l)
      (record {
        shorter = omega (arith, q.shorter);
        only = λ e. ap (λ (y : List ℕ). (0x60 + length y) ∷ y) (q.only (omega arith));
      })
  shortest_form x (Form.long {b = b} {h = h} w l f) = go (dec_le n 13)
    where
      q : Least b (body_of s)
      q = body_least s p b w

      some : 0 < length h
      some = omega (arith, uint_length f, f.some)

      go : Dec (n ≤ 13) → Least (0x6e ∷ (h ++ b)) (value_of s)
      go (yes k) =
          rw (short_value k)
          (record {
            shorter = omega (arith, q.shorter, length-append h b);
            only = λ e. absurd (omega (arith, q.shorter, length-append h b, some));
          })
      go (no k) =
          rw (long_value (omega arith))
          (record {
            shorter = omega (arith, q.shorter, length-append h b, some);
            only = λ e.
                let one : length h ≡ 1 = omega (arith, q.shorter, length-append h b, some) in
                let same : b ≡ body_of s = q.only (omega (arith, q.shorter, length-append h b, some)) in
                let y : h ≡ (0x80 + length b) ∷ [] = one_byte (length b) h (omega arith) f one in
                ap (λ (t : List ℕ). 0x6e ∷ (t ++ b)) y ∙ ap (λ (t : List ℕ). 0x6e ∷ (0x80 + length t) ∷ t) same;
          })

-- no fewer bytes are taken than the writer's, and those alone where they are as many
pub read_least : (b : List ℕ) (s : Timestamp) (n : ℕ) → Below 256 b → read_padded_value b ≡ Ok (s, n)
    → (length (value_of s) ≤ n) × (n ≡ length (value_of s) → take n b ≡ value_of s)
read_least b s n h e =
    let x = read_exact b s n h e in
    let q = shortest_form s x.accepted (take n b) x.form in
    let z = length-take-le n b x.within in
    (omega (arith, q.shorter, z), λ f. q.only (z ∙ f))

-- ---- what the reader of the shortest form accepts is accepted alike

pub read_alike : (b : List ℕ) (s : Timestamp) (n : ℕ) → read_value b ≡ Ok (s, n) → read_padded_value b ≡ Ok (s, n)
read_alike b s n e =
    let a = read_is b s n e in
    ap read_padded_value a.bytes
    ∙ form_read s a.accepted (value_of s) (writer_form s a.accepted) (drop n b)
    ∙ ap (λ (k : ℕ). Ok (s, k)) (sym a.taken)

-- ---- the code's answer

-- the bytes of b as a value
pub value_same : (b : List ℕ) → ((i : ℕ) → Fits w8 (get_or b i 0))
    → read_by (stamp_by padded padded_fraction) read_padded_length b ≡ read_padded_value b
unfolding read_padded_value
value_same b h = read_same read_padded_length stamp_same b (λ i. (h i).fits)

-- ---- a list of laws, for the code

pub ruleset values = (value_same)
