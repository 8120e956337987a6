-- The header of a value, and how it is stored into the two bytes in front of its body. Assumes nothing.
use mathlib.Core.Path.{◌≡◌, refl, sym, ap, ap₂, ◌∙◌}
use mathlib.Core.List.{List, [], ◌∷◌, ◌++◌}
use Prim.Native.Nat.{ℕ, zero, suc, ◌+◌, ◌-◌, ◌%◌, ◌≤◌, ◌<◌}
use native.Mathlib.Nat.{sub-zero}
use native.Mathlib.Omega.{arith}
use borrow.Author.Tests.{le-leb, lt-leb}
use lib.ListN.{length, take, drop, set, length-set}
use lib.Seq.{length-take-le}
use Rattle.ion.specs.Calls.Accepted.{Accepted}
use Rattle.ion.specs.Calls.Output.{Run, Between}
use Rattle.ion.specs.Numbers.VarUInt.{groups, varuint, group_count}
use Rattle.ion.specs.Value.Encode.{body_of, header, value_of}
use Rattle.ion.specs.declared.Timestamp.{Timestamp}
use Rattle.output.proofs.Runs.{run_front}
use Rattle.output.proofs.Stores.{length_over}
use Rattle.binary.proofs.Groups.{groups_one}
use Rattle.binary.proofs.VarUInts.{count_shortest, count_some}
use Rattle.timestamp_binary.proofs.Lengths.{body_length}

-- ---- by the length of the body

pub header_short : (n : ℕ) → n ≤ 13 → header n ≡ (0x60 + n) ∷ []
unfolding header
header_short n h = rw (le-leb n 13 h)

one_group : (n : ℕ) → n < 128 → varuint n ≡ (128 + n) ∷ []
unfolding varuint
one_group n h =
    let c : group_count n ≡ 1 = omega (arith, count_shortest 0 n (omega arith), count_some n) in
    let e : n % 128 ≡ n = omega arith in
    ap (λ (k : ℕ). groups k n) c ∙ groups_one n ∙ ap (λ (m : ℕ). (128 + m) ∷ []) e

pub header_long : (n : ℕ) → 13 < n → n < 128 → header n ≡ 0x6e ∷ (0x80 + n) ∷ []
unfolding header
header_long n h l = rw (lt-leb n 13 h) (ap (λ (t : List ℕ). 0x6e ∷ t) (one_group n l))

-- ---- two bytes in front of t, and others in their place

-- the first e bytes of b are two and t
record Front (b t : List ℕ) (e : ℕ) : Type 0 where
  one : ℕ
  two : ℕ
  rest : List ℕ
  size : ℕ
  bytes : b ≡ one ∷ two ∷ rest
  end : e ≡ suc (suc size)
  is : take size rest ≡ t

front_of : (b a t : List ℕ) (e : ℕ) → length a ≡ 2 → take e b ≡ a ++ t → Front b t e
front_of b [] t e l h = absurd (omega arith)
front_of b (x ∷ []) t e l h = absurd (omega arith)
front_of b (x ∷ y ∷ z ∷ a) t e l h = absurd (omega arith)
front_of b (x ∷ y ∷ []) t zero l h = absurd cc
front_of [] (x ∷ y ∷ []) t (suc e) l h = absurd cc
front_of (p ∷ b) (x ∷ y ∷ []) t (suc zero) l h = absurd cc
front_of (p ∷ []) (x ∷ y ∷ []) t (suc (suc e)) l h = absurd cc
front_of (p ∷ q ∷ r) (x ∷ y ∷ []) t (suc (suc e)) l h = record { one = p; two = q; rest = r; size = e; bytes = refl; end = refl; is = cc }

module _ {b t : List ℕ} {e : ℕ} (f : Front b t e) where
  one_stored : (y : ℕ) → take (e - 1) (drop 1 (set b 1 y)) ≡ y ∷ t
  one_stored y =
      let n : e - 1 ≡ suc f.size = omega (arith, f.end) in
      ap₂ (λ (k : ℕ) (s : List ℕ). take k (drop 1 (set s 1 y))) n f.bytes ∙ ap (λ (s : List ℕ). y ∷ s) f.is

  two_stored : (x y : ℕ) → take e (set (set b 0 x) 1 y) ≡ x ∷ y ∷ t
  two_stored x y =
      ap₂ (λ (k : ℕ) (s : List ℕ). take k (set (set s 0 x) 1 y)) f.end f.bytes ∙ ap (λ (s : List ℕ). x ∷ y ∷ s) f.is

-- ---- the header in front of a body that was put two bytes from the start of d

module _ {s : Timestamp} {d b : List ℕ} {e : ℕ} (p : Accepted s) (m : 20 ≤ length d) (run : Run d 2 (body_of s) b e) where
  most : e ≤ 20
  most = omega (arith, body_length s p, run.next)

  size : length b ≡ length d
  size = ap length run.bytes ∙ length_over d 2 (body_of s) (omega (arith, run.next, most))

  front : Front b (body_of s) e
  front =
      let h : 2 ≤ length d = omega arith in
      front_of b (take 2 d) (body_of s) e (length-take-le 2 d h) (run_front run h)

  body_size : e - 2 ≡ length (body_of s)
  body_size = omega (arith, run.next)

  pub stored_short : e - 2 ≤ 13 → Between (set b 1 (0x60 + (e - 2))) 1 e (value_of s)
  unfolding value_of
  stored_short h =
      let short = header_short (length (body_of s)) (omega (arith, body_size)) in
      record {
        from = omega (arith, run.next);
        to = simp length-set (omega (arith, size, most));
        bytes = one_stored front (0x60 + (e - 2)) ∙ rw body_size (ap (λ (t : List ℕ). t ++ body_of s) (sym short));
      }

  pub stored_long : 13 < e - 2 → Between (set (set b 0 0x6e) 1 (0x80 + (e - 2))) 0 e (value_of s)
  unfolding value_of
  stored_long h =
      let long = header_long (length (body_of s)) (omega (arith, body_size)) (omega (arith, body_size, most)) in
      record {
        from = omega arith;
        to = simp length-set (omega (arith, size, most));
        bytes = rw (sub-zero e)
            (two_stored front 0x6e (0x80 + (e - 2)) ∙ rw body_size (ap (λ (t : List ℕ). t ++ body_of s) (sym long)));
      }

-- ---- a list of laws, for the code

pub ruleset headers = (body_length, stored_short, stored_long)
