-- A reader of values, by what its readers of bodies and of lengths answer: a body behind its header is read, and whatever is read is one.
-- Assumes nothing.
use mathlib.Core.Path.{◌≡◌, refl, sym, ap, ap₂, subst, ◌∙◌}
use mathlib.Core.Bool.{Bool, true, false, cond, ◌||◌}
use mathlib.Core.List.{List, [], ◌∷◌, ◌++◌, append_assoc}
use Prim.Native.Nat.{ℕ, suc, ◌+◌, ◌-◌, ◌≤◌}
use native.Mathlib.Omega.{arith}
use borrow.Author.Tests.{le-ltb, ltb-false, ne_eqb, eqb-true, eqb-false}
use lib.Dec.{eqb, ltb, lit<}
use lib.ListN.{length, take, drop, length-append}
use lib.Seq.{take_at, drop-append_seam}
use Rattle.std.proofs.lemmas.Bool.Decides.{nat_tests}
use Rattle.std.specs.Prelude.{Result, Ok, Err}
use Rattle.places.proofs.Below.{Below, below_take, below_drop}
use Rattle.ion.specs.Value.ReadValue.{Reading, taking, read_after, read_long, read_by}
use Rattle.ion.specs.declared.Timestamp.{Timestamp}
use Rattle.ion.specs.declared.refusal.Refusal.{Refusal}
use Rattle.ion.specs.declared.refusal.Refusal.TheVariants as refusal

-- what an answer gives is one thing
pub given_one : {A E : Type 0} (P : A → Type 0) {x y : A} → ◌≡◌ {A = Result A E} (Ok x) (Ok y) → P x → P y
given_one P {x} {y} e h = let q : x ≡ y = cc in subst P q h

module _ (body : List ℕ → Result Timestamp Refusal) (len : List ℕ → Result (ℕ × ℕ) Refusal) where
  -- ---- a body of the timestamp s, whatever follows it

  module _ (s : Timestamp) (b r : List ℕ) (e : body b ≡ Ok s) where
    after_back : (k n : ℕ) → n ≡ length b → read_after body len k n (b ++ r) ≡ Ok (s, k + n)
    unfolding read_after
    after_back k n l =
        rw (le-ltb (length (b ++ r)) n (omega (arith, length-append b r)), take_at b r n (sym l)) (ap (taking (k + n)) e)

    pub short_back : length b ≤ 13 → read_by body len (((0x60 + length b) ∷ b) ++ r) ≡ Ok (s, suc (length b))
    unfolding read_by
    short_back h =
        let n = length b in
        let z : 0x60 + n - 0x60 ≡ n = omega arith in
        rw (le-ltb (0x60 + n) 0x60 (omega arith), le-ltb 0x6e (0x60 + n) (omega arith), ne_eqb (0x60 + n) 0x6e (omega arith), z)
        (after_back 1 n refl ∙ ap (λ (k : ℕ). Ok (s, k)) (let q : 1 + n ≡ suc n = omega arith in q))

    pub long_back : (h : List ℕ) → len (h ++ (b ++ r)) ≡ Ok (length b, length h)
        → read_by body len ((0x6e ∷ (h ++ b)) ++ r) ≡ Ok (s, suc (length (h ++ b)))
    unfolding read_by
    long_back h l =
        let n = length b in
        let z : 1 + length h + n ≡ suc (length (h ++ b)) = omega (arith, length-append h b) in
        ap (λ (x : List ℕ). read_long body len x (len x)) (append_assoc h b r)
        ∙ ap (read_long body len (h ++ (b ++ r))) l
        ∙ ap (read_after body len (1 + length h) n) (drop-append_seam h (b ++ r))
        ∙ after_back (1 + length h) n refl
        ∙ ap (λ (k : ℕ). Ok (s, k)) z

  -- ---- what is read

  -- the body of n bytes after a header, and the timestamp s
  pub record BodyAt (n : ℕ) (r : List ℕ) (s : Timestamp) : Type 0 where
    pub enough : n ≤ length r
    pub read : body (take n r) ≡ Ok s

  -- k bytes of b are taken
  pub data ReadBy (b : List ℕ) (s : Timestamp) (k : ℕ) : Type 0 where
    short : (n : ℕ) (r : List ℕ) → b ≡ (0x60 + n) ∷ r → n ≤ 13 → BodyAt n r s → k ≡ 1 + n → ReadBy b s k
    long : (n j : ℕ) (r : List ℕ) → b ≡ 0x6e ∷ r → len r ≡ Ok (n, j) → BodyAt n (drop j r) s → k ≡ 1 + j + n → ReadBy b s k

  after_is : (h n : ℕ) (r : List ℕ) (s : Timestamp) (k : ℕ) → read_after body len h n r ≡ Ok (s, k) → BodyAt n r s × (k ≡ h + n)
  unfolding read_after
  after_is h n r s k e = go (ltb (length r) n) refl e
    where
      found : n ≤ length r → (q : Result Timestamp Refusal) → body (take n r) ≡ q → taking (h + n) q ≡ Ok (s, k)
          → BodyAt n r s × (k ≡ h + n)
      found l (Ok t) f e =
          given_one (λ (x : Timestamp × ℕ). BodyAt n r x.0 × (x.1 ≡ h + n)) e (record { enough = l; read = f }, refl)
      found l (Err c) f e = absurd cc

      go : (t : Bool) → ltb (length r) n ≡ t → cond t (Err refusal.InputEnds) (taking (h + n) (body (take n r))) ≡ Ok (s, k)
          → BodyAt n r s × (k ≡ h + n)
      go true q e = absurd cc
      go false q e = found (ltb-false (length r) n q) (body (take n r)) refl e

  -- a number that is within its bounds
  within : (l m n : ℕ) → (ltb n l || ltb m n) ≡ false → (l ≤ n) × (n ≤ m)
  within l m n e = (grind (arith, nat_tests), grind (arith, nat_tests))

  long_is : (r : List ℕ) (s : Timestamp) (k : ℕ) → read_long body len r (len r) ≡ Ok (s, k) → ReadBy (0x6e ∷ r) s k
  long_is r s k e = go (len r) refl e
    where
      go : (q : Result (ℕ × ℕ) Refusal) → len r ≡ q → read_long body len r q ≡ Ok (s, k) → ReadBy (0x6e ∷ r) s k
      go (Ok (n, j)) f e =
          let a = after_is (1 + j) n (drop j r) s k e in
          ReadBy.long n j r refl f a.0 a.1
      go (Err c) f e = absurd cc

  pub read_by_is : (b : List ℕ) (s : Timestamp) (k : ℕ) → read_by body len b ≡ Ok (s, k) → ReadBy b s k
  unfolding read_by
  read_by_is [] s k e = absurd cc
  read_by_is (d ∷ r) s k e = first (ltb d 0x60 || ltb 0x6e d) refl e
    where
      second : (t : Bool) → eqb d 0x6e ≡ t → 0x60 ≤ d → d ≤ 0x6e
          → cond t (read_long body len r (len r)) (read_after body len 1 (d - 0x60) r) ≡ Ok (s, k) → ReadBy (d ∷ r) s k
      second true q l u e = rw (eqb-true d 0x6e q) (long_is r s k e)
      second false q l u e =
          let a = after_is 1 (d - 0x60) r s k e in
          let z : d ≡ 0x60 + (d - 0x60) = omega arith in
          ReadBy.short (d - 0x60) r (ap (λ (x : ℕ). x ∷ r) z) (omega (arith, eqb-false d 0x6e q)) a.0 a.1

      first : (t : Bool) → (ltb d 0x60 || ltb 0x6e d) ≡ t
          → cond t (Err refusal.FirstByte) (cond (eqb d 0x6e) (read_long body len r (len r)) (read_after body len 1 (d - 0x60) r))
          ≡ Ok (s, k)
          → ReadBy (d ∷ r) s k
      first true q e = absurd cc
      first false q e =
          let p = within 0x60 0x6e d q in
          second (eqb d 0x6e) refl p.0 p.1 e

-- ---- readers of bodies that are the same make the same reader of values

module _ {f g : List ℕ → Result Timestamp Refusal} (len : List ℕ → Result (ℕ × ℕ) Refusal)
    (same : (b : List ℕ) → Below 256 b → f b ≡ g b) where
  after_same : (k n : ℕ) (s : List ℕ) → Below 256 s → read_after f len k n s ≡ read_after g len k n s
  unfolding read_after
  after_same k n s h =
      ap (λ (x : Result Timestamp Refusal). cond (ltb (length s) n) (Err refusal.InputEnds) (taking (k + n) x))
      (same (take n s) (below_take 256 n s (lit< tt) h))

  pub read_same : (s : List ℕ) → Below 256 s → read_by f len s ≡ read_by g len s
  unfolding read_by
  read_same [] h = refl
  read_same (d ∷ s) h =
      let t : Below 256 s = λ i. h (suc i) in
      ap₂ (λ (x y : Reading). cond (ltb d 0x60 || ltb 0x6e d) (Err refusal.FirstByte) (cond (eqb d 0x6e) x y)) (long_same (len s))
      (after_same 1 (d - 0x60) s t)
    where
      long_same : (q : Result (ℕ × ℕ) Refusal) → read_long f len s q ≡ read_long g len s q
      long_same (Ok x) = after_same (1 + x.1) x.0 (drop x.1 s) (below_drop 256 x.1 s (λ i. h (suc i)))
      long_same (Err r) = refl
