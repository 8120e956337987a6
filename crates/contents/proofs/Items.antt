-- The contents of bytes, item by item: at their end, after an item, and where one is refused; and what so holds of all contents.
-- Assumes nothing.
use mathlib.Core.Path.{◌≡◌, refl, sym, ap, subst}
use mathlib.Core.List.{List, [], ◌∷◌, ◌++◌, append-nil}
use Prim.Native.Nat.{ℕ, zero, suc, ◌≤◌, ◌<◌}
use native.Mathlib.Omega.{arith}
use lib.ListN.{length, drop, length-drop}
use Rattle.std.specs.Prelude.{Result, Ok, Err}
use Rattle.ion.specs.Calls.Contents.{Reader, Contents, contents_with, before, contents_after, contents_from, contents}
use Rattle.ion.specs.declared.refusal.Refusal.{Refusal}
use Rattle.contents.proofs.Readers.{Advances, ReadsAs}

-- items before what follows them
abbrev pub all_before : {A : Type 0} → List A → Contents A → Contents A
all_before xs c = contents_with (xs ++ c.items) c.ending

pub before_none : {A : Type 0} (xs : List A) (e : Result Unit Refusal) → all_before xs (contents_with [] e) ≡ contents_with xs e
before_none {A} xs e = ap (λ (l : List A). contents_with l e) (append-nil xs)

-- what follows an item matters only where there is one
after_same : {A : Type 0} (r : Result (A × ℕ) Refusal) {f g : ℕ → Contents A} → ((x : A) (n : ℕ) → r ≡ Ok (x, n) → f n ≡ g n)
    → contents_after r f ≡ contents_after r g
after_same (Ok (x, n)) h = ap (before x) (h x n refl)
after_same (Err r) h = refl

module _ {A : Type 0} (read : Reader A) where
  -- ---- the end of the bytes

  from_end : (n : ℕ) → contents_from read n [] ≡ contents_with [] (Ok tt)
  unfolding contents_from
  from_end zero = refl
  from_end (suc n) = refl

  pub contents_end : contents read [] ≡ contents_with [] (Ok tt)
  unfolding contents
  contents_end = from_end 0

  -- ---- an item that is refused

  pub contents_stop : (s : List ℕ) {r : Refusal} → 0 < length s → read s ≡ Err r → contents read s ≡ contents_with [] (Err r)
  unfolding contents contents_from
  contents_stop [] h e = absurd (omega arith)
  contents_stop (b ∷ s) h e = rw e refl

module _ {A : Type 0} {read : Reader A} (a : Advances read) where
  -- ---- an item and what follows it

  shorter : (s : List ℕ) (x : A) (n : ℕ) → ReadsAs read s x n → length (drop n s) < length s
  shorter s x n e = omega (arith, length-drop n s, a.some s x n e, a.within s x n e)

  -- a larger limit than the number of bytes makes no difference
  from_fuel : (m n : ℕ) (s : List ℕ) → length s ≤ m → length s ≤ n → contents_from read m s ≡ contents_from read n s
  unfolding contents_from
  from_fuel zero n [] h k = sym (from_end read n)
  from_fuel zero n (b ∷ s) h k = absurd (omega arith)
  from_fuel (suc m) n [] h k = sym (from_end read n)
  from_fuel (suc m) zero (b ∷ s) h k = absurd (omega arith)
  from_fuel (suc m) (suc n) (b ∷ s) h k =
      after_same (read (b ∷ s))
      (λ x t e. from_fuel m n (drop t (b ∷ s)) (omega (arith, shorter (b ∷ s) x t e)) (omega (arith, shorter (b ∷ s) x t e)))

  pub contents_next : (s : List ℕ) (x : A) (n : ℕ) → ReadsAs read s x n → contents read s ≡ before x (contents read (drop n s))
  unfolding contents contents_from
  contents_next [] x n e = absurd (omega (arith, shorter [] x n e))
  contents_next (b ∷ s) x n e =
      let t = drop n (b ∷ s) in
      rw e (ap (before x) (from_fuel (length s) (length t) t (omega (arith, shorter (b ∷ s) x n e)) (omega arith)))

  -- ---- what holds of the contents of any bytes

  module _ (P : List ℕ → Contents A → Type 0) (end : P [] (contents_with [] (Ok tt)))
      (stop : (s : List ℕ) (r : Refusal) → read s ≡ Err r → P s (contents_with [] (Err r)))
      (next : (s : List ℕ) (c : Contents A) (x : A) (n : ℕ) → ReadsAs read s x n → P (drop n s) c → P s (before x c)) where
    step : (s : List ℕ) → ((t : List ℕ) → length t < length s → P t (contents read t)) → P s (contents read s)
    step [] ih = subst (P []) (sym (contents_end read)) end
    step (b ∷ s) ih = go (read (b ∷ s)) refl
      where
        go : (r : Result (A × ℕ) Refusal) → read (b ∷ s) ≡ r → P (b ∷ s) (contents read (b ∷ s))
        go (Ok (x, n)) e =
            subst (P (b ∷ s)) (sym (contents_next (b ∷ s) x n e)) (next (b ∷ s) _ x n e (ih _ (shorter (b ∷ s) x n e)))
        go (Err r) e = subst (P (b ∷ s)) (sym (contents_stop read (b ∷ s) (omega arith) e)) (stop (b ∷ s) r e)

    upto : (n : ℕ) (s : List ℕ) → length s ≤ n → P s (contents read s)
    upto zero s h = step s (λ t l. absurd (omega arith))
    upto (suc n) s h = step s (λ t l. upto n t (omega arith))

    pub of_contents : (s : List ℕ) → P s (contents read s)
    of_contents s = upto (length s) s (omega arith)

  -- there are no more items than bytes
  pub contents_few : (s : List ℕ) → length (contents read s).items ≤ length s
  contents_few =
      of_contents (λ (s : List ℕ) (c : Contents A). length c.items ≤ length s) (omega arith) (λ s r e. omega arith)
      (λ s c x n e h. omega (arith, h, shorter s x n e))
