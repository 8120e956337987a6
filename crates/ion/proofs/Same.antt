-- The test of two lists answers yes to equal ones and to no others. Assumes nothing.
use mathlib.Core.Path.{◌≡◌, refl, ap₂}
use mathlib.Core.Bool.{Bool, true, false, and-eq-true_iff, false≢true}
use mathlib.Core.List.{List, [], ◌∷◌}
use Prim.Native.Nat.{ℕ}
use borrow.Author.Tests.{eq-eqb, eqb-true}
use lib.Dec.{eqb}
use Rattle.ion.specs.Value.ReadValue.{same}

pub same_refl : (s : List ℕ) → same s s ≡ true
unfolding same
same_refl [] = refl
same_refl (a ∷ s) = rw (eq-eqb a a refl, same_refl s)

pub same_is : (s t : List ℕ) → same s t ≡ true → s ≡ t
unfolding same
same_is [] [] e = refl
same_is [] (b ∷ t) e = absurd (false≢true e)
same_is (a ∷ s) [] e = absurd (false≢true e)
same_is (a ∷ s) (b ∷ t) e =
    let p = (and-eq-true_iff (eqb a b) (same s t)).0 e in
    ap₂ ◌∷◌ (eqb-true a b p.0) (same_is s t p.1)

pub same_not : (s t : List ℕ) → (s ≡ t → ⊥) → same s t ≡ false
same_not s t h = go (same s t) refl
  where
    go : (b : Bool) → same s t ≡ b → same s t ≡ false
    go true e = absurd (h (same_is s t e))
    go false e = e
