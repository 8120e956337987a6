-- Lists of numbers below a bound. Assumes nothing.
use mathlib.Core.Path.{◌≡◌, ap, ◌∙◌}
use mathlib.Core.List.{List, [], ◌∷◌, ◌++◌}
use Prim.Native.Nat.{ℕ, zero, suc, ◌+◌, ◌<◌}
use lib.ListN.{length, take, drop, get_or}
use lib.Seq.{get_or-drop, get_or-append-add}

module _ (b : ℕ) where
  abbrev pub Below : List ℕ → Type 0
  Below s = (i : ℕ) → get_or s i 0 < b

  pub below_none : 0 < b → Below []
  below_none h i = h

  pub below_cons : (d : ℕ) (s : List ℕ) → d < b → Below s → Below (d ∷ s)
  below_cons d s h k zero = h
  below_cons d s h k (suc i) = k i

  pub below_append : (s t : List ℕ) → Below s → Below t → Below (s ++ t)
  below_append [] t h k = k
  below_append (d ∷ s) t h k = below_cons d (s ++ t) (h 0) (below_append s t (λ i. h (suc i)) k)

  pub below_drop : (n : ℕ) (s : List ℕ) → Below s → Below (drop n s)
  below_drop n s h i = rw (get_or-drop n s i 0) (h (n + i))

  pub below_take : (n : ℕ) (s : List ℕ) → 0 < b → Below s → Below (take n s)
  below_take zero s h k = below_none h
  below_take (suc n) [] h k = k
  below_take (suc n) (d ∷ s) h k = below_cons d (take n s) (k 0) (below_take n s h (λ i. k (suc i)))

  -- what follows the list a
  pub below_after : (s a t : List ℕ) → s ≡ a ++ t → Below s → Below t
  below_after s a t e h i =
      let g : get_or s (length a + i) 0 ≡ get_or t i 0 = ap (λ (l : List ℕ). get_or l (length a + i) 0) e ∙ get_or-append-add a t i 0 in
      rw g at (h (length a + i))

  -- the same, number by number
  abbrev pub Each : List ℕ → Type 0
  Each [] = 0 < b
  Each (d ∷ s) = (d < b) × Each s

  pub each_below : (s : List ℕ) → Each s → Below s
  each_below [] h = below_none h
  each_below (d ∷ s) h = below_cons d s h.0 (each_below s h.1)
