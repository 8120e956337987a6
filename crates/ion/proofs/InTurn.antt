-- The bytes of items one after another. Assumes nothing.
use mathlib.Core.Path.{◌≡◌, sym, ap, ◌∙◌}
use mathlib.Core.List.{List, [], ◌∷◌, ◌++◌, append_assoc, append-nil}
use Prim.Native.Nat.{ℕ, zero, suc, ◌+◌, ◌≤◌, ◌<◌}
use native.Mathlib.Numerals.{add-one}
use native.Mathlib.Omega.{arith}
use lib.ListN.{length, take, get_or, length-append}
use lib.Seq.{take-suc}
use Rattle.ion.specs.Calls.Contents.{in_turn}

module _ {A : Type 0} (bytes : A → List ℕ) where
  -- one more item
  pub in_turn_last : (xs : List A) (x : A) → in_turn bytes (xs ++ (x ∷ [])) ≡ in_turn bytes xs ++ bytes x
  unfolding in_turn
  in_turn_last [] x = append-nil (bytes x)
  in_turn_last (y ∷ xs) x =
      ap (λ (l : List ℕ). bytes y ++ l) (in_turn_last xs x) ∙ sym (append_assoc (bytes y) (in_turn bytes xs) (bytes x))

  -- the first i + 1 of them
  pub in_turn_more : (d : A) (xs : List A) (i : ℕ) → i < length xs
      → in_turn bytes (take (i + 1) xs) ≡ in_turn bytes (take i xs) ++ bytes (get_or xs i d)
  in_turn_more d xs i h = rw (add-one i) (ap (in_turn bytes) (take-suc xs i d h) ∙ in_turn_last (take i xs) (get_or xs i d))

  -- where all have room, so has each after those before it
  pub in_turn_room : (d : A) (xs : List A) (i : ℕ) → i < length xs
      → length (in_turn bytes (take i xs)) + length (bytes (get_or xs i d)) ≤ length (in_turn bytes xs)
  unfolding in_turn
  in_turn_room d [] i h = absurd (omega arith)
  in_turn_room d (x ∷ xs) zero h = omega (arith, length-append (bytes x) (in_turn bytes xs))
  in_turn_room d (x ∷ xs) (suc i) h =
      let after = in_turn_room d xs i (omega arith) in
      omega (arith, length-append (bytes x) (in_turn bytes (take i xs)), length-append (bytes x) (in_turn bytes xs))
