-- What is asked of a reader of one item, so that it follows of all items one after another. Assumes nothing.
use mathlib.Core.Path.{◌≡◌}
use mathlib.Core.List.{List, ◌++◌}
use Prim.Native.Nat.{ℕ, ◌≤◌, ◌<◌}
use lib.ListN.{length, drop}
use Rattle.std.specs.Prelude.{Ok}
use Rattle.places.proofs.Below.{Below}
use Rattle.ion.specs.Calls.Contents.{Reader}

module _ {A : Type 0} (read : Reader A) where
  -- it reads the bytes s as the item x, and takes n of them
  abbrev pub ReadsAs : List ℕ → A → ℕ → Type 0
  ReadsAs s x n = read s ≡ Ok (x, n)

  -- what it accepts takes bytes, and no more than there are
  pub record Advances : Type 0 where
    pub some : (s : List ℕ) (x : A) (n : ℕ) → ReadsAs s x n → 0 < n
    pub within : (s : List ℕ) (x : A) (n : ℕ) → ReadsAs s x n → n ≤ length s

  module _ (bytes : A → List ℕ) (Stored : A → Type 0) where
    -- the bytes s begin with the n bytes of x
    pub record WrittenSo (s : List ℕ) (x : A) (n : ℕ) : Type 0 where
      pub stored : Stored x
      pub taken : n ≡ length (bytes x)
      pub begins : s ≡ bytes x ++ drop n s

    -- what is written is read back, whatever follows it, and what is read was so written
    pub record Inverse : Type 0 where
      pub back : (x : A) (r : List ℕ) → Stored x → ReadsAs (bytes x ++ r) x (length (bytes x))
      pub is : (s : List ℕ) (x : A) (n : ℕ) → Below 256 s → ReadsAs s x n → WrittenSo s x n
