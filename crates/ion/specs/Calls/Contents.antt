-- Bytes that hold items one after another: what a reader of one item finds in all of them. Assumes nothing.
use Rattle.std.specs.Prelude.{ℕ, zero, suc, List, [], ◌∷◌, ◌++◌, length, drop, Result, Ok, Err}
use Rattle.ion.specs.declared.refusal.Refusal.{Refusal}

-- a reader of the item with which bytes begin: the item, and how many bytes it takes
abbrev pub Reader : Type 0 → Type 0
Reader A = List ℕ → Result (A × ℕ) Refusal

-- the items before the end of the bytes, or before the first that is refused, and that refusal
pub record Contents (A : Type 0) : Type 0 where
  pub items : List A
  pub ending : Result Unit Refusal

module _ {A : Type 0} where
  abbrev pub contents_with : List A → Result Unit Refusal → Contents A
  contents_with l e = record { items = l; ending = e }

  -- an item before what follows it
  abbrev pub before : A → Contents A → Contents A
  before x c = contents_with (x ∷ c.items) c.ending

  -- what follows an item is looked at only where it is accepted
  abbrev pub contents_after : Result (A × ℕ) Refusal → (ℕ → Contents A) → Contents A
  contents_after (Ok x) more = before x.0 (more x.1)
  contents_after (Err r) more = contents_with [] (Err r)

  -- n items are read at most
  unfoldable pub contents_from : Reader A → ℕ → List ℕ → Contents A
  contents_from read zero s = contents_with [] (Ok tt)
  contents_from read (suc n) [] = contents_with [] (Ok tt)
  contents_from read (suc n) (b ∷ s) = contents_after (read (b ∷ s)) (λ taken. contents_from read n (drop taken (b ∷ s)))

  -- there are no more items than bytes
  unfoldable pub contents : Reader A → List ℕ → Contents A
  contents read s = contents_from read (length s) s

  -- the bytes of each item, one after another
  unfoldable pub in_turn : (A → List ℕ) → List A → List ℕ
  in_turn bytes [] = []
  in_turn bytes (x ∷ l) = bytes x ++ in_turn bytes l
