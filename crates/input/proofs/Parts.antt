-- A read into the part of a buffer from an index on: the bytes in front stay, and those read follow them. Assumes nothing.
use Rattle.std.proofs.Common.{◌≡◌, ℕ, ◌+◌, ◌-◌, ◌≤◌, List, ◌++◌, length, take, drop}
use Rattle.std.proofs.Common.{sym, ap, ◌∙◌, subst, le_refl, drop_at, length-take-le}
use Rattle.std.proofs.lemmas.Slice.{take-put_mid_below}
use Rattle.std.proofs.KnownBytes.{Consumes-trans, Consumes-kept}
use Rattle.std.specs.Io.KnownBytes.{Consumes, Keeps}
use Rattle.std.specs.declared.option.Option.{Option}
use borrow.Rule.Slice.PartMut.{put_mid, post_of}
use lib.Seq.{take-add, take-append-le}

-- the bytes p of the part from index a on of b
module _ (a : ℕ) (b p : List ℕ) (within : a ≤ length b) where
  abbrev filled : List ℕ
  filled = put_mid a (length b - a) b p

  front : take a filled ≡ take a b
  front = take-put_mid_below _ _ _ _ _ (le_refl _) within

  joined : (k : ℕ) → k ≤ length p → take a b ++ take k p ≡ take (a + k) filled
  joined k fits =
      let rest = drop_at (take a b) (p ++ post_of a (length b - a) b) a (length-take-le a b within) in
      let read : take k (drop a filled) ≡ take k p = ap (take k) rest ∙ take-append-le k p (post_of a (length b - a) b) fits in
      ap (λ (l : List ℕ). l ++ take k p) (sym front) ∙ ap (λ (l : List ℕ). take a filled ++ l) (sym read) ∙ sym (take-add a k filled)

  module _ (o m n : Option (List ℕ)) (before : Consumes o m (take a b)) where
    pub none_read : Keeps m n → Consumes o n (take a filled)
    none_read h = subst (Consumes _ _) (sym front) (Consumes-kept _ _ _ _ before h)

    pub more_read : (k : ℕ) → k ≤ length p → Consumes m n (take k p) → Consumes o n (take (a + k) filled)
    more_read k fits h = subst (Consumes _ _) (joined k fits) (Consumes-trans _ _ _ _ _ before h)
