-- A loop over items: those passed, and the contents that are left. Assumes nothing.
use mathlib.Core.Path.{◌≡◌, refl, sym, ap, ◌∙◌}
use mathlib.Core.List.{List, [], ◌∷◌, ◌++◌, append_assoc}
use Prim.Native.Nat.{ℕ, ◌-◌, ◌<◌}
use native.Mathlib.Omega.{arith}
use lib.ListN.{length, take, drop, length-drop}
use Rattle.std.specs.Prelude.{Result, Ok}
use Rattle.ion.specs.Calls.Contents.{Reader, Contents, contents_with, before, contents}
use Rattle.ion.specs.declared.refusal.Refusal.{Refusal}
use Rattle.places.proofs.Slices.{rest_slice}
use Rattle.contents.proofs.Readers.{Advances, ReadsAs}
use Rattle.contents.proofs.Items.{all_before, before_none, contents_end, contents_next}

-- the contents c are the items xs and then what is left
pub record Passed {A : Type 0} (c left : Contents A) (xs : List A) : Type 0 where
  pub whole : c ≡ all_before xs left

pub pass_start : {A : Type 0} (c : Contents A) → Passed c c []
pass_start c = record { whole = refl }

module _ {A : Type 0} {c left : Contents A} {xs : List A} (p : Passed c left xs) where
  -- no item is left, or the next is refused
  pub pass_end : {e : Result Unit Refusal} → left ≡ contents_with [] e → c ≡ contents_with xs e
  pass_end {e} h = p.whole ∙ ap (all_before xs) h ∙ before_none xs e

  -- an item more
  pub pass_next : {x : A} {d : Contents A} → left ≡ before x d → Passed c d (xs ++ (x ∷ []))
  pass_next {x} {d} h =
      record {
        whole =
            p.whole
            ∙ ap (all_before xs) h
            ∙ ap (λ (l : List A). contents_with l d.ending) (sym (append_assoc xs (x ∷ []) d.items));
      }

-- ---- over bytes

pub none_left : {A : Type 0} (read : Reader A) (left : List ℕ) → length left ≡ 0 → contents read left ≡ contents_with [] (Ok tt)
none_left read [] e = contents_end read
none_left read (b ∷ s) e = absurd (omega arith)

-- how many bytes a slice `&s[at..]` has
pub length_rest : (s : List ℕ) (at : ℕ) → length (take (length s - at) (drop at s)) ≡ length s - at
length_rest s at = ap length (rest_slice s at) ∙ length-drop at s

-- an item x, of n bytes
module _ {A : Type 0} {read : Reader A} (a : Advances read) {left : List ℕ} {x : A} {n : ℕ} (r : ReadsAs read left x n) where
  -- a loop's measure
  pub pass_less : length (take (length left - n) (drop n left)) < length left
  pass_less = omega (arith, length_rest left n, a.some left x n r, a.within left x n r)

  pub item_first : contents read left ≡ before x (contents read (take (length left - n) (drop n left)))
  item_first = contents_next a left x n r ∙ ap (λ (t : List ℕ). before x (contents read t)) (sym (rest_slice left n))
