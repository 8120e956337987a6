-- Items written one after another and read again. Assumes nothing.
use mathlib.Core.Path.{◌≡◌, refl, sym, ap, ◌∙◌}
use mathlib.Core.List.{List, [], ◌∷◌, ◌++◌, append_assoc, append-nil}
use Prim.Native.Nat.{ℕ}
use lib.ListN.{length}
use lib.Seq.{drop-append_seam}
use Rattle.std.specs.Prelude.{Ok, is_ok}
use mathlib.Core.Bool.{true, false≢true}
use Rattle.places.proofs.Below.{Below, below_drop}
use Rattle.ion.specs.Calls.Contents.{Reader, Contents, contents_with, before, contents, in_turn}
use Rattle.contents.proofs.Readers.{Advances, Inverse}
use Rattle.contents.proofs.Items.{all_before, before_none, contents_end, contents_next, of_contents}

module _ {A : Type 0} where
  abbrev pub AllStored : (A → Type 0) → List A → Type 0
  AllStored Stored [] = Unit
  AllStored Stored (x ∷ xs) = Stored x × AllStored Stored xs

  pub all_stored : {Stored Other : A → Type 0} → ((x : A) → Stored x → Other x) → (xs : List A) → AllStored Stored xs → AllStored Other xs
  all_stored f [] p = tt
  all_stored f (x ∷ xs) p = (f x p.0, all_stored f xs p.1)

module _ {A : Type 0} {read : Reader A} {bytes : A → List ℕ} {Stored : A → Type 0} (a : Advances read) (i : Inverse read bytes Stored) where
  -- whatever follows them
  pub contents_written : (xs : List A) (r : List ℕ) → AllStored Stored xs
      → contents read (in_turn bytes xs ++ r) ≡ all_before xs (contents read r)
  unfolding in_turn
  contents_written [] r p = refl
  contents_written (x ∷ xs) r p =
      let t = in_turn bytes xs ++ r in
      ap (contents read) (append_assoc (bytes x) (in_turn bytes xs) r)
      ∙ contents_next a (bytes x ++ t) x (length (bytes x)) (i.back x t p.0)
      ∙ ap (λ (l : List ℕ). before x (contents read l)) (drop-append_seam (bytes x) t)
      ∙ ap (before x) (contents_written xs r p.1)

  pub contents_back : (xs : List A) → AllStored Stored xs → contents read (in_turn bytes xs) ≡ contents_with xs (Ok tt)
  contents_back xs p =
      ap (contents read) (sym (append-nil (in_turn bytes xs)))
      ∙ contents_written xs [] p
      ∙ ap (all_before xs) (contents_end read)
      ∙ before_none xs (Ok tt)

  -- bytes that read to their end are those that are written for their items
  pub contents_again : (s : List ℕ) → Below 256 s → is_ok (contents read s).ending ≡ true → in_turn bytes (contents read s).items ≡ s
  unfolding in_turn
  contents_again =
      of_contents a (λ (s : List ℕ) (c : Contents A). Below 256 s → is_ok c.ending ≡ true → in_turn bytes c.items ≡ s) (λ b e. refl)
      (λ s r z b e. absurd (false≢true e))
      (λ s c x n z h b e. ap (λ (l : List ℕ). bytes x ++ l) (h (below_drop 256 n s b) e) ∙ sym (i.is s x n b z).begins)

  -- the items of any bytes could have been written
  pub contents_stored : (s : List ℕ) → Below 256 s → AllStored Stored (contents read s).items
  contents_stored =
      of_contents a (λ (s : List ℕ) (c : Contents A). Below 256 s → AllStored Stored c.items) (λ b. tt) (λ s r z b. tt)
      (λ s c x n z h b. ((i.is s x n b z).stored, h (below_drop 256 n s b)))
