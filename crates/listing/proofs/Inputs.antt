-- What is read of an input decides its output. Assumes nothing.
use mathlib.Core.Path.{◌≡◌, refl, ap, ◌∙◌, sym}
use mathlib.Core.Bool.{Bool, true, false}
use mathlib.Core.List.{List, ◌++◌, append-nil}
use Prim.Native.Nat.{ℕ, ◌≤◌, ◌<◌}
use native.Mathlib.Decide.{dec_lt}
use native.Mathlib.Omega.{arith}
use borrow.Author.Tests.{ltb-true, ltb-false}
use lib.Dec.{ltb}
use lib.ListN.{length, take}
use lib.Seq.{take_all, length-take-le, take-append-le}
use Rattle.std.specs.Option.{IfSome}
use Rattle.std.specs.declared.option.Option.{Option}
use Rattle.std.specs.declared.option.Option.TheVariants.{None, Some}
use Rattle.std.specs.Io.KnownBytes.{Consumes, IsAtEnd}
use Rattle.ion.specs.Calls.Stamps.{output_of}
use Rattle.listing.proofs.Lines.{output_long}

-- one byte more than an input may have is enough
output_cut : (s : List ℕ) → output_of (take 65537 s) ≡ output_of s
output_cut s = go (ltb 65536 (length s)) refl
  where
    go : (t : Bool) → ltb 65536 (length s) ≡ t → output_of (take 65537 s) ≡ output_of s
    go true e =
        let h : 65536 < length s = omega (arith, ltb-true 65536 (length s) e) in
        output_long (take 65537 s) (omega (arith, length-take-le 65537 s (omega arith))) ∙ sym (output_long s h)
    go false e = ap output_of (take_all 65537 s (omega (arith, ltb-false 65536 (length s) e)))

-- of a reader's bytes xs those in front of index n are read into b, which an input may not fill, and all where there is room left
pub input_read : (b : List ℕ) (n : ℕ) → 65537 ≡ length b → n ≤ length b → (o m : Option (List ℕ)) → Consumes o m (take n b)
    → (n < length b → IsAtEnd m) → IfSome o (λ xs. output_of (take n b) ≡ output_of xs)
input_read b n l h None m p q = tt
input_read b n l h (Some xs) None p q = absurd p
input_read b n l h (Some xs) (Some ys) p q = go (dec_lt n (length b))
  where
    go : Dec (n < length b) → output_of (take n b) ≡ output_of xs
    go (yes k) = ap output_of (sym (p ∙ ap (λ (z : List ℕ). take n b ++ z) (q k) ∙ append-nil (take n b)))
    go (no k) =
        let e : 65537 ≡ n = omega (arith, l, h) in
        let s = length-take-le n b h in
        let c : take n (take n b ++ ys) ≡ take n b =
        take-append-le n (take n b) ys (omega (arith, s)) ∙ take_all n (take n b) (omega (arith, s)) in
        sym (ap output_of (ap (take 65537) p ∙ rw e c)) ∙ output_cut xs
