-- The site of a scan, in either layout: written and read again, and read and written again. Assumes nothing.
use mathlib.Core.Path.{◌≡◌, sym, ap}
use mathlib.Core.List.{List, [], ◌++◌}
use Prim.Native.Nat.{ℕ, ◌*◌, ◌≤◌}
use native.Mathlib.Omega.{arith}
use lib.ListN.{length, drop}
use Rattle.std.specs.Prelude.{Ok}
use Rattle.places.proofs.Below.{Below}
use Rattle.ion.specs.Numbers.VarUInt.{varuint}
use Rattle.contents.proofs.Readers.{WrittenSo}
use Rattle.scans.specs.Scan.{read_site}
use Rattle.scans.specs.declared.Layout.{Layout}
use Rattle.scans.specs.declared.Layout.TheVariants.{Old, New}
use Rattle.scan_laws.proofs.Numbers.{IsNumber, number_size, number_back, number_is, number_within}

-- a site that the layout can hold
abbrev pub IsSite : Layout → ℕ → Type 0
IsSite Old v = v ≡ 0
IsSite New v = IsNumber v

abbrev pub site_bytes : Layout → ℕ → List ℕ
site_bytes Old v = []
site_bytes New v = varuint v

-- how many numbers it is
abbrev pub site_count : Layout → ℕ
site_count Old = 0
site_count New = 1

pub site_size : (l : Layout) (v : ℕ) → IsSite l v → (site_count l ≤ length (site_bytes l v)) × (length (site_bytes l v) ≤ 5 * site_count l)
site_size Old v h = (omega arith, omega arith)
site_size New v h = number_size v h

pub site_back : (l : Layout) (v : ℕ) (r : List ℕ) → IsSite l v → read_site l (site_bytes l v ++ r) ≡ Ok (v, length (site_bytes l v))
site_back Old v r h = ap (λ (w : ℕ). Ok (w, 0)) (sym h)
site_back New v r h = number_back v r h

module _ (s : List ℕ) (v n : ℕ) where
  no_site : read_site Old s ≡ Ok (v, n) → (0 ≡ v) × (0 ≡ n)
  no_site e =
      let none : ℕ × ℕ = (0, 0) in
      let both : none ≡ (v, n) = cc in
      (ap (λ (p : ℕ × ℕ). p.0) both, ap (λ (p : ℕ × ℕ). p.1) both)

  pub site_is : (l : Layout) → Below 256 s → read_site l s ≡ Ok (v, n) → WrittenSo (read_site l) (site_bytes l) (IsSite l) s v n
  site_is Old b e =
      let none = no_site e in
      record { stored = sym none.0; taken = sym none.1; begins = ap (λ (i : ℕ). drop i s) none.1 }
  site_is New b e = number_is s v n b e

  pub site_within : (l : Layout) → read_site l s ≡ Ok (v, n) → n ≤ length s
  site_within Old e = omega (arith, (no_site e).1)
  site_within New e = (number_within s v n e).1
