-- The layouts apart: what begins with the start is new, and to a reader of the old layout it is refused. Assumes nothing.
use mathlib.Core.Path.{◌≡◌, refl, sym, ap, ap₂, ◌∙◌}
use mathlib.Core.List.{List, [], ◌∷◌, ◌++◌}
use mathlib.Core.Bool.{Bool, true, false, cond, ◌&&◌, false≢true, and-eq-true_iff}
use Prim.Native.Nat.{ℕ, ◌-◌, ◌≤◌}
use native.Mathlib.Omega.{arith}
use borrow.Author.Tests.{eqb-true, ne_eqb}
use lib.Dec.{eqb}
use lib.ListN.{length, take, drop}
use Rattle.std.specs.Prelude.{Err}
use Rattle.places.proofs.Slices.{rest_slice}
use Rattle.places.specs.Places.{count_in, count, place_count}
use Rattle.ion.specs.Numbers.VarUInt.{scan_from, read_var_uint}
use Rattle.ion.specs.Calls.Contents.{contents_with}
use Rattle.ion.specs.declared.refusal.Refusal.TheVariants as refusal
use Rattle.scans.specs.Number.{read_number}
use Rattle.scans.specs.Layout.{start_of, layout_of}
use Rattle.scans.specs.Scan.{read_scan}
use Rattle.scans.specs.File.{scans_in, contents_of}
use Rattle.scans.specs.declared.Layout.{Layout}
use Rattle.scans.specs.declared.Layout.TheVariants.{Old, New}
use Rattle.scan_laws.proofs.Passing.{scan_stops}

-- what a file of a layout holds
pub contents_by : (s : List ℕ) (l : Layout) → layout_of s ≡ l → contents_of s ≡ scans_in l (drop (length (start_of l)) s)
unfolding contents_of
contents_by s l e = rw e refl

-- ---- a file that begins with the start

pub start_new : (r : List ℕ) → layout_of (start_of New ++ r) ≡ New
unfolding layout_of
start_new r = refl

pub new_contents : (r : List ℕ) → contents_of (start_of New ++ r) ≡ scans_in New r
new_contents r = contents_by (start_of New ++ r) New (start_new r)

said_new : (t : Bool) → cond t New Old ≡ New → t ≡ true
said_new true e = refl
said_new false e = absurd cc

pub new_start : (s : List ℕ) → layout_of s ≡ New → s ≡ start_of New ++ drop 2 s
unfolding layout_of
new_start [] e = absurd cc
new_start (a ∷ []) e = absurd (false≢true ((and-eq-true_iff (eqb 0x00 a) false).0 (said_new _ e)).1)
new_start (a ∷ b ∷ s) e =
    let p = (and-eq-true_iff (eqb 0x00 a) (eqb 0x82 b && true)).0 (said_new _ e) in
    let q = (and-eq-true_iff (eqb 0x82 b) true).0 p.1 in
    ap₂ (λ (x y : ℕ). x ∷ y ∷ s) (sym (eqb-true 0x00 a p.0)) (sym (eqb-true 0x82 b q.0))

-- ---- to a reader of the old layout

-- a number padded with 00
padded_bad : (b : ℕ) (r : List ℕ) → read_number (0x00 ∷ b ∷ r) ≡ Err refusal.Number
unfolding read_number read_var_uint scan_from
padded_bad b r = refl

pub old_refuses : (b : ℕ) (r : List ℕ) → read_scan Old (0x00 ∷ b ∷ r) ≡ Err refusal.Number
unfolding read_scan
old_refuses b r = rw (padded_bad b r) refl

-- so it refuses every new file with 19, having read no scan
pub old_refuses_new : (r : List ℕ) → scans_in Old (start_of New ++ r) ≡ contents_with [] (Err refusal.Number)
old_refuses_new r = scan_stops Old (start_of New ++ r) refusal.Number (old_refuses 0x82 r) (omega arith)

-- ---- a file that begins with 00 and is not new

pub zero_alone : contents_of (0x00 ∷ []) ≡ contents_with [] (Err refusal.InputEnds)
unfolding layout_of read_scan read_number read_var_uint scan_from place_count count count_in
zero_alone = contents_by (0x00 ∷ []) Old refl ∙ scan_stops Old (0x00 ∷ []) refusal.InputEnds refl (omega arith)

pub zero_other : (b : ℕ) (r : List ℕ) → (b ≡ 0x82 → ⊥) → contents_of (0x00 ∷ b ∷ r) ≡ contents_with [] (Err refusal.Number)
unfolding layout_of
zero_other b r h =
    contents_by (0x00 ∷ b ∷ r) Old (rw (ne_eqb 0x82 b (λ e. h (sym e))) refl)
    ∙ scan_stops Old (0x00 ∷ b ∷ r) refusal.Number (old_refuses b r) (omega arith)

-- ---- for the code: what is left of a file after its start

pub left_old : (s : List ℕ) → Old ≡ layout_of s → contents_of s ≡ scans_in Old s
left_old s e = contents_by s Old (sym e)

pub left_new : (s : List ℕ) → New ≡ layout_of s → contents_of s ≡ scans_in New (take (length s - 2) (drop 2 s))
left_new s e = contents_by s New (sym e) ∙ ap (scans_in New) (sym (rest_slice s 2))

pub new_length : (s : List ℕ) → New ≡ layout_of s → 2 ≤ length s
new_length s e = omega (arith, ap length (new_start s (sym e)))

pub ruleset layouts = (left_old, left_new, new_length)
