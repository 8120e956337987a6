-- Files: those written are read back, and new ones that read to their end are written again the same. Assumes nothing.
use mathlib.Core.Path.{◌≡◌, refl, sym, ap, ap₂, ◌∙◌}
use mathlib.Core.Bool.{true}
use mathlib.Core.List.{List, [], ◌∷◌, ◌++◌}
use Prim.Native.Nat.{ℕ, ◌+◌, ◌≤◌}
use native.Mathlib.Omega.{arith}
use lib.ListN.{length, drop, length-append, length-drop}
use Rattle.std.specs.Prelude.{Result, Ok, is_ok}
use Rattle.std.specs.Result.{result_unwrap_or}
use Rattle.places.proofs.Below.{Below, below_drop}
use Rattle.ion.specs.Calls.Output.{over}
use Rattle.ion.specs.Calls.Contents.{Contents, contents_with, in_turn}
use Rattle.ion.specs.declared.refusal.Refusal.{Refusal}
use Rattle.output.proofs.Stores.{room_fits, put_fits, wrote_passed, put_passed, length_over, over_over}
use Rattle.output.proofs.Runs.{run_none}
use Rattle.timestamp.proofs.Accepts.{check_accepts}
use Rattle.contents.proofs.Items.{all_before, contents_few}
use Rattle.contents.proofs.Written.{AllStored, all_stored, contents_written, contents_back, contents_again, contents_stored}
use Rattle.scans.specs.Layout.{start_of, layout_of}
use Rattle.scans.specs.Scan.{scan_bytes, scan_check}
use Rattle.scans.specs.File.{scans_in, contents_of, file_bytes, written_in_turn, file_in_turn}
use Rattle.scans.specs.declared.Layout.TheVariants.{New}
use Rattle.scans.specs.declared.Scan.{Scan}
use Rattle.scan_laws.proofs.Scans.{Stored, stored_new, scan_advances, scan_inverse, written_inverse}
use Rattle.scan_laws.proofs.Layouts.{contents_by, new_contents, new_start}

-- ---- written and read

module _ (xs : List Scan) (p : AllStored (Stored New) xs) where
  -- with bytes after it
  pub file_written : (r : List ℕ) → contents_of (file_bytes xs ++ r) ≡ all_before xs (scans_in New r)
  unfolding scans_in file_bytes
  file_written r = new_contents (in_turn scan_bytes xs ++ r) ∙ contents_written (scan_advances New) written_inverse xs r p

  pub file_back : contents_of (file_bytes xs) ≡ contents_with xs (Ok tt)
  unfolding scans_in file_bytes
  file_back = new_contents (in_turn scan_bytes xs) ∙ contents_back (scan_advances New) written_inverse xs p

-- different scans have different files
pub files_apart : (xs ys : List Scan) → AllStored (Stored New) xs → AllStored (Stored New) ys → file_bytes xs ≡ file_bytes ys → xs ≡ ys
files_apart xs ys p q e = ap (λ (c : Contents Scan). c.items) (sym (file_back xs p) ∙ ap contents_of e ∙ file_back ys q)

-- calls of the writer of scans, one after another, write their bytes where there is room for them
scans_written : (xs : List Scan) → AllStored (Stored New) xs → (d : List ℕ) (at : ℕ) → at + length (in_turn scan_bytes xs) ≤ length d
    → written_in_turn d at xs ≡ over d at (in_turn scan_bytes xs)
unfolding written_in_turn in_turn scan_check
scans_written [] p d at h = (run_none d at).bytes
scans_written (x ∷ xs) p d at h =
    let b = scan_bytes x in
    let r = in_turn scan_bytes xs in
    let n = length-append b r in
    let z = check_accepts x.stamp p.0.stamp in
    let w = ap (λ (w : Result ℕ Refusal). result_unwrap_or w 0)
    (wrote_passed d at b z ∙ room_fits (length d) at (length b) (omega (arith, n))) in
    let e = put_passed d at b z ∙ put_fits d at b (omega (arith, n)) in
    ap₂ (λ (f : List ℕ) (k : ℕ). written_in_turn f (at + k) xs) e w
    ∙ scans_written xs p.1 (over d at b) (at + length b) (omega (arith, n, length_over d at b (omega (arith, n))))
    ∙ over_over d at b r (length b) refl (omega (arith, n))

-- and with the start's call before them the file
pub calls_written : (xs : List Scan) → AllStored (Stored New) xs → (d : List ℕ) (at : ℕ) → at + length (file_bytes xs) ≤ length d
    → file_in_turn d at xs ≡ over d at (file_bytes xs)
unfolding file_in_turn file_bytes
calls_written xs p d at h =
    let b = start_of New in
    let r = in_turn scan_bytes xs in
    let n = length-append b r in
    let w = ap (λ (w : Result ℕ Refusal). result_unwrap_or w 0) (room_fits (length d) at 2 (omega (arith, n))) in
    ap₂ (λ (f : List ℕ) (k : ℕ). written_in_turn f (at + k) xs) (put_fits d at b (omega (arith, n))) w
    ∙ scans_written xs p (over d at b) (at + 2) (omega (arith, n, length_over d at b (omega (arith, n))))
    ∙ over_over d at b r 2 refl (omega (arith, n))

-- ---- read and written

pub file_few : (s : List ℕ) → length (contents_of s).items ≤ length s
unfolding contents_of scans_in
file_few s =
    let l = layout_of s in
    let n = length (start_of l) in
    omega (arith, contents_few (scan_advances l) (drop n s), length-drop n s)

module _ (s : List ℕ) (b : Below 256 s) where
  -- a file's scans could have been written, those of an old one and those before its damage too
  pub file_stored : AllStored (Stored New) (contents_of s).items
  unfolding contents_of scans_in
  file_stored =
      let l = layout_of s in
      let n = length (start_of l) in
      all_stored (stored_new l) _ (contents_stored (scan_advances l) (scan_inverse l) (drop n s) (below_drop 256 n s b))

  -- so the file that is written from them holds the same scans
  pub written_anew : contents_of (file_bytes (contents_of s).items) ≡ contents_with (contents_of s).items (Ok tt)
  written_anew = file_back (contents_of s).items file_stored

  -- and is the same bytes, if it was new and read to its end
  pub file_again : layout_of s ≡ New → is_ok (contents_of s).ending ≡ true → file_bytes (contents_of s).items ≡ s
  unfolding file_bytes scans_in
  file_again new e =
      let c = contents_by s New new in
      let ends = ap (λ (c : Contents Scan). is_ok c.ending) (sym c) ∙ e in
      ap (λ (c : Contents Scan). file_bytes c.items) c
      ∙ ap (λ (r : List ℕ). start_of New ++ r)
      (contents_again (scan_advances New) written_inverse (drop 2 s) (below_drop 256 2 s b) ends)
      ∙ sym (new_start s new)
