-- A file part way: its scans one by one, and counted. Assumes nothing.
use Rattle.std.proofs.Common.{◌≡◌, sym, ap, ℕ, ◌+◌, ◌-◌, ◌<◌, List, [], ◌∷◌, ◌++◌, length, length-append, take, drop, arith}
use Rattle.std.specs.Prelude.{Result, Ok}
use Rattle.std.specs.Result.{result_and}
use Rattle.ion.specs.Calls.Contents.{Contents, contents_with}
use Rattle.ion.specs.declared.refusal.Refusal.{Refusal}
use Rattle.contents.proofs.Passing.{Passed, pass_end, pass_next}
use Rattle.scans.specs.Scan.{read_scan}
use Rattle.scans.specs.File.{scans_in, contents_of, check_file_of}
use Rattle.scans.specs.declared.Layout.{Layout}
use Rattle.scans.specs.declared.Scan.{Scan}
use Rattle.scan_laws.proofs.Passing.{scan_begins, scan_accepted}
use Rattle.scan_laws.proofs.Files.{file_few}
use Rattle.scan_binary.specs.Scans.{Begins}

-- what a step finds
pub begins : (l : Layout) (s : List ℕ) {x : Scan} {n : ℕ} → read_scan l s ≡ Ok (x, n)
    → Begins (scans_in l s) (scans_in l (take (length s - n) (drop n s))) x
begins l s {x} {n} e = record { contents = scan_begins l s x n e; accepted = scan_accepted l s x n e }

-- ---- the check of a file

-- n scans of the file s were passed
pub record Checked (s : List ℕ) (left : Contents Scan) (n : ℕ) : Type 0 where
  pub scans : List Scan
  pub passed : Passed (contents_of s) left scans
  pub count : n ≡ length scans

module _ {s : List ℕ} {left : Contents Scan} {n : ℕ} (p : Checked s left n) where
  pub next : {x : Scan} {d : Contents Scan} → Begins left d x → Checked s d (n + 1)
  next {x} b =
      record {
        scans = p.scans ++ (x ∷ []);
        passed = pass_next p.passed b.contents;
        count = omega (arith, p.count, length-append p.scans (x ∷ []));
      }

  -- there are more bytes than scans
  pub some_left : {x : Scan} {d : Contents Scan} → Begins left d x → n < length s
  some_left {x} {d} b =
      let all = ap (λ (c : Contents Scan). length c.items) (next b).passed.whole in
      omega (arith, all, (next b).count, length-append (next b).scans d.items, file_few s)

  -- the answer by what is left
  pub answer : {e : Result Unit Refusal} → left ≡ contents_with [] e → result_and e (Ok n) ≡ check_file_of s
  unfolding check_file_of
  answer {e} h =
      rw p.count (sym (ap (λ (c : Contents Scan). result_and c.ending (Ok (length c.items))) (pass_end p.passed h)))
