-- What the writers of an accepted timestamp's bytes do, and the readers with what they wrote. Assumes nothing.
use mathlib.Core.Path.{◌≡◌, refl, sym, subst, ◌∙◌}
use mathlib.Core.List.{List, ◌++◌}
use Prim.Native.Nat.{ℕ}
use lib.ListN.{length, take, drop}
use Rattle.std.specs.Prelude.{Result, Ok, Err, IfOk}
use Rattle.ion.specs.Calls.Output.{put_after, wrote_after}
use Rattle.ion.specs.Calls.Accepted.{Accepted}
use Rattle.ion.specs.Text.Format.{text_of}
use Rattle.ion.specs.Text.ReadText.{read_text_of}
use Rattle.ion.specs.Value.Encode.{value_of}
use Rattle.ion.specs.Value.ReadValue.{read_value}
use Rattle.ion.specs.declared.Timestamp.{Timestamp}
use Rattle.ion.specs.declared.refusal.Refusal.{Refusal}
use Rattle.output.proofs.Stores.{room_fits, put_fits, has_room_lem, wrote_passed, put_passed, put_there}
use Rattle.timestamp.proofs.Accepts.{check_accepts}
use Rattle.text_reader.proofs.ReadBack.{text_back}
use Rattle.value_reader.proofs.Values as values
use Rattle.scans.specs.Scan.{scan_bytes, scan_check, read_scan}
use Rattle.scans.specs.declared.Layout.TheVariants.{New}
use Rattle.scans.specs.declared.Scan.{Scan}
use Rattle.scan_laws.proofs.Scans.{Stored, written_back}
use Rattle.theorem.specs.TwoStamps.{Writes, AsWritten, ReadsBack, TextReadsBack, ScanReadsBack, EachScan}

-- a writer whose check passes
module _ {s : Timestamp} {c : Result Timestamp Refusal} (z : c ≡ Ok s) (b : List ℕ) where
  pub writes : Writes c b
  writes d at h = (wrote_passed d at b z ∙ room_fits (length d) at (length b) h, put_passed d at b z ∙ put_fits d at b h)

  as_written : (P : List ℕ → ℕ → Type 0) → P b (length b) → AsWritten c b P
  as_written P p d at = go (wrote_after c d at b) refl
    where
      go : (r : Result ℕ Refusal) → wrote_after c d at b ≡ r → IfOk r (λ n. P (take n (drop at (put_after c d at b))) n)
      go (Ok n) e =
          let h = has_room_lem d at b (sym (wrote_passed d at b z) ∙ e) in
          rw (h.0, (writes d at h.1).1, put_there d at b h.1) p
      go (Err r) e = tt

module _ (s : Timestamp) (p : Accepted s) where
  pub reads_back : ReadsBack s
  reads_back =
      as_written (check_accepts s p) (value_of s) (λ v n. (r : List ℕ) → read_value (v ++ r) ≡ Ok (s, n)) (values.value_back s p)

  pub text_reads_back : TextReadsBack s
  text_reads_back = as_written (check_accepts s p) (text_of s) (λ x n. read_text_of x ≡ Ok s) (text_back s p)

  pub stored : EachScan s (Stored New)
  stored x h = record { site = h.site; tag = h.tag; guard = h.guard; stamp = subst Accepted (sym h.stamp) p }

module _ {x : Scan} (p : Stored New x) where
  scan_passes : scan_check x ≡ Ok x.stamp
  unfolding scan_check
  scan_passes = check_accepts x.stamp p.stamp

  pub scan_writes : Writes (scan_check x) (scan_bytes x)
  scan_writes = writes scan_passes (scan_bytes x)

  pub scan_reads_back : ScanReadsBack x
  scan_reads_back =
      as_written scan_passes (scan_bytes x) (λ v n. (r : List ℕ) → read_scan New (v ++ r) ≡ Ok (x, n)) (λ r. written_back x r p)
