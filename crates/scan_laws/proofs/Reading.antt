-- What is read of a scan, part by part. Assumes nothing.
use mathlib.Core.Path.{◌≡◌, refl, sym, ap, ◌∙◌}
use mathlib.Core.List.{List}
use Prim.Native.Nat.{ℕ, ◌+◌, ◌≤◌}
use lib.ListN.{length, drop}
use Rattle.std.specs.Prelude.{Ok}
use Rattle.ion.specs.Value.ReadValue.{read_value}
use Rattle.ion.specs.declared.Timestamp.{Timestamp}
use Rattle.ion.proofs.Answers.{made_of}
use Rattle.scans.specs.Number.{read_number}
use Rattle.scans.specs.Scan.{scan_of, read_site, read_scan}
use Rattle.scans.specs.declared.Layout.{Layout}
use Rattle.scans.specs.declared.Scan.{Scan}
use Rattle.places.proofs.Slices.{rest_slice}
use Rattle.contents.proofs.Passing.{length_rest}
use Rattle.value_reader.proofs.Readings.{value_within}
use Rattle.scan_laws.proofs.Numbers.{number_within}
use Rattle.scan_laws.proofs.Sites.{site_within}

-- the scan x, of n bytes, is read part by part, of i, j, k and m bytes
pub record InParts (l : Layout) (s : List ℕ) (x : Scan) (n : ℕ) : Type 0 where
  pub i : ℕ
  pub j : ℕ
  pub k : ℕ
  pub m : ℕ
  pub site : read_site l s ≡ Ok (x.site, i)
  pub tag : read_number (drop i s) ≡ Ok (x.tag, j)
  pub guard : read_number (drop (i + j) s) ≡ Ok (x.guard, k)
  pub value : read_value (drop (i + j + k) s) ≡ Ok (x.stamp, m)
  pub taken : n ≡ i + j + k + m

pub parts_read : {l : Layout} {s : List ℕ} {x : Scan} {n : ℕ} → InParts l s x n → read_scan l s ≡ Ok (x, n)
unfolding read_scan
parts_read p = rw (p.site, p.tag, p.guard, p.value, p.taken) refl

pub in_parts : (l : Layout) (s : List ℕ) (x : Scan) (n : ℕ) → read_scan l s ≡ Ok (x, n) → InParts l s x n
unfolding read_scan
in_parts l s x n e =
    let site = made_of (read_site l s) _ e in
    let i = site.value.1 in
    let tag = made_of (read_number (drop i s)) _ site.made in
    let j = tag.value.1 in
    let guard = made_of (read_number (drop (i + j) s)) _ tag.made in
    let k = guard.value.1 in
    let value = made_of (read_value (drop (i + j + k) s)) _ guard.made in
    let m = value.value.1 in
    let both : (scan_of site.value.0 tag.value.0 guard.value.0 value.value.0, i + j + k + m) ≡ (x, n) = let h = value.made in cc in
    let same = ap (λ (a : Scan × ℕ). a.0) both in
    record {
      i = i;
      j = j;
      k = k;
      m = m;
      site = site.read ∙ ap (λ (x : Scan). Ok (x.site, i)) same;
      tag = tag.read ∙ ap (λ (x : Scan). Ok (x.tag, j)) same;
      guard = guard.read ∙ ap (λ (x : Scan). Ok (x.guard, k)) same;
      value = value.read ∙ ap (λ (x : Scan). Ok (x.stamp, m)) same;
      taken = sym (ap (λ (a : Scan × ℕ). a.1) both);
    }

-- ---- lists of laws, for the code: each part ends within the bytes

pub site_ends : (l : Layout) (s : List ℕ) {v n : ℕ} → read_site l s ≡ Ok (v, n) → n ≤ length s
site_ends l s {v} {n} e = site_within s v n l e

pub number_ends : (s : List ℕ) {v n : ℕ} → read_number s ≡ Ok (v, n) → n ≤ length s
number_ends s {v} {n} e = (number_within s v n e).1

pub value_ends : (s : List ℕ) {v : Timestamp} {n : ℕ} → read_value s ≡ Ok (v, n) → n ≤ length s
value_ends s {v} {n} e = (value_within s v n e).1

pub ruleset parts = (rest_slice, length_rest, site_ends, number_ends, value_ends)
