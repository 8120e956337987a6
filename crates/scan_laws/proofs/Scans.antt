-- Scans: those written are read back whatever follows them, and whatever is read was written so; in either layout. Assumes nothing.
use mathlib.Core.Path.{◌≡◌, sym, ap, ap₂, ◌∙◌}
use mathlib.Core.List.{List, ◌++◌, append_assoc}
use Prim.Native.Nat.{ℕ, ◌+◌, ◌*◌, ◌≤◌}
use native.Mathlib.Omega.{arith}
use lib.ListN.{length, drop, length-append, length-drop}
use lib.Seq.{drop-append_seam, drop-drop}
use Rattle.std.specs.Prelude.{Ok}
use Rattle.places.proofs.Below.{Below, below_drop}
use Rattle.ion.specs.Numbers.VarUInt.{varuint}
use Rattle.ion.specs.Calls.Accepted.{Accepted}
use Rattle.ion.specs.Value.Encode.{value_of}
use Rattle.ion.specs.Value.ReadValue.{read_value}
use Rattle.contents.proofs.Readers.{Advances, WrittenSo, Inverse}
use Rattle.timestamp_binary.proofs.Lengths.{value_some, value_length}
use Rattle.value_reader.proofs.Values.{value_back}
use Rattle.value_reader.proofs.Readings.{read_is, value_within}
use Rattle.scans.specs.Number.{read_number}
use Rattle.scans.specs.Scan.{scan_bytes, read_scan}
use Rattle.scans.specs.declared.Layout.{Layout}
use Rattle.scans.specs.declared.Layout.TheVariants.{Old, New}
use Rattle.scans.specs.declared.Scan.{Scan}
use Rattle.scan_laws.proofs.Numbers.{IsNumber, number_size, number_back, number_is, number_within}
use Rattle.scan_laws.proofs.Sites.{IsSite, site_bytes, site_count, site_size, site_back, site_is, site_within}
use Rattle.scan_laws.proofs.Reading.{parts_read, in_parts}

-- ---- a scan in a layout

abbrev pub bytes_in : Layout → Scan → List ℕ
bytes_in l x = site_bytes l x.site ++ (varuint x.tag ++ (varuint x.guard ++ value_of x.stamp))

-- a scan that a file can hold
pub record Stored (l : Layout) (x : Scan) : Type 0 where
  pub site : IsSite l x.site
  pub tag : IsNumber x.tag
  pub guard : IsNumber x.guard
  pub stamp : Accepted x.stamp

-- a scan of either layout can be written in the new one
pub stored_new : (l : Layout) (x : Scan) → Stored l x → Stored New x
stored_new Old x p = record { site = omega (arith, p.site); tag = p.tag; guard = p.guard; stamp = p.stamp }
stored_new New x p = p

scan_length : (l : Layout) (x : Scan)
    → length (bytes_in l x)
    ≡ length (site_bytes l x.site) + length (varuint x.tag) + length (varuint x.guard) + length (value_of x.stamp)
scan_length l x =
    let t = varuint x.tag in
    let g = varuint x.guard in
    let v = value_of x.stamp in
    omega (arith, length-append (site_bytes l x.site) (t ++ (g ++ v)), length-append t (g ++ v), length-append g v)

-- a byte of each number and three of the value at least, five of each and twenty at most
pub scan_size : (l : Layout) (x : Scan) → Stored l x
    → (5 + site_count l ≤ length (bytes_in l x)) × (length (bytes_in l x) ≤ 30 + 5 * site_count l)
scan_size l x p =
    let n = scan_length l x in
    let i = site_size l x.site p.site in
    let t = number_size x.tag p.tag in
    let g = number_size x.guard p.guard in
    (omega (arith, n, i.0, t.0, g.0, value_some x.stamp), omega (arith, n, i.1, t.1, g.1, value_length x.stamp p.stamp))

-- ---- written and read

scan_back : (l : Layout) (x : Scan) (r : List ℕ) → Stored l x → read_scan l (bytes_in l x ++ r) ≡ Ok (x, length (bytes_in l x))
scan_back l x r p =
    let i = site_bytes l x.site in
    let t = varuint x.tag in
    let g = varuint x.guard in
    let v = value_of x.stamp in
    let s = i ++ (t ++ (g ++ (v ++ r))) in
    let e : bytes_in l x ++ r ≡ s =
    append_assoc i (t ++ (g ++ v)) r
    ∙ ap (λ (b : List ℕ). i ++ b) (append_assoc t (g ++ v) r ∙ ap (λ (b : List ℕ). t ++ b) (append_assoc g v r)) in
    let first : drop (length i) s ≡ t ++ (g ++ (v ++ r)) = drop-append_seam i (t ++ (g ++ (v ++ r))) in
    let second : drop (length i + length t) s ≡ g ++ (v ++ r) = after s t (g ++ (v ++ r)) (length i) first in
    let third : drop (length i + length t + length g) s ≡ v ++ r = after s g (v ++ r) (length i + length t) second in
    ap (read_scan l) e
    ∙ parts_read
    (record {
      i = length i;
      j = length t;
      k = length g;
      m = length v;
      site = site_back l x.site (t ++ (g ++ (v ++ r))) p.site;
      tag = ap read_number first ∙ number_back x.tag (g ++ (v ++ r)) p.tag;
      guard = ap read_number second ∙ number_back x.guard (v ++ r) p.guard;
      value = ap read_value third ∙ value_back x.stamp p.stamp r;
      taken = scan_length l x;
    })
  where
    -- past one part more
    after : (s a b : List ℕ) (n : ℕ) → drop n s ≡ a ++ b → drop (n + length a) s ≡ b
    after s a b n h = sym (drop-drop (length a) n s) ∙ ap (drop (length a)) h ∙ drop-append_seam a b

-- ---- read and written

-- one part after another
begin_two : (s a b : List ℕ) (m n : ℕ) → s ≡ a ++ drop m s → drop m s ≡ b ++ drop n (drop m s) → s ≡ (a ++ b) ++ drop (m + n) s
begin_two s a b m n e f =
    e ∙ ap (λ (r : List ℕ). a ++ r) (f ∙ ap (λ (r : List ℕ). b ++ r) (drop-drop n m s)) ∙ sym (append_assoc a b (drop (m + n) s))

scan_is : (l : Layout) (s : List ℕ) (x : Scan) (n : ℕ) → Below 256 s → read_scan l s ≡ Ok (x, n)
    → WrittenSo (read_scan l) (bytes_in l) (Stored l) s x n
scan_is l s x n b e =
    let p = in_parts l s x n e in
    let i = p.i in
    let j = p.j in
    let k = p.k in
    let part = λ (n : ℕ). below_drop 256 n s b in
    let o = site_is s x.site i l b p.site in
    let t = number_is (drop i s) x.tag j (part i) p.tag in
    let g = number_is (drop (i + j) s) x.guard k (part (i + j)) p.guard in
    let v = read_is (drop (i + j + k) s) x.stamp p.m p.value in
    let ob = site_bytes l x.site in
    let tb = varuint x.tag in
    let gb = varuint x.guard in
    let vb = value_of x.stamp in
    let one = begin_two s ob tb i j o.begins t.begins in
    let two = begin_two s (ob ++ tb) gb (i + j) k one g.begins in
    record {
      stored = record { site = o.stored; tag = t.stored; guard = g.stored; stamp = v.accepted };
      taken = p.taken ∙ ap₂ ◌+◌ (ap₂ ◌+◌ (ap₂ ◌+◌ o.taken t.taken) g.taken) v.taken ∙ sym (scan_length l x);
      begins =
          begin_two s ((ob ++ tb) ++ gb) vb (i + j + k) p.m two v.bytes
          ∙ ap₂ ◌++◌ (append_assoc (ob ++ tb) gb vb ∙ append_assoc ob tb (gb ++ vb)) (ap (λ (i : ℕ). drop i s) (sym p.taken));
    }

-- it takes a byte each of tag and guard and three of the value, at least, and no more than there are
pub scan_within : (l : Layout) (s : List ℕ) (x : Scan) (n : ℕ) → read_scan l s ≡ Ok (x, n) → (5 ≤ n) × (n ≤ length s)
scan_within l s x n e =
    let p = in_parts l s x n e in
    let i = p.i in
    let j = p.j in
    let k = p.k in
    let t = number_within (drop i s) x.tag j p.tag in
    let g = number_within (drop (i + j) s) x.guard k p.guard in
    let v = value_within (drop (i + j + k) s) x.stamp p.m p.value in (
      omega (arith, p.taken, t.0, g.0, v.0),
      omega (
        arith,
        p.taken,
        site_within s x.site i l p.site,
        t.1,
        g.1,
        v.1,
        length-drop i s,
        length-drop (i + j) s,
        length-drop (i + j + k) s,
      ),
    )

-- ---- what is asked of a reader

pub scan_advances : (l : Layout) → Advances (read_scan l)
scan_advances l =
    record { some = λ s x n e. omega (arith, (scan_within l s x n e).0); within = λ s x n e. (scan_within l s x n e).1 }

pub scan_inverse : (l : Layout) → Inverse (read_scan l) (bytes_in l) (Stored l)
scan_inverse l = record { back = scan_back l; is = scan_is l }

-- ---- the writer's scans

pub written_inverse : Inverse (read_scan New) scan_bytes (Stored New)
unfolding scan_bytes
written_inverse = scan_inverse New

pub written_back : (x : Scan) (r : List ℕ) → Stored New x → read_scan New (scan_bytes x ++ r) ≡ Ok (x, length (scan_bytes x))
written_back = written_inverse.back

-- if one scan's bytes with bytes after them are another's with bytes after them, the scans are the same
pub scans_apart : (x y : Scan) → Stored New x → Stored New y → (q r : List ℕ) → scan_bytes x ++ q ≡ scan_bytes y ++ r → x ≡ y
scans_apart x y h k q r e =
    let both = sym (written_back x q h) ∙ ap (read_scan New) e ∙ written_back y r k in
    let same : (x, length (scan_bytes x)) ≡ (y, length (scan_bytes y)) = cc in
    ap (λ (p : Scan × ℕ). p.0) same
