-- A file tallied part way: the scans passed, the last kept of them, and the counts. Assumes nothing.
use Rattle.std.proofs.Common.{◌≡◌, sym, ap, ◌∙◌, ℕ, ◌≤◌, ◌<◌}
use Rattle.std.proofs.Common.{List, [], ◌∷◌, ◌++◌, length, length-append, subst, arith}
use Rattle.std.specs.Prelude.{Result, Err}
use borrow.Author.Tests.{lt-ltb, le-ltb, eq-eqb}
use Rattle.ion.specs.Calls.Contents.{Contents, contents_with}
use Rattle.ion.specs.declared.refusal.Refusal.{Refusal}
use Rattle.ion.specs.declared.refusal.Refusal.TheVariants as refusal
use Rattle.contents.proofs.Passing.{Passed, pass_start, pass_end, pass_next}
use Rattle.scans.specs.File.{contents_of}
use Rattle.scans.specs.Tally.{Tally, no_tally, kind_of, no_counts, counts_of, added, last_after, place_of, tallied, tally_of, tally_from}
use Rattle.scans.specs.Report.{file_tally, file_check}
use Rattle.scans.specs.declared.Scan.{Scan}
use Rattle.scans.specs.declared.Counts.{Counts}
use Rattle.scans.specs.declared.Kind.{Kind}
use Rattle.scans.specs.declared.Kind.TheVariants.{Kept}
use Rattle.scan_report.specs.Tallied.{tally_with}
use Rattle.scan_report.proofs.Posts.{after_few}
use Rattle.scan_laws.proofs.Files.{file_few}
use Rattle.scan_laws.proofs.Tallies.{place_within, Sums, sums, all_counted, last_new, never_fewer, tally_append, tally_next}
use Rattle.scan_binary.specs.Scans.{Begins}

-- ---- the check of a file, by what it holds

module _ (w g : ℕ) (s : List ℕ) where
  check_posts : 256 < length (file_tally w g s).last → file_check w g s ≡ Err refusal.Posts
  unfolding file_check
  check_posts h = rw (lt-ltb 256 (length (file_tally w g s).last) h)

  check_ending : length (file_tally w g s).last ≤ 256 → file_check w g s ≡ (contents_of s).ending
  unfolding file_check
  check_ending h = rw (le-ltb 256 (length (file_tally w g s).last) h)

-- ---- part way: the scans passed tally to the counts c and the last kept scans l; t is what the file s holds after them

pub record Tallying (w g : ℕ) (s : List ℕ) (t : Contents Scan) (c : Counts) (l : List Scan) : Type 0 where
  pub scans : List Scan
  pub passed : Passed (contents_of s) t scans
  pub tally : tally_of w g scans ≡ tally_with l c
  pub posts : length l ≤ 256

pub start : (w g : ℕ) (s : List ℕ) (t : Contents Scan) (l : List Scan) → t ≡ contents_of s → l ≡ [] → Tallying w g s t no_counts l
unfolding tally_from
start w g s t l f e =
    record {
      scans = [];
      passed = rw f (pass_start (contents_of s));
      tally = ap (λ (m : List Scan). tally_with m no_counts) (sym e);
      posts = omega (arith, ap length e);
    }

module _ {w g : ℕ} {s : List ℕ} {t : Contents Scan} {c : Counts} {l : List Scan} (p : Tallying w g s t c l) where
  -- no scan is left, or none that is accepted
  pub ended : {e : Result Unit Refusal} → t ≡ contents_with [] e → (file_check w g s ≡ e) × (file_tally w g s ≡ tally_with l c)
  ended h =
      let d = pass_end p.passed h in
      let q = ap (λ (d : Contents Scan). tally_of w g d.items) d ∙ p.tally in
      let few : length (file_tally w g s).last ≤ 256 = omega (arith, ap (λ (t : Tally). length t.last) q, p.posts) in
      (check_ending w g s few ∙ ap (λ (d : Contents Scan). d.ending) d, q)

  -- a scan more
  module _ {x : Scan} {u : Contents Scan} (b : Begins t u x) where
    abbrev passed : Passed (contents_of s) u (p.scans ++ (x ∷ []))
    passed = pass_next p.passed b.contents

    -- so each count is less than the number of bytes
    pub bounded : (c.scans < length s) × (c.doubles < length s) × (c.kept < length s) × (c.gaps < length s) × (c.backward < length s)
    bounded =
        let e = ap (λ (t : Tally). t.counts) p.tally in
        let q : Sums c = subst Sums e (sums w g p.scans) in
        let n = ap (λ (c : Counts). c.scans) (sym e) ∙ all_counted w g p.scans in
        let all = ap (λ (d : Contents Scan). length d.items) passed.whole in
        let few : c.scans < length s = omega (
          arith,
          n,
          all,
          length-append (p.scans ++ (x ∷ [])) u.items,
          length-append p.scans (x ∷ []),
          file_few s,
        ) in
        (few, omega (arith, q.all), omega (arith, q.all), omega (arith, q.all, q.steps), omega (arith, q.all, q.steps))

    abbrev more : Tally
    more = tally_with (last_after (kind_of w g l x) x l) (added c (counts_of (kind_of w g l x)))

    more_is : tally_of w g (p.scans ++ (x ∷ [])) ≡ more
    more_is = tally_next w g p.scans x ∙ ap (λ (t : Tally). tallied (kind_of w g t.last x) t x) p.tally

    next : place_of x l < 256 → Tallying w g s u more.counts more.last
    next room =
        record {
          scans = p.scans ++ (x ∷ []);
          passed = passed;
          tally = more_is;
          posts = after_few 256 (kind_of w g l x) x l p.posts room;
        }

    -- the same of what the code has: the place i, the kind k, the counts d and the last kept scans m
    pub next_by : {i : ℕ} {k : Kind} {d : Counts} {m : List Scan} → i ≡ place_of x l → i < 256 → k ≡ kind_of w g l x
        → d ≡ added c (counts_of k) → m ≡ last_after (kind_of w g l x) x l → Tallying w g s u d m
    next_by place room kind count last = rw (last, count, kind) (next (omega (arith, place)))

    -- a post more than there is room for
    pub stop_full : {i : ℕ} → i ≡ place_of x l → 256 ≤ i → file_check w g s ≡ Err refusal.Posts
    unfolding kind_of
    stop_full {i} place full =
        let new : place_of x l ≡ length l = omega (arith, p.posts, place_within x l, place) in
        let kept : kind_of w g l x ≡ Kept = rw (eq-eqb (place_of x l) (length l) new) in
        let last = ap (λ (t : Tally). length t.last) more_is ∙ ap (λ (k : Kind). length (last_after k x l)) kept in
        let ys = u.items in
        let xs = p.scans ++ (x ∷ []) in
        let all = ap (λ (d : Contents Scan). tally_of w g d.items) passed.whole ∙ tally_append w g no_tally xs ys in
        check_posts w g s
        (omega (
          arith,
          last,
          last_new x l new,
          new,
          place,
          never_fewer w g (tally_of w g xs) ys,
          ap (λ (t : Tally). length t.last) all,
        ))
