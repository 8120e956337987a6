-- The last kept scans l in the front of an array: how many, which place a post has, and a scan put in its place. Assumes nothing.
use Rattle.std.proofs.Common.{◌≡◌, refl, sym, ap, ap₂, ◌∙◌, ℕ, suc, ◌+◌, ◌<◌, true, cond, ltb, subst, arith}
use Rattle.std.proofs.Common.{List, [], ◌∷◌, ◌++◌, length, take, get_or, set, length-set}
use Rattle.std.proofs.lemmas.List.{get_or_default, get_or-take, get_or-set_same, get_or-set_other}
use Rattle.std.specs.Prelude.{Option, Some, None}
use Rattle.std.specs.Option.{unwrap_or}
use Rattle.std.specs.List.{position, position_or_len}
use Rattle.std.proofs.lemmas.List.Recursion.{is_position_or_len}
use borrow.Author.Tests.{lt-ltb, le-ltb}
use native.Mathlib.Decide.{ℕ_discrete, dec_lt}
use Rattle.std.proofs.Math.Seq.{length-take-le, take-set-lt}
use Rattle.std.proofs.lemmas.Grind.{take-set_at}
use Rattle.ion.specs.Pair.Count.{count_of}
use Rattle.scans.specs.Tally.{no_scan, same_post, place_of, with_last}
use Rattle.scans.specs.declared.Scan.{Scan}
use Rattle.scan_laws.proofs.Tallies.{place_within}
use Rattle.scan_report.specs.Kept.{Apart}
use Rattle.scan_report.proofs.Posts.{place_at, last_push, last_set, apart_last}
use Rattle.scan_report.specs.Kept.{IsKept}

-- the place by std's search: r is what it finds, n how many there are
pub place_by : (x : Scan) (l : List Scan) {r : Option ℕ} {n : ℕ} → r ≡ position (same_post x) l → n ≡ length l
    → unwrap_or r n ≡ place_of x l
unfolding place_of
place_by x l {r} {n} e m = ap (λ (o : Option ℕ). unwrap_or o n) e ∙ go (dec_lt q (length l)) ∙ sym found
  where
    q : ℕ
    q = position_or_len (same_post x) l

    found : place_of x l ≡ q
    found =
        is_position_or_len (place_of x) (same_post x) refl
        (λ y r. let s : suc (place_of x r) ≡ 1 + place_of x r = omega arith in ap (cond (same_post x y) 0) s) l

    go : Dec (q < length l) → unwrap_or (cond (ltb q (length l)) (Some q) None) n ≡ q
    go (yes h) = rw (lt-ltb q (length l) h)
    go (no h) = rw (le-ltb q (length l) (omega arith)) (omega (arith, m, found, place_within x l))

module _ {n : ℕ} {a l : List Scan} {b : List ℕ} (k : IsKept n a b) (v : take n a ≡ l) where
  pub kept_length : n ≡ length l
  kept_length = sym (length-take-le n a (omega (arith, k.few, k.size))) ∙ ap length v

  kept_at : (i : ℕ) (d : Scan) → i < n → get_or l i d ≡ get_or a i d
  kept_at i d h = ap (λ (m : List Scan). get_or m i d) (sym v) ∙ get_or-take n a i d h

  pub count_at : (i d : ℕ) → i < length l → get_or b i d ≡ count_of (get_or l i no_scan).stamp
  count_at i d h =
      let there : i < n = omega (arith, kept_length) in
      get_or_default b i d 0 (omega (arith, there, k.few, k.count_size))
      ∙ k.counted i there ∙ ap (λ (y : Scan). count_of y.stamp) (sym (kept_at i no_scan there))

  apart : Apart l
  apart = subst Apart v k.apart

  -- ---- the place of x's post

  pub place_found : (x : Scan) (i : ℕ) (d : Scan) → i < n → same_post x (get_or a i d) ≡ true → i ≡ place_of x l
  place_found x i d h e = sym (place_at x l i d apart (omega (arith, kept_length)) (ap (same_post x) (kept_at i d h) ∙ e))

  -- ---- x put in its place i: the next one, or one of them

  module _ (x : Scan) (i : ℕ) (p : i ≡ place_of x l) where
    pub put_next : i ≡ n → i < 256 → take (n + 1) (set a i x) ≡ with_last x l
    put_next e h =
        take-set_at a i (n + 1) x (omega arith) (omega (arith, k.size))
        ∙ ap (λ (m : List Scan). m ++ (x ∷ [])) (ap (λ (j : ℕ). take j a) e ∙ v)
        ∙ sym (last_push x l (sym p ∙ e ∙ kept_length))

    before : (i ≡ n → ⊥) → i < n
    before h = omega (arith, place_within x l, kept_length)

    pub put_there : (i ≡ n → ⊥) → take n (set a i x) ≡ with_last x l
    put_there h =
        take-set-lt n a i x (before h)
        ∙ ap₂ (λ (m : List Scan) (j : ℕ). set m j x) v p
        ∙ sym (last_set x l (omega (arith, before h, kept_length)))

    module _ (m : ℕ) (q : m ≡ count_of x.stamp) where
      -- its count at i, and those of the others
      counted_set : i < 256 → (j : ℕ) → ((j ≡ i → ⊥) → j < n)
          → get_or (set b i m) j 0 ≡ count_of (get_or (set a i x) j no_scan).stamp
      counted_set h j o = go (ℕ_discrete j i)
        where
          go : Dec (j ≡ i) → get_or (set b i m) j 0 ≡ count_of (get_or (set a i x) j no_scan).stamp
          go (yes e) =
              rw (e, get_or-set_same a i x no_scan (omega (arith, k.size)), get_or-set_same b i m 0 (omega (arith, k.count_size))) q
          go (no e) = rw (get_or-set_other a i j x no_scan e, get_or-set_other b i j m 0 e) (k.counted j (o e))

      pub kept_next : i ≡ n → i < 256 → IsKept (n + 1) (set a i x) (set b i m)
      kept_next e h =
          record {
            few = omega arith;
            size = length-set a i x ∙ k.size;
            count_size = length-set b i m ∙ k.count_size;
            apart = subst Apart (sym (put_next e h)) (apart_last x l apart);
            counted = λ j s. counted_set h j (λ d. omega arith);
          }

      pub kept_there : (i ≡ n → ⊥) → IsKept n (set a i x) (set b i m)
      kept_there h =
          record {
            few = k.few;
            size = length-set a i x ∙ k.size;
            count_size = length-set b i m ∙ k.count_size;
            apart = subst Apart (sym (put_there h)) (apart_last x l apart);
            counted = λ j s. counted_set (omega (arith, before h, k.few)) j (λ d. s);
          }

pub ruleset putting = (put_next, put_there, kept_next, kept_there)
