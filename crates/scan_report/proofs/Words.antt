-- The words of the last kept scans: four for each, and zeros after them. Assumes nothing.
use Rattle.std.proofs.Common.{◌≡◌, refl, sym, ap, ap₂, ◌∙◌, ℕ, ◌+◌, ◌-◌, ◌*◌, ◌≤◌, ◌<◌, List, [], ◌∷◌}
use Rattle.std.proofs.Common.{◌++◌, length, take, drop, get_or, replicate, append_assoc, length-append, length-drop}
use Rattle.std.proofs.Common.{subst, arith}
use Rattle.std.proofs.Math.ListN.{length-replicate}
use Rattle.std.proofs.Math.Seq.{take-append_seam, drop-append_seam, drop-drop, take_all, length-take-le}
use borrow.Rule.Slice.PartMut.{put_mid}
use Rattle.std.proofs.lemmas.List.{take_more}
use Rattle.ion.specs.Calls.Contents.{in_turn}
use Rattle.scans.specs.Tally.{no_scan}
use Rattle.scans.specs.Report.{word_count, words_of, words_for, words_over}
use Rattle.scans.specs.declared.Scan.{Scan}

-- how many there are for each
abbrev pub word_size : ℕ
word_size = 4

pub length_words : (l : List Scan) → length (words_for l) ≡ length l * word_size
unfolding words_for in_turn
length_words [] = refl
length_words (x ∷ l) = omega (arith, length_words l)

pub words_push : (l : List Scan) (x : Scan) → words_for (l ++ (x ∷ [])) ≡ words_for l ++ words_of x
unfolding words_for in_turn
words_push [] x = refl
words_push (y ∷ l) x = ap (λ (r : List ℕ). words_of y ++ r) (words_push l x)

-- the words e are d with p in front
pub record Begun (d p e : List ℕ) : Type 0 where
  pub words : e ≡ p ++ drop (length p) d
  pub within : length p ≤ length d

pub begun_none : (d : List ℕ) → Begun d (words_for []) d
unfolding words_for in_turn
begun_none d = record { words = refl; within = omega arith }

-- words put after them
pub begun_run : {d p e : List ℕ} {at k : ℕ} (q : List ℕ) → Begun d p e → at ≡ length p → k ≡ length q → at + k ≤ length d
    → Begun d (p ++ q) (put_mid at k e q)
begun_run {d} {p} {e} {at} {k} q b h n r =
    let t = drop (length p) d in
    let front : take at e ≡ p = ap₂ take h b.words ∙ take-append_seam p t in
    let size = length-append p q in
    let rest : drop k (drop at e) ≡ drop (length (p ++ q)) d =
    ap₂ (λ (j : ℕ) (f : List ℕ). drop k (drop j f)) h b.words
    ∙ ap (drop k) (drop-append_seam p t)
    ∙ drop-drop k (length p) d
    ∙ ap (λ (j : ℕ). drop j d) (let j : length p + k ≡ length (p ++ q) = omega (arith, size) in j) in
    record {
      words = ap₂ (λ (a c : List ℕ). a ++ (q ++ c)) front rest ∙ sym (append_assoc p q (drop (length (p ++ q)) d));
      within = omega (arith, size);
    }

-- the words of one more of the scans l
pub begun_more : {d e q : List ℕ} (l : List Scan) (i at k : ℕ)
    → Begun d (words_for (take i l)) e → at ≡ i * word_size → k ≡ word_size → i < length l → at + k ≤ length d
    → q ≡ words_of (get_or l i no_scan) → Begun d (words_for (take (i + 1) l)) (put_mid at k e q)
begun_more {d} {e} {q} l i at k b h s n r z =
    let x = get_or l i no_scan in
    let m : length (take i l) ≡ i = length-take-le i l (omega arith) in
    let more = begun_run (words_of x) b (omega (arith, h, m, length_words (take i l))) s r in
    let same = sym (words_push (take i l) x) ∙ sym (ap words_for (take_more l i no_scan n)) in
    rw z (subst (λ (w : List ℕ). Begun d w (put_mid at k e (words_of x))) same more)

-- all of them, and zeros over the others of the 1,024
pub begun_all : {d e f : List ℕ} (l : List Scan) (i at m : ℕ) → Begun d (words_for (take i l)) e → length l ≤ i → at ≡ length l * word_size
    → at ≤ word_count → word_count ≤ length d → f ≡ replicate m 0 → m ≡ word_count - at → put_mid at (word_count - at) e f ≡ words_over d l
unfolding words_over
begun_all {d} {e} {f} l i at m b h n k r g q =
    let p = words_for l in
    let s : at ≡ length p = omega (arith, n, length_words l) in
    let all : Begun d p e = subst (λ (t : List Scan). Begun d (words_for t) e) (take_all i l h) b in
    let zeros : f ≡ replicate (word_count - length p) 0 = g ∙ ap (λ (j : ℕ). replicate {A = ℕ} j 0) (omega (arith, q, s)) in
    let size : length f ≡ word_count - at = ap length g ∙ length-replicate m 0 ∙ q in
    let whole = begun_run f all s (sym size) (omega (arith, k, r)) in
    let count : length (p ++ f) ≡ word_count = omega (arith, length-append p f, size, s, k) in
    whole.words
    ∙ ap (λ (j : ℕ). (p ++ f) ++ drop j d) count
    ∙ append_assoc p f (drop word_count d)
    ∙ ap (λ (z : List ℕ). p ++ (z ++ drop word_count d)) zeros

-- there are as many words as were lent
pub words_length : (d : List ℕ) (l : List Scan) → word_count ≤ length d → length l * word_size ≤ word_count
    → length (words_over d l) ≡ length d
unfolding words_over
words_length d l h k =
    let u = words_for l in
    let z = replicate {A = ℕ} (word_count - length u) 0 in
    omega (
      arith,
      length-append u (z ++ drop word_count d),
      length-append z (drop word_count d),
      length-replicate {A = ℕ} (word_count - length u) 0,
      length-drop word_count d,
      length_words l,
    )
