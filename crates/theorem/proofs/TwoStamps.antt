-- The theorem on any two accepted timestamps, and on any two that the builder gives. Assumes nothing.
use mathlib.Core.Path.{◌≡◌, refl, sym, ap, ap₂, ◌∙◌}
use mathlib.Core.Logic.{⊎_elim}
use mathlib.Core.List.{List, [], ◌++◌, append-nil}
use Prim.Native.Nat.{ℕ, ◌^◌}
use native.Mathlib.Nat.{div-add-mod', mod-lt}
use lib.Dec.{lit<}
use lib.IntN.{pos, nat_abs, ◌-ℤ◌}
use Rattle.std.specs.Prelude.{Result, Ok, IsOk}
use Rattle.std.specs.Ordering.{nat_cmp}
use borrow.Author.Tests.{eq-eqb, eqb-true}
use Rattle.ion.specs.Pair.Pair.{word_in}
use Rattle.ion.specs.Calls.Build.{build_of}
use Rattle.ion.specs.Calls.Stages.{Stage, Gives}
use Rattle.ion.specs.Calls.Check.{check_of}
use Rattle.ion.specs.Calls.Accepted.{Accepted}
use Rattle.ion.specs.Pair.Count.{count_of}
use Rattle.ion.specs.Calls.Order.{size_of_difference}
use Rattle.ion.specs.Text.Format.{text_of}
use Rattle.ion.specs.Value.Encode.{value_of}
use Rattle.ion.specs.declared.BuilderFields.{BuilderFields}
use Rattle.ion.specs.declared.Timestamp.{Timestamp}
use Rattle.ion.specs.declared.refusal.Refusal.{Refusal}
use Rattle.timestamp.proofs.Accepts.{check_gives, check_accepts, built_checks}
use Rattle.order.proofs.Answers.{cmp_counts, eq_counts, distance_counts}
use Rattle.text_reader.proofs.ReadBack.{text_back, texts_read, texts_inj, text_inj}
use Rattle.text_reader.proofs.Exact.{text_exact}
use Rattle.value_reader.proofs.Values as values
use Rattle.value_reader.proofs.Readings.{value_apart}
use Rattle.padded_reader.proofs.PaddedValues.{form_read, form_apart, read_exact, writer_form, shortest_form}
use Rattle.scans.specs.Scan.{scan_bytes}
use Rattle.scans.specs.declared.Scan.{Scan}
use Rattle.scan_laws.proofs.Scans.{written_back, scans_apart}
use Rattle.theorem.specs.TwoStamps.{utc_count, SignOf, Differ, IsScan, ReadFromTexts, ReadFromForms, ShortestForm, BothOk, TwoStamps}
use Rattle.theorem.proofs.UtcCounts.{count_exact, order_sign}
use Rattle.theorem.proofs.Bytes.{writes, reads_back, text_reads_back, stored, scan_writes, scan_reads_back}

-- two answers that are accepted
both_by : {A B : Type 0} {r : Result A Refusal} {q : Result B Refusal} {x : A} {y : B} (P : A → B → Type 0)
    → r ≡ Ok x → q ≡ Ok y → P x y → BothOk r q P
both_by P e f h = rw (e, f) h

module _ {s t : Timestamp} (p : Accepted s) (q : Accepted t) {x y : Scan} (h : IsScan s x) (k : IsScan t y) where
  scan_stamps : (u v : List ℕ) → scan_bytes x ++ u ≡ scan_bytes y ++ v → s ≡ t
  scan_stamps u v e = sym h.stamp ∙ ap (λ (z : Scan). z.stamp) (scans_apart x y (stored s p x h) (stored t q y k) u v e) ∙ k.stamp

from_texts : (s : Timestamp) → Accepted s → ReadFromTexts s
from_texts s p x = (text_exact s x, texts_read s x p)

from_forms : (s : Timestamp) → ReadFromForms s
from_forms s x n h e = (read_exact x s n h e).form

form_least : (s : Timestamp) → Accepted s → ShortestForm s
form_least s p = (writer_form s p, λ x f. let l = shortest_form s p x f in (l.shorter, l.only))

not_same : (s t : Timestamp) → Differ s t → s ≡ t → ⊥
not_same s t d e = ⊎_elim (λ n. n (ap word_in e)) (λ n. n (ap (λ (x : Timestamp). x.attoseconds) e)) d

-- bytes u and v that are the same, with any bytes after them, only where s and t are
module _ {s t : Timestamp} (d : Differ s t) {u v : List ℕ} (apart : (q r : List ℕ) → u ++ q ≡ v ++ r → s ≡ t) where
  bytes_differ : u ≡ v → ⊥
  bytes_differ e = not_same s t d (apart [] [] (ap (λ (l : List ℕ). l ++ []) e))

  neither_begins : (r : List ℕ) → (u ++ r ≡ v → ⊥) × (v ++ r ≡ u → ⊥)
  neither_begins r = (
    (λ e. not_same s t d (apart r [] (e ∙ sym (append-nil v)))),
    (λ e. not_same s t d (apart [] r (append-nil u ∙ sym e))),
  )

module _ (a b : Timestamp) (p : Accepted a) (q : Accepted b) where
  abbrev size : ℕ
  size = size_of_difference (count_of a) (count_of b)

  -- the signed difference of the counts
  difference : pos (count_of a) -ℤ pos (count_of b) ≡ utc_count a -ℤ utc_count b
  difference = ap₂ ◌-ℤ◌ (count_exact a p) (count_exact b q)

  sign_exact : SignOf (nat_cmp (count_of a) (count_of b)) (utc_count a -ℤ utc_count b)
  sign_exact = rw (← difference) (order_sign (count_of a) (count_of b))

  same_count : utc_count a ≡ utc_count b → count_of a ≡ count_of b
  same_count e =
      let x : pos (count_of a) ≡ pos (count_of b) = count_exact a p ∙ e ∙ sym (count_exact b q) in
      cc

  together : TwoStamps a b
  together =
      record {
        count_exact = (count_exact a p, count_exact b q);
        distance_accepted = rw (distance_counts a b p q);
        distance_exact = rw (distance_counts a b p q) (div-add-mod' size (10 ^ 18) ∙ ap nat_abs difference);
        distance_parts = rw (distance_counts a b p q) (mod-lt size (lit< tt));
        distance_sign = rw (distance_counts a b p q) sign_exact;
        cmp_accepted = rw (cmp_counts a b p q);
        cmp_exact = rw (cmp_counts a b p q) sign_exact;
        eq_accepted = rw (eq_counts a b p q);
        eq_exact =
            rw (eq_counts a b p q) (
              (λ e. sym (count_exact a p) ∙ ap pos (eqb-true (count_of a) (count_of b) e) ∙ count_exact b q),
              (λ e. eq-eqb (count_of a) (count_of b) (same_count e)),
            );
        pair_back = (check_accepts a p, check_accepts b q);
        value_back = (reads_back a p, reads_back b q);
        forms_back = (form_read a p, form_read b q);
        forms_exact = (from_forms a, from_forms b);
        forms_least = (form_least a p, form_least b q);
        text_back = (text_reads_back a p, text_reads_back b q);
        texts_exact = (from_texts a p, from_texts b q);
        scan_back = ((λ x h. scan_reads_back (stored a p x h)), (λ x h. scan_reads_back (stored b q x h)));
        same_by_pair = both_by _ (check_accepts a p) (check_accepts b q) (refl, refl, refl);
        same_by_value = λ d e. both_by _ (values.value_back a p d) (values.value_back b q e) (refl, refl, refl);
        same_by_form = λ x f y g d e. both_by _ (form_read a p x f d) (form_read b q y g e) (refl, refl, refl);
        same_by_text = both_by _ (text_back a p) (text_back b q) (refl, refl, refl);
        same_by_scan = λ x h y k d e.
            both_by _ (written_back x d (stored a p x h)) (written_back y e (stored b q y k)) (rw (h.stamp, k.stamp) (refl, refl, refl));
        texts_written = (writes (check_accepts a p) (text_of a), writes (check_accepts b q) (text_of b));
        values_written = (writes (check_accepts a p) (value_of a), writes (check_accepts b q) (value_of b));
        scans_written = ((λ x h. scan_writes (stored a p x h)), (λ x h. scan_writes (stored b q x h)));
        texts_differ = λ d e. not_same a b d (text_inj a b p q e);
        texts_apart = λ d s h k. not_same a b d (texts_inj a b s p q h k);
        values_differ = λ d. bytes_differ d (value_apart a b p q);
        no_beginning = λ d. neither_begins d (value_apart a b p q);
        forms_apart = λ d x f y g.
            let apart : (u v : List ℕ) → x ++ u ≡ y ++ v → a ≡ b = λ u v e. form_apart a b p q x y u v f g e in
            (bytes_differ d apart, neither_begins d apart);
        scans_differ = λ d x h y k. bytes_differ d (scan_stamps p q h k);
        no_scan_beginning = λ d x h y k. neither_begins d (scan_stamps p q h k);
      }

-- for every two timestamps that the packed check accepts, whatever their precisions and offsets
pub two_stamps : (a b : Timestamp) → IsOk (check_of a) → IsOk (check_of b) → TwoStamps a b
two_stamps a b p q = together a b (check_gives a p) (check_gives b q)

-- ---- and so for every two that the builder gives

accepted_built : {t : Stage} {f : BuilderFields} {s : Timestamp} → Gives t f → build_of f ≡ Ok s → IsOk (check_of s)
accepted_built h e = rw (built_checks h e)

-- of the fields that the stages give
pub two_built :
    {t u : Stage} {f g : BuilderFields} {a b : Timestamp} → Gives t f → Gives u g →
    build_of f ≡ Ok a → build_of g ≡ Ok b → TwoStamps a b
two_built {t} {u} {f} {g} {a} {b} h k p q = two_stamps a b (accepted_built h p) (accepted_built k q)
