-- Runs of bytes put one after another into an array that is lent from call to call. Assumes nothing.
use mathlib.Core.Path.{◌≡◌, refl, sym, ap, ap₂, ◌∙◌}
use mathlib.Core.List.{List, [], ◌++◌}
use Prim.Native.Nat.{ℕ, ◌+◌, ◌-◌, ◌≤◌, ◌<◌}
use native.Mathlib.Nat.{add-zero}
use native.Mathlib.Omega.{arith}
use lib.ListN.{length, length-append, length-drop, get_or, take, drop, take-append-drop}
use lib.Seq.{drop-drop, take_at, drop-append-le}
use borrow.Rule.Slice.PartMut.{put_mid}
use Rattle.places.specs.Padded.{last_bytes}
use Rattle.ion.specs.Calls.Contents.{in_turn}
use Rattle.ion.specs.Calls.Output.{over, Run, Between}
use Rattle.ion.proofs.InTurn.{in_turn_more, in_turn_room}
use Rattle.output.proofs.Stores.{take_over, drop_there, over_over, over_before, length_over}

pub run_none : (d : List ℕ) (at : ℕ) → Run d at [] d at
run_none d at = record { bytes = rw (add-zero at) (sym (take-append-drop at d)); next = omega arith }

pub run_two : {d e f : List ℕ} {a b c : ℕ} {s t : List ℕ} → Run d a s e b → Run e b t f c → c ≤ length d → Run d a (s ++ t) f c
run_two {d} {e} {f} {a} {b} {c} {s} {t} g h l =
    let n = length s in
    let x : over e b t ≡ over (over d a s) (a + n) t = ap₂ (λ (y : List ℕ) (k : ℕ). over y k t) g.bytes g.next in
    record {
      bytes = h.bytes ∙ x ∙ over_over d a s t n refl (omega (arith, g.next, h.next));
      next = omega (arith, g.next, h.next, length-append s t);
    }

-- the second put first
pub run_before : {d e f : List ℕ} {a b c r : ℕ} {s t : List ℕ} → Run d b t e c → Run e a s f r → b ≡ a + length s → c ≤ length d
    → Run d a (s ++ t) f c
run_before {d} {e} {f} {a} {b} {c} {r} {s} {t} g h q l =
    let x : over e a s ≡ over (over d (a + length s) t) a s = ap (λ (y : List ℕ). over y a s) (g.bytes ∙ ap (λ (k : ℕ). over d k t) q) in
    record {
      bytes = h.bytes ∙ x ∙ over_before d a s t (length s) refl (omega (arith, g.next));
      next = omega (arith, g.next, length-append s t);
    }

pub run_is : {d e : List ℕ} {a c : ℕ} {s t : List ℕ} → Run d a s e c → s ≡ t → Run d a t e c
run_is {d} {e} {a} {c} {s} {t} g q = record { bytes = g.bytes ∙ ap (over d a) q; next = g.next ∙ ap (λ (l : List ℕ). a + length l) q }

-- bytes put by any other means
pub put_run : {d e : List ℕ} {at n : ℕ} {s t : List ℕ} → n ≡ length s → e ≡ over d at t → t ≡ s → Run d at s e (at + n)
put_run {d} {e} {at} size p q = record { bytes = p ∙ ap (over d at) q; next = ap (λ (k : ℕ). at + k) size }

-- bytes put into a part of k bytes
pub run_part : {d t s : List ℕ} {at k r : ℕ} → t ≡ s → k ≡ length s → r ≡ at + k → Run d at s (put_mid at k d t) r
run_part {d} {t} {s} {at} {k} e n q =
    let l : drop k (drop at d) ≡ drop (at + length t) d = drop-drop k at d ∙ ap (λ (j : ℕ). drop (at + j) d) (n ∙ sym (ap length e)) in
    rw q (put_run n (ap (λ (y : List ℕ). take at d ++ (t ++ y)) l) e)

-- what stands before the end
pub run_front : {d e : List ℕ} {a c : ℕ} {s : List ℕ} → Run d a s e c → a ≤ length d → take c e ≡ take a d ++ s
run_front {d} {e} {a} {c} {s} g h = ap₂ take g.next g.bytes ∙ take_over d a s (length s) refl h

-- the last k bytes that were put
pub run_last : {d e : List ℕ} {a c : ℕ} {s : List ℕ} → Run d a s e c → c ≤ length d → (k : ℕ) → k ≤ length s
    → Between e (c - k) c (last_bytes k s)
run_last {d} {e} {a} {c} {s} g l k h =
    let r = drop (a + length s) d in
    let j = length s - k in
    let i : c - k ≡ a + j = omega (arith, g.next) in
    let n : c - (c - k) ≡ k = omega (arith, g.next) in
    record {
      from = omega arith;
      to = rw (g.bytes, length_over d a s (omega (arith, g.next))) l;
      bytes =
          rw (n, i, g.bytes)
          (ap (take k)
          (sym (drop-drop j a (over d a s))
          ∙ ap (drop j) (drop_there d a s (omega (arith, g.next)))
          ∙ drop-append-le j s r (omega arith))
          ∙ take_at (drop j s) r k (length-drop j s ∙ omega arith));
    }

-- ---- items one after another, where there is room for all

pub each_none : {A : Type 0} (bytes : A → List ℕ) (d : List ℕ) (at : ℕ) → Run d at (in_turn bytes []) d at
unfolding in_turn
each_none bytes d at = run_none d at

-- after the first i of them the next has room, and is put behind them
module _ {A : Type 0} (bytes : A → List ℕ) (z : A) (xs : List A) (i : ℕ) {d e : List ℕ} {at r : ℕ}
    (p : Run d at (in_turn bytes (take i xs)) e r) where
  pub each_room : i < length xs → at + length (in_turn bytes xs) ≤ length d → r + length (bytes (get_or xs i z)) ≤ length d
  each_room h m = omega (arith, p.next, in_turn_room bytes z xs i h, m)

  pub each_put : {f : List ℕ} {q : ℕ} → i < length xs → at + length (in_turn bytes xs) ≤ length d
      → Run e r (bytes (get_or xs i z)) f q → Run d at (in_turn bytes (take (i + 1) xs)) f q
  each_put {q = q} h m w =
      let end : q ≤ length d = omega (arith, w.next, each_room h m) in
      rw (in_turn_more bytes z xs i h) (run_two p w end)

-- ---- two runs one after the other, where there is room for both together

-- u is s and then t, and d has room for it from index at on
pub record Room (d : List ℕ) (at : ℕ) (s t u : List ℕ) : Type 0 where
  pub is : u ≡ s ++ t
  pub room : at + length u ≤ length d

module _ {d s t u : List ℕ} {at : ℕ} (r : Room d at s t u) where
  pub room_first : at + length s ≤ length d
  room_first = omega (arith, r.room, ap length r.is, length-append s t)

  pub room_next : {e : List ℕ} {b : ℕ} → Run d at s e b → b + length t ≤ length d
  room_next g = omega (arith, r.room, ap length r.is, length-append s t, g.next)

  pub run_both : {e f : List ℕ} {b c : ℕ} → Run d at s e b → Run e b t f c → Run d at u f c
  run_both g h = run_is (run_two g h (omega (arith, room_next g, h.next))) (sym r.is)
