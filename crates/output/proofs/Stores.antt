-- Bytes put into a buffer, one run after another or in front of it, and stores from the back. Assumes nothing.
use mathlib.Core.Path.{◌≡◌, refl, sym, ap, ap₂, ◌∙◌}
use mathlib.Core.List.{List, [], ◌++◌, append_assoc}
use Prim.Native.Nat.{ℕ, ◌+◌, ◌-◌, ◌/◌, ◌%◌, ◌≤◌, ◌<◌}
use native.Mathlib.Omega.{arith}
use native.Mathlib.Decide.{dec_le}
use borrow.Author.Tests.{le-leb, lt-leb}
use lib.ListN.{length, take, drop, set, length-append, length-drop, length-set, take-append-drop}
use lib.Seq.{take_at, drop_at, drop-drop, length-take-le, take-set-le, take-append-le, take-take}
use Rattle.std.specs.Prelude.{Result, Ok, Err}
use Rattle.places.specs.Places.{places_on, places}
use Rattle.places.proofs.Laws.{places_append, length_places, place_stored}
use Rattle.ion.specs.Calls.Output.{over, put, room_for, wrote, put_after, wrote_after}
use Rattle.ion.specs.declared.refusal.Refusal.{Refusal}
use Rattle.ion.specs.declared.refusal.Refusal.TheVariants as refusal

-- ---- a writer's answer and its buffer

pub room_fits : (size at n : ℕ) → at + n ≤ size → room_for size at n ≡ Ok n
unfolding room_for
room_fits size at n h = rw (le-leb (at + n) size h)

pub room_short : (size at n : ℕ) → size < at + n → room_for size at n ≡ Err refusal.ShortBuffer
unfolding room_for
room_short size at n h = rw (lt-leb (at + n) size h)

-- the bytes are put where there is room, and else the buffer is left
pub put_fits : (d : List ℕ) (at : ℕ) (s : List ℕ) → at + length s ≤ length d → put d at s ≡ over d at s
unfolding put
put_fits d at s h = rw (le-leb (at + length s) (length d) h)

pub put_short : (d : List ℕ) (at : ℕ) (s : List ℕ) → length d < at + length s → put d at s ≡ d
unfolding put
put_short d at s h = rw (lt-leb (at + length s) (length d) h)

pub has_room_lem : (d : List ℕ) (at : ℕ) (s : List ℕ) {n : ℕ} → wrote d at s ≡ Ok n → (n ≡ length s) × (at + length s ≤ length d)
has_room_lem d at s {n} e = go (dec_le (at + length s) (length d))
  where
    go : Dec (at + length s ≤ length d) → (n ≡ length s) × (at + length s ≤ length d)
    go (yes h) = let f = sym e ∙ room_fits (length d) at (length s) h in (cc, h)
    go (no h) = let f = sym e ∙ room_short (length d) at (length s) (omega arith) in absurd (cc)

-- where the answer is a refusal the buffer is left
pub put_refused : (d : List ℕ) (at : ℕ) (s : List ℕ) {r : Refusal} → wrote d at s ≡ Err r → put d at s ≡ d
put_refused d at s {r} e = go (dec_le (at + length s) (length d))
  where
    go : Dec (at + length s ≤ length d) → put d at s ≡ d
    go (yes h) = let f = sym e ∙ room_fits (length d) at (length s) h in absurd (cc)
    go (no h) = put_short d at s (omega arith)

-- a writer that first makes a check
module _ {A : Type 0} {c : Result A Refusal} (d : List ℕ) (at : ℕ) (s : List ℕ) where
  pub wrote_passed : {a : A} → c ≡ Ok a → wrote_after c d at s ≡ wrote d at s
  unfolding wrote_after
  wrote_passed e = rw e

  pub put_passed : {a : A} → c ≡ Ok a → put_after c d at s ≡ put d at s
  unfolding put_after
  put_passed e = rw e

  pub wrote_stopped : {r : Refusal} → c ≡ Err r → wrote_after c d at s ≡ Err r
  unfolding wrote_after
  wrote_stopped e = rw e

  pub put_stopped : {r : Refusal} → c ≡ Err r → put_after c d at s ≡ d
  unfolding put_after
  put_stopped e = rw e

-- one whose check passes, and that then finds no room for n bytes
pub put_unroomed : {A : Type 0} {c : Result A Refusal} {a : A} {r : Refusal} (d : List ℕ) (at : ℕ) (s : List ℕ) {n : ℕ}
    → c ≡ Ok a → n ≡ length s → room_for (length d) at n ≡ Err r → d ≡ put_after c d at s
put_unroomed d at s p z e = sym (put_passed d at s p ∙ put_refused d at s (ap (room_for (length d) at) (sym z) ∙ e))

-- what stands in front of what was put
take_before : (d : List ℕ) (at : ℕ) (s : List ℕ) (n : ℕ) → n ≤ at → at ≤ length d → take n (over d at s) ≡ take n d
take_before d at s n l h =
    take-append-le n (take at d) (s ++ drop (at + length s) d) (omega (arith, length-take-le at d h)) ∙ take-take n at d l

pub drop_there : (d : List ℕ) (at : ℕ) (s : List ℕ) → at ≤ length d → drop at (over d at s) ≡ s ++ drop (at + length s) d
drop_there d at s h = drop_at (take at d) (s ++ drop (at + length s) d) at (length-take-le at d h)

-- the bytes that were put are those at the position
pub put_there : (d : List ℕ) (at : ℕ) (s : List ℕ) → at + length s ≤ length d → take (length s) (drop at (over d at s)) ≡ s
put_there d at s h = ap (take (length s)) (drop_there d at s (omega arith)) ∙ take_at s (drop (at + length s) d) (length s) refl

-- what stands in front of the end of what was put, and behind it
pub take_over : (d : List ℕ) (at : ℕ) (s : List ℕ) (n : ℕ) → length s ≡ n → at ≤ length d → take (at + n) (over d at s) ≡ take at d ++ s
take_over d at s n e h =
    rw (← append_assoc (take at d) s (drop (at + length s) d))
    (take_at (take at d ++ s) (drop (at + length s) d) (at + n) (simp (length-append, length-take-le at d h, e)))

drop_over : (d : List ℕ) (at : ℕ) (s : List ℕ) (n : ℕ) → length s ≡ n → at ≤ length d → drop (at + n) (over d at s) ≡ drop (at + n) d
drop_over d at s n e h =
    rw (← append_assoc (take at d) s (drop (at + length s) d), ← e)
    (drop_at (take at d ++ s) (drop (at + length s) d) (at + length s) (simp (length-append, length-take-le at d h)))

pub length_over : (d : List ℕ) (at : ℕ) (s : List ℕ) → at + length s ≤ length d → length (over d at s) ≡ length d
length_over d at s h = simp (length-append, length-take-le at d (omega arith), length-drop) (omega arith)

-- one run of bytes after another
pub over_over : (d : List ℕ) (at : ℕ) (s t : List ℕ) (n : ℕ) → length s ≡ n → at + n + length t ≤ length d
    → over (over d at s) (at + n) t ≡ over d at (s ++ t)
over_over d at s t n e h =
    let r = drop (at + n + length t) d in
    let k : at + n + length t ≡ at + length (s ++ t) = omega (arith, length-append s t) in
    ap₂ (λ (x y : List ℕ). x ++ (t ++ y)) (take_over d at s n e (omega arith))
    (sym (drop-drop (length t) (at + n) (over d at s))
    ∙ ap (drop (length t)) (drop_over d at s n e (omega arith))
    ∙ drop-drop (length t) (at + n) d)
    ∙ append_assoc (take at d) s (t ++ r)
    ∙ ap (λ (x : List ℕ). take at d ++ x) (sym (append_assoc s t r) ∙ ap (λ (j : ℕ). (s ++ t) ++ drop j d) k)

-- one run of bytes in front of another that is there
pub over_before : (d : List ℕ) (at : ℕ) (s t : List ℕ) (n : ℕ) → length s ≡ n → at + n + length t ≤ length d
    → over (over d (at + n) t) at s ≡ over d at (s ++ t)
over_before d at s t n e h =
    let k : at + n + length t ≡ at + length (s ++ t) = omega (arith, length-append s t) in
    let l : at + length s ≡ at + n = omega arith in
    ap₂ (λ (x y : List ℕ). x ++ (s ++ y)) (take_before d (at + n) t at (omega arith) (omega arith))
    (ap (λ (j : ℕ). drop j (over d (at + n) t)) l ∙ drop_there d (at + n) t (omega arith))
    ∙ ap (λ (x : List ℕ). take at d ++ x)
    (sym (append_assoc s t (drop (at + n + length t) d)) ∙ ap (λ (j : ℕ). (s ++ t) ++ drop j d) k)

-- ---- a store from the back: the places of a number, as `place_stored` of places has them

-- the loop part way: the places of q in front of index i, with what l has from there on, are the n places of v with what d has after them
pub record Storing (b : ℕ) (f : ℕ → ℕ) (d : List ℕ) (at n v : ℕ) (l : List ℕ) (i q : ℕ) : Type 0 where
  pub from : at ≤ i
  pub to : i ≤ at + n
  pub size : length l ≡ length d
  pub front : take at l ≡ take at d
  pub left : places_on b f (i - at) q (drop i l) ≡ places_on b f n v (drop (at + n) d)

pub storing_none : (b : ℕ) (f : ℕ → ℕ) (d : List ℕ) (at n v i : ℕ) → i ≡ at + n → Storing b f d at n v d i v
storing_none b f d at n v i e =
    let k : at + n - at ≡ n = omega arith in
    record { from = omega arith; to = omega arith; size = refl; front = refl; left = rw (e, k) }

module _ {b : ℕ} {f : ℕ → ℕ} {d : List ℕ} {at n v : ℕ} {l : List ℕ} {i q : ℕ} (s : Storing b f d at n v l i q) where
  pub storing_next : at < i → at + n ≤ length d → Storing b f d at n v (set l (i - 1) (f (q % b))) (i - 1) (q / b)
  storing_next h k =
      let x = f (q % b) in
      record {
        from = omega arith;
        to = omega (arith, s.to);
        size = length-set l (i - 1) x ∙ s.size;
        front = take-set-le at l (i - 1) x (omega arith) ∙ s.front;
        left = place_stored b f l at i q h (omega (arith, s.to, s.size)) ∙ s.left;
      }

  pub storing_all : i ≤ at → l ≡ over d at (places b f n v)
  unfolding places_on places
  storing_all h =
      let e : i ≡ at = omega (arith, s.from) in
      let z : at - at ≡ 0 = omega arith in
      sym (take-append-drop at l)
      ∙ ap₂ ◌++◌ s.front
      (rw (e, z) at s.left
      ∙ sym (places_append b f n v [] (drop (at + n) d))
      ∙ ap (λ (k : ℕ). places b f n v ++ drop (at + k) d) (sym (length_places b f n v)))
