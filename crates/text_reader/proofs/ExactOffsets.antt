-- A text that is read as an offset is that offset's text, or Z for +00:00. Assumes nothing.
use mathlib.Core.Path.{◌≡◌, refl, sym, ap, subst, ◌∙◌}
use mathlib.Core.Bool.{Bool, true, false, cond, ◌||◌, false≢true}
use mathlib.Core.Logic.{◌⊎◌, inl, inr}
use mathlib.Core.List.{List, ◌∷◌, ◌++◌, append-nil}
use Prim.Native.Char.{code}
use Prim.Native.Nat.{ℕ, zero, suc, ◌+◌, ◌*◌, ◌≤◌, ◌<◌}
use native.Mathlib.Omega.{arith}
use lib.Arith.{digits_div, digits_mod}
use lib.Dec.{eqb, ltb, lit<}
use lib.IntN.{ℤ, pos, negsuc, neg_ℤ}
use lib.ListN.{length, drop, get_or, drop_of_length-le}
use borrow.Author.Tests.{ltb-false, eqb-true}
use Rattle.std.specs.Prelude.{Option, Some, None}
use Rattle.places.specs.Places.{places_on, places, count_in, count, place_count}
use Rattle.places.specs.Padded.{padded_places}
use Rattle.ion.specs.Text.Ascii.{ascii}
use Rattle.ion.specs.Numbers.Padded.{padded}
use Rattle.ion.specs.Pair.Offset.{offset_minutes}
use Rattle.ion.specs.Calls.Check.{from_local}
use Rattle.ion.specs.Text.Format.{marked, clock_text, unknown_text, zero_text, minutes_text, offset_text}
use Rattle.ion.specs.Text.ReadText.{read_digits, read_marked, known_offset, signed_clock, read_clock, read_offset}
use Rattle.ion.specs.Value.ReadValue.{same}
use Rattle.ion.specs.declared.offset.OffsetMinutes.{OffsetMinutes}
use Rattle.ion.specs.declared.BuilderOffset.{BuilderOffset}
use Rattle.ion.proofs.Same.{same_refl, same_is}
use Rattle.text_reader.proofs.Forms.{on_test, on_value_lem}
use Rattle.text_reader.proofs.ExactDigits.{two_marked, next_marked}

-- ---- the texts of offsets

-- the offset's text, or Z for +00:00
abbrev pub OffsetFor : Option OffsetMinutes → List ℕ → Type 0
OffsetFor o r = (r ≡ offset_text o) ⊎ ((r ≡ ascii "Z") × (o ≡ Some (offset_minutes (pos 0))))

-- hours, and minutes below 60, are those of all the minutes together
clock_is : (h m : ℕ) → m ≤ 59 → padded 2 h ++ marked (code ":") m ≡ clock_text (h * 60 + m)
unfolding clock_text
clock_is h m l =
    let k : m < 60 = omega arith in
    rw (digits_div h k, digits_mod h k)

-- after a plus they are the text of a known offset
plus_text : (n : ℕ) → code "+" ∷ clock_text n ≡ minutes_text (pos n)
unfolding minutes_text clock_text marked padded_places places places_on place_count count count_in
plus_text zero = refl
plus_text (suc n) = refl

-- none after a minus are the text of the unknown one
no_clock : code "-" ∷ clock_text 0 ≡ unknown_text
unfolding clock_text marked padded_places places places_on place_count count count_in
no_clock = refl

-- ---- what is read

on_either : (P : Option BuilderOffset → Type 0) (s t : Bool) {a b : Option BuilderOffset} → (s ≡ true → P a) → (t ≡ true → P a) → P b
    → P (cond (s || t) a b)
on_either P true t h k l = h refl
on_either P false t h k l = on_test P t k (λ e. l)

module _ (r : List ℕ) where
  -- what a reading says of the text
  abbrev Is : Option BuilderOffset → Type 0
  Is (Some o) = (l : Option OffsetMinutes) × (o ≡ from_local l) × OffsetFor l r
  Is None = Unit

  known : (z : ℤ) → OffsetFor (Some (offset_minutes z)) r → Is (known_offset z)
  known z h = (Some (offset_minutes z), refl, h)

  minus_is : (n : ℕ) → same r unknown_text ≡ false → r ≡ code "-" ∷ clock_text n → Is (known_offset (neg_ℤ (pos n)))
  unfolding offset_text minutes_text
  minus_is zero f e = absurd (false≢true (sym f ∙ ap (λ (l : List ℕ). same l unknown_text) (e ∙ no_clock) ∙ same_refl unknown_text))
  minus_is (suc n) f e = known (negsuc n) (inl e)

  -- six bytes: a sign, hours and minutes
  signed_bytes : (c h m : ℕ) → 0 < c → get_or r 0 0 ≡ c → length r ≡ 6 → m ≤ 59 → read_digits 2 (drop 1 r) ≡ Some h
      → read_marked (code ":") (drop 3 r) ≡ Some m → r ≡ c ∷ clock_text (h * 60 + m)
  unfolding marked
  signed_bytes c h m k f n l a b =
      next_marked r (marked c h) 3 (code ":") m (lit< tt) (two_marked c h r k f a) b
      ∙ ap (λ (t : List ℕ). marked c h ++ marked (code ":") m ++ t) (drop_of_length-le r {i = 6} (omega arith))
      ∙ append-nil (marked c h ++ marked (code ":") m)
      ∙ ap (λ (t : List ℕ). c ∷ t) (clock_is h m l)

  signed_is : (h m : ℕ) → same r unknown_text ≡ false → length r ≡ 6 → read_digits 2 (drop 1 r) ≡ Some h
      → read_marked (code ":") (drop 3 r) ≡ Some m → Is (signed_clock (get_or r 0 0) h m)
  unfolding signed_clock offset_text
  signed_is h m f n a b =
      let c = get_or r 0 0 in
      on_test Is (ltb 59 m) (λ e. tt) (λ l.
      on_test Is (eqb c (code "+"))
      (λ e.
      known (pos (h * 60 + m))
      (inl (signed_bytes (code "+") h m (lit< tt) (eqb-true c (code "+") e) n (ltb-false 59 m l) a b ∙ plus_text (h * 60 + m)))) (λ p.
      on_test Is (eqb c (code "-"))
      (λ e. minus_is (h * 60 + m) f (signed_bytes (code "-") h m (lit< tt) (eqb-true c (code "-") e) n (ltb-false 59 m l) a b)) (λ q. tt)))

  clock_read : same r unknown_text ≡ false → Is (read_clock r)
  unfolding read_clock
  clock_read f =
      on_test Is (eqb (length r) 6) (λ n.
      on_value_lem Is (read_digits 2 (drop 1 r)) tt (λ h a.
      on_value_lem Is (read_marked (code ":") (drop 3 r)) tt (λ m b. signed_is h m f (eqb-true (length r) 6 n) a b))) (λ n. tt)

  offset_read : Is (read_offset r)
  unfolding read_offset offset_text minutes_text
  offset_read =
      on_test Is (same r unknown_text) (λ e. (None, refl, inl (same_is r unknown_text e))) (λ f.
      on_either Is (same r zero_text) (same r (ascii "Z")) (λ e. known (pos 0) (inl (same_is r zero_text e)))
      (λ e. known (pos 0) (inr (same_is r (ascii "Z") e, refl))) (clock_read f))

  -- the fields are those of the local time of an offset, of which r is a text
  pub offset_exact : (o : BuilderOffset) → read_offset r ≡ Some o → (l : Option OffsetMinutes) × (o ≡ from_local l) × OffsetFor l r
  offset_exact o e = subst Is e offset_read
