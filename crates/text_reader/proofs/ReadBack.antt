-- The texts of an accepted timestamp are read back as it. Assumes nothing.
use mathlib.Core.Path.{◌≡◌, refl, sym, ap, ◌∙◌}
use mathlib.Core.List.{List, [], ◌∷◌, ◌++◌, append_assoc, append-nil, append_cancel_right}
use Prim.Native.Char.{code}
use Prim.Native.Nat.{ℕ, zero, suc, ◌/◌, ◌≤◌, ◌<◌, min}
use native.Mathlib.Omega.{arith}
use borrow.Author.Tests.{ne_eqb, lt-ltb}
use lib.Dec.{lit≤}
use lib.ListN.{length, take, drop, get_or, length-append}
use lib.Seq.{take_at, drop_at}
use Rattle.std.specs.Prelude.{Some, None, Ok}
use Rattle.places.specs.Places.{places_on, places}
use Rattle.places.proofs.Laws.{length_places}
use Rattle.ion.specs.Text.Ascii.{ascii}
use Rattle.ion.specs.Numbers.Padded.{digit, last_digits, padded}
use Rattle.ion.specs.Pair.Word.{fields_of}
use Rattle.ion.specs.Pair.Pair.{word_in, packed_pair}
use Rattle.ion.specs.Pair.Offset.{offset_of}
use Rattle.ion.specs.Pair.Fraction.{scale}
use Rattle.ion.specs.Calls.Stages.{with_year, with_month, with_day, with_hour_and_minute, with_second, with_fraction, with_offset}
use Rattle.ion.specs.Calls.Check.{from_local, fraction_at, rebuilt}
use Rattle.ion.specs.Calls.Accepted.{Valid, Accepted}
use Rattle.ion.specs.Text.Format.{marked, fraction_text, zero_text, offset_text, fields_text, text_of}
use Rattle.ion.specs.Value.ReadValue.{same}
use Rattle.ion.specs.Text.ReadText.{digit_run, read_digits, read_marked, read_offset, ended}
use Rattle.ion.specs.Text.ReadText.{end_offset, end_t, end_date, end_digits, end_second}
use Rattle.ion.specs.Text.ReadText.{read_text, built_from, read_text_of}
use Rattle.ion.specs.declared.Fields.{Fields}
use Rattle.ion.specs.declared.BuilderFields.{BuilderFields}
use Rattle.ion.specs.declared.Timestamp.{Timestamp}
use Rattle.text.proofs.Digits.{padded_digits}
use Rattle.fraction.proofs.Scales.{units_lt}
use Rattle.timestamp.proofs.Valid.{valid_in_range, valid_offset, accepted_word}
use Rattle.timestamp.proofs.CheckedFields.{rebuilt_builds}
use Rattle.timestamp_text.specs.TextParts.{to_month, to_day, to_minute, to_second, to_fraction, text_length}
use Rattle.timestamp_text.proofs.Lengths.{year_form, month_form, day_form, minute_form, second_form, length_offset, length_text}
use Rattle.text_reader.specs.Texts.{TextFor, written, without_t, with_z}
use Rattle.text_reader.proofs.Numbers.{run_digits, value_digits, read_digits_lem, read_marked_lem}
use Rattle.text_reader.proofs.Offsets.{read_offset_lem, Begins, z_begins, offset_begins}

-- a mark and a number of two digits, as they are written and read
record TwoDigits (c n : ℕ) : Type 0 where
  text : marked c n ≡ c ∷ last_digits 2 n
  read : (t : List ℕ) → read_marked c (c ∷ last_digits 2 n ++ t) ≡ Some n

two_digits : (c n : ℕ) → n < 100 → TwoDigits c n
unfolding marked
two_digits c n h = record { text = rw (padded_digits 2 n (lit≤ tt) h); read = λ t. read_marked_lem c n t h }

-- only a full date with its T has eleven bytes
date_precision : (p d : ℕ) → p ≤ 4 → text_length p d ≡ 11 → p ≡ 2
date_precision zero d l e = absurd (omega arith)
date_precision (suc zero) d l e = absurd (omega arith)
date_precision (suc (suc zero)) d l e = refl
date_precision (suc (suc (suc zero))) d l e = absurd (omega arith)
date_precision (suc (suc (suc (suc zero)))) d l e = absurd (omega arith)
date_precision (suc (suc (suc (suc (suc p))))) d l e = absurd (omega arith)

-- lists that are equal, and end in lists of one length
same_end : (u w x y : List ℕ) → length x ≡ length y → u ++ x ≡ w ++ y → (u ≡ w) × (x ≡ y)
same_end u w x y n e =
    let m : length u ≡ length w = omega (arith, length-append u x, length-append w y, ap length e) in (
      sym (take_at u x (length w) m) ∙ ap (take (length w)) e ∙ take_at w y (length w) refl,
      sym (drop_at u x (length w) m) ∙ ap (drop (length w)) e ∙ drop_at w y (length w) refl,
    )

-- how a text ends: in a T, or in an offset, in place of which any other is read
data Ends (f : Fields) (a : ℕ) : Type 0 where
  in_t : (u : List ℕ) → fields_text f a ≡ u ++ ascii "T" → read_text (u ++ ascii "T") ≡ Some (rebuilt f a) → Ends f a
  in_offset : (u : List ℕ) (g : BuilderFields) → fields_text f a ≡ u ++ offset_text (offset_of f.offset)
      → ((r : List ℕ) → Begins r → read_text (u ++ r) ≡ end_offset g r)
      → with_offset g (from_local (offset_of f.offset)) ≡ rebuilt f a → Ends f a

module _ (f : Fields) (a : ℕ) (v : Valid f a) where
  year : padded 4 f.year ≡ last_digits 4 f.year
  year = padded_digits 4 f.year (lit≤ tt) (omega arith)

  read_year : (t : List ℕ) → read_digits 4 (last_digits 4 f.year ++ t) ≡ Some f.year
  read_year t = read_digits_lem 4 f.year t (omega arith)

  month : TwoDigits (code "-") f.month
  month = two_digits (code "-") f.month (omega (arith, valid_in_range v))

  day : TwoDigits (code "-") f.day
  day = two_digits (code "-") f.day (omega (arith, valid_in_range v))

  hour : TwoDigits (code "T") f.hour
  hour = two_digits (code "T") f.hour (omega arith)

  minute : TwoDigits (code ":") f.minute
  minute = two_digits (code ":") f.minute (omega arith)

  second : TwoDigits (code ":") f.second
  second = two_digits (code ":") f.second (omega arith)

  abbrev at_month : BuilderFields
  at_month = with_month (with_year f.year) f.month

  abbrev at_day : BuilderFields
  at_day = with_day at_month f.day

  abbrev at_minute : BuilderFields
  at_minute = with_hour_and_minute at_day f.hour f.minute

  abbrev at_second : BuilderFields
  at_second = with_second at_minute f.second

  -- ---- what is read of the text up to a field, and then t

  module _ (t : List ℕ) where
    year_then : read_marked (code "-") t ≡ None → read_text (padded 4 f.year ++ t) ≡ end_t (with_year f.year) t
    unfolding places places_on read_text
    year_then n = rw year (rw (read_year _, n))

    month_then : read_marked (code "-") t ≡ None → read_text (to_month f ++ t) ≡ end_t at_month t
    unfolding places places_on read_text
    month_then n = rw (year, month.text) (rw (read_year _, month.read _, n))

    day_then : read_marked (code "T") t ≡ None → read_text (to_day f ++ t) ≡ end_date at_day t
    unfolding places places_on read_text
    day_then n = rw (year, month.text, day.text) (rw (read_year _, month.read _, day.read _, n))

    minute_then : read_marked (code ":") t ≡ None → read_text (to_minute f ++ t) ≡ end_offset at_minute t
    unfolding places places_on read_text
    minute_then n =
        rw (year, month.text, day.text, hour.text, minute.text)
        (rw (read_year _, month.read _, day.read _, hour.read _, minute.read _, n))

    second_then : read_text (to_second f ++ t) ≡ end_second at_second t
    unfolding places places_on read_text
    second_then =
        rw (year, month.text, day.text, hour.text, minute.text, second.text)
        (rw (read_year _, month.read _, day.read _, hour.read _, minute.read _, second.read _))

  -- a fraction of d digits, or none, and then what an offset begins with
  abbrev at_fraction : ℕ → BuilderFields
  at_fraction d = with_fraction at_second (record { attoseconds = fraction_at 4 d a; digits = d })

  fraction_then : (d : ℕ) → d ≤ 18 → (t : List ℕ) → Begins t → end_second at_second (fraction_text d a ++ t) ≡ end_offset (at_fraction d) t
  unfolding fraction_text end_second end_digits
  fraction_then zero l t b = rw b.no_point
  fraction_then (suc n) l t b =
      let d = suc n in
      let c = a / scale d in
      let h = units_lt d a l v.attoseconds in
      let run : digit_run (last_digits d c ++ t) ≡ d = run_digits d c t ∙ omega (arith, b.no_digit) in
      let rest = drop_at (last_digits d c) t d (length_places 10 digit d c) in
      let e₁ : min d 18 ≡ d = omega arith in
      let e₂ : min d 19 ≡ d = omega arith in
      rw (ne_eqb d 0 (omega arith), padded_digits d c (omega arith) h)
      (rw (run, ne_eqb d 0 (omega arith), lt-ltb 0 d (omega arith), e₁, e₂, value_digits d c t h, rest))

  ends : Ends f a
  unfolding same end_t end_date read_marked read_digits digit_run
  ends = go f.precision v.precision refl
    where
      go : (p : ℕ) → p ≤ 4 → f.precision ≡ p → Ends f a
      go zero l e = in_t (padded 4 f.year) (year_form f a e) (year_then (ascii "T") refl ∙ rw e)
      go (suc zero) l e = in_t (to_month f) (month_form f a e) (month_then (ascii "T") refl ∙ rw e)
      go (suc (suc zero)) l e = in_t (to_day f) (day_form f a e) (day_then (ascii "T") refl ∙ rw e)
      go (suc (suc (suc zero))) l e =
          in_offset (to_minute f) at_minute (minute_form f a e) (λ r b. minute_then r b.no_mark) (rw e)
      go (suc (suc (suc (suc zero)))) l e =
          in_offset (to_fraction f a) (at_fraction f.digits)
          (second_form f a (λ n. omega arith) (λ n. omega arith) (λ n. omega arith) (λ n. omega arith))
          (λ r b.
          ap read_text (append_assoc (to_second f) (fraction_text f.digits a) r)
          ∙ second_then (fraction_text f.digits a ++ r)
          ∙ fraction_then f.digits v.digits r b)
          (rw e)
      go (suc (suc (suc (suc (suc p))))) l e = absurd (omega arith)

  -- what the writer writes
  pub read_text_lem : read_text (fields_text f a) ≡ Some (rebuilt f a)
  unfolding end_offset
  read_text_lem = go ends
    where
      go : Ends f a → read_text (fields_text f a) ≡ Some (rebuilt f a)
      go (in_t u e r) = ap read_text e ∙ r
      go (in_offset u g e r w) =
          let o = offset_of f.offset in
          ap read_text e ∙ r (offset_text o) (offset_begins o) ∙ ap (ended g) (read_offset_lem o (valid_offset v)) ∙ ap Some w

  -- a full date without its T
  read_date : (s : List ℕ) → length s ≡ 10 → s ++ ascii "T" ≡ fields_text f a → read_text s ≡ Some (rebuilt f a)
  unfolding same end_date read_marked
  read_date s n e =
      let k : text_length f.precision f.digits ≡ 11 = omega (arith, length-append s (ascii "T"), ap length e, length_text f a v) in
      let p = date_precision f.precision f.digits v.precision k in
      ap read_text (append_cancel_right s (to_day f) (ascii "T") (e ∙ day_form f a p) ∙ sym (append-nil (to_day f)))
      ∙ day_then [] refl
      ∙ rw p

  -- Z in place of +00:00
  read_utc : (u : List ℕ) → u ++ zero_text ≡ fields_text f a → read_text (u ++ ascii "Z") ≡ Some (rebuilt f a)
  unfolding end_offset read_offset same
  read_utc u e = go ends
    where
      go : Ends f a → read_text (u ++ ascii "Z") ≡ Some (rebuilt f a)
      go (in_t w x r) =
          let k = same_end (u ++ ascii "+00:0") w (ascii "0") (ascii "T") refl (append_assoc u (ascii "+00:0") (ascii "0") ∙ e ∙ x) in
          absurd (omega (arith, ap (λ (s : List ℕ). get_or s 0 0) k.1))
      go (in_offset w g x r y) =
          let o = offset_of f.offset in
          let k = same_end u w zero_text (offset_text o) (sym (length_offset o (valid_offset v))) (e ∙ x) in
          ap (λ (s : List ℕ). read_text (s ++ ascii "Z")) k.0
          ∙ r (ascii "Z") z_begins
          ∙ ap (end_offset g) k.1
          ∙ sym (r (offset_text o) (offset_begins o))
          ∙ ap read_text (sym x)
          ∙ read_text_lem

-- ---- the packed pair

module _ (t : Timestamp) (p : Accepted t) where
  read_as : (s : List ℕ) → read_text s ≡ Some (rebuilt (fields_of (word_in t)) t.attoseconds) → read_text_of s ≡ Ok t
  unfolding read_text_of
  read_as s e =
      ap built_from e
      ∙ rebuilt_builds p.fields
      ∙ ap (λ (n : ℕ). Ok (packed_pair n t.attoseconds)) (accepted_word p)

  pub text_back : read_text_of (text_of t) ≡ Ok t
  unfolding text_of
  text_back = read_as (text_of t) (read_text_lem _ _ p.fields)

-- each of its texts
pub texts_read : (t : Timestamp) (s : List ℕ) → Accepted t → TextFor t s → read_text_of s ≡ Ok t
unfolding text_of
texts_read t s p (written e) = ap read_text_of e ∙ text_back t p
texts_read t s p (without_t n e) = read_as t p s (read_date _ _ p.fields s n e)
texts_read t s p (with_z r e x) = ap read_text_of e ∙ read_as t p (r ++ ascii "Z") (read_utc _ _ p.fields r x)

-- a text is that of one timestamp
pub texts_inj : (s t : Timestamp) (x : List ℕ) → Accepted s → Accepted t → TextFor s x → TextFor t x → s ≡ t
texts_inj s t x p q h k = let e : Ok s ≡ Ok t = sym (texts_read s x p h) ∙ texts_read t x q k in cc

pub text_inj : (s t : Timestamp) → Accepted s → Accepted t → text_of s ≡ text_of t → s ≡ t
text_inj s t p q e = texts_inj s t (text_of s) p q (written refl) (written e)
