-- A text that is read as a timestamp is one of its texts, and the timestamp is an accepted one. Assumes nothing.
use mathlib.Core.Path.{◌≡◌, refl, sym, ap, subst, ◌∙◌}
use mathlib.Core.Logic.{inl, inr}
use mathlib.Core.List.{List, [], ◌++◌, append-nil, append_assoc}
use Prim.Native.Char.{code}
use Prim.Native.Nat.{ℕ, ◌≤◌}
use native.Mathlib.Omega.{arith}
use lib.Dec.{lit<, lit≤}
use lib.ListN.{length, drop, get_or, length-append, length-drop}
use Rattle.std.specs.Prelude.{Option, Some, None, Result, Ok, Err}
use Rattle.ion.specs.Text.Ascii.{ascii}
use Rattle.ion.specs.Numbers.Padded.{padded}
use Rattle.ion.specs.Pair.Offset.{WithinDay, raw_of, offset_of}
use Rattle.ion.specs.Pair.Word.{InRange}
use Rattle.std.specs.Result.{result_and}
use Rattle.ion.specs.Calls.Refusal.{number_of}
use Rattle.ion.specs.Calls.Build.{to_offset, given_time, local_time, packed_of, build_checks, build_pair, build_of}
use Rattle.ion.specs.Calls.Accepted.{InBounds, Accepted}
use Rattle.ion.specs.Calls.Check.{from_local}
use Rattle.ion.specs.Calls.Stages.{with_year, with_month, with_day, with_hour_and_minute, with_second, with_fraction, with_offset}
use Rattle.ion.specs.Text.Format.{marked, fraction_text, minutes_text, offset_text, fields_text, text_of}
use Rattle.ion.specs.Text.ReadText.{digit_run, read_digits, read_marked, digits_fraction, read_text, built_from, read_text_of}
use Rattle.ion.specs.declared.Fields.{Fields}
use Rattle.ion.specs.declared.Fraction.{Fraction}
use Rattle.ion.specs.declared.BuilderFields.{BuilderFields}
use Rattle.ion.specs.declared.Timestamp.{Timestamp}
use Rattle.ion.specs.declared.BuilderOffset.{BuilderOffset}
use Rattle.ion.specs.declared.offset.OffsetMinutes.{OffsetMinutes}
use Rattle.ion.specs.declared.refusal.Refusal.{Refusal}
use Rattle.ion.specs.declared.refusal.Refusal.TheVariants as refusal
use Rattle.ion.proofs.Offsets.{raw_and_back}
use Rattle.text.proofs.Digits.{length_padded}
use Rattle.packed.proofs.Words.{unpack_pack}
use Rattle.builder.proofs.Routed.{build_most}
use Rattle.builder.proofs.Times.{time_in_range, build_local}
use Rattle.timestamp.proofs.Valid.{build_accepted}
use Rattle.text_reader.specs.Texts.{TextFor, written, without_t, with_z}
use Rattle.text_reader.proofs.Forms.{on_value_lem, Holds, on_t, on_date, AtOffset, on_offset, AtDigits, on_second, read_staged}
use Rattle.text_reader.proofs.ExactDigits.{digits_exact, next_marked, fraction_exact}
use Rattle.text_reader.proofs.ReadBack.{text_back}
use Rattle.text_reader.proofs.ExactOffsets.{OffsetFor, offset_exact}

-- ---- what is built

-- the fields of the pair that is built, and their text
abbrev packed : BuilderFields → Fields
packed f = packed_of f (local_time f f.offset) (to_offset f.offset)

abbrev built_text : BuilderFields → List ℕ
built_text f = fields_text (packed f) f.attoseconds

build_range : (f : BuilderFields) → build_checks f ≡ Ok tt → InBounds f × InRange (packed f)
build_range f e =
    let p = build_local f e in
    let i = p.0 in
    (i, time_in_range f (local_time f f.offset) (to_offset f.offset) i p.1.time (omega (arith, p.1.to_year)) i.offset)

built_text_lem : (f : BuilderFields) → InRange (packed f) → text_of (build_pair f) ≡ built_text f
unfolding text_of build_pair
built_text_lem f r = ap (λ (g : Fields). fields_text g f.attoseconds) (unpack_pack (packed f) r)

-- ---- the texts that are read

module _ (s : List ℕ) where
  -- s is a text of what is built of the fields f
  abbrev Exact : BuilderFields → Type 0
  Exact f = InBounds f → (t : Timestamp) → text_of t ≡ built_text f → TextFor t s

  end_t_lem : (f : BuilderFields) (w r : List ℕ) → s ≡ w ++ r → built_text f ≡ w ++ ascii "T" → r ≡ ascii "T" → Exact f
  end_t_lem f w r b h e i t k = written (b ∙ ap (λ (l : List ℕ). w ++ l) e ∙ sym (k ∙ h))

  -- a full date without its T
  end_date_lem : (f : BuilderFields) (y mo d : ℕ) → let w = padded 4 y ++ marked (code "-") mo ++ marked (code "-") d in s ≡ w ++ drop 10 s
      → built_text f ≡ w ++ ascii "T" → drop 10 s ≡ [] → Exact f
  unfolding marked
  end_date_lem f y mo d b h e i t k =
      let month = padded 4 y ++ marked (code "-") mo in
      let date = month ++ marked (code "-") d in
      let all : s ≡ date = b ∙ ap (λ (l : List ℕ). date ++ l) e ∙ append-nil date in
      let ten : length s ≡ 10 = omega (
        arith,
        ap length all,
        ap length e,
        length-drop 10 s,
        length-append (padded 4 y) (marked (code "-") mo),
        length-append month (marked (code "-") d),
        length_padded 4 y,
        length_padded 2 mo,
        length_padded 2 d,
      ) in
      without_t ten (ap (λ (l : List ℕ). l ++ ascii "T") all ∙ sym (k ∙ h))

  -- the offset r after w, in which a fraction may stand
  end_offset_lem : (f : BuilderFields) (w r : List ℕ) → (f.digits ≤ 18 → s ≡ w ++ r)
      → ((l : Option OffsetMinutes) → fields_text (packed_of f (given_time f) l) f.attoseconds ≡ w ++ offset_text (offset_of (raw_of l)))
      → AtOffset Exact f r
  unfolding offset_text minutes_text
  end_offset_lem f w r b h o e =
      let x = offset_exact r o e in
      subst (λ (u : BuilderOffset). Exact (with_offset f u)) (sym x.1) (go x.0 x.2)
    where
      text : (l : Option OffsetMinutes) → WithinDay (to_offset (from_local l))
          → built_text (with_offset f (from_local l)) ≡ w ++ offset_text l
      text None d = h None
      text (Some m) d = h (Some m) ∙ ap (λ (x : Option OffsetMinutes). w ++ offset_text x) (raw_and_back (Some m) d)

      ends : (u : List ℕ) → f.digits ≤ 18 → r ≡ u → s ≡ w ++ u
      ends u d e = b d ∙ ap (λ (l : List ℕ). w ++ l) e

      go : (l : Option OffsetMinutes) → OffsetFor l r → Exact (with_offset f (from_local l))
      go l (inl e) i t k = written (ends (offset_text l) i.digits e ∙ sym (k ∙ text l i.offset))
      go l (inr (e, z)) i t k =
          with_z w (ends (ascii "Z") i.digits e) (sym (k ∙ text l i.offset ∙ ap (λ (x : Option OffsetMinutes). w ++ offset_text x) z))

  -- a point, digits and an offset after w
  end_digits_lem : (f : BuilderFields) (w r : List ℕ) → s ≡ w ++ r
      → ((x : Fraction) (l : Option OffsetMinutes)
      → fields_text (packed_of (with_fraction f x) (given_time f) l) x.attoseconds
      ≡ w ++ fraction_text x.digits x.attoseconds ++ offset_text (offset_of (raw_of l)))
      → get_or r 0 0 ≡ code "." → AtDigits Exact f (drop 1 r)
  end_digits_lem f w r b h p k =
      let n = digit_run (drop 1 r) in
      let x = digits_fraction n (drop 1 r) in
      let u = fraction_text x.digits x.attoseconds in
      let v = drop n (drop 1 r) in
      end_offset_lem (with_fraction f x) (w ++ u) v
      (λ l. b ∙ ap (λ (t : List ℕ). w ++ t) (fraction_exact r p k l) ∙ sym (append_assoc w u v)) (h x)

  all_exact : Holds Exact (read_text s)
  unfolding read_text fields_text fraction_text
  all_exact =
      let H = Holds Exact in
      on_value_lem H (read_digits 4 s) tt (λ y e.
      let w = padded 4 y in
      let b = digits_exact 4 y s (lit≤ tt) e in
      on_value_lem H (read_marked (code "-") (drop 4 s)) (on_t Exact _ (drop 4 s) (end_t_lem _ w (drop 4 s) b refl)) (λ mo e.
      let b = next_marked s w 4 (code "-") mo (lit< tt) b e in
      let w = w ++ marked (code "-") mo in
      on_value_lem H (read_marked (code "-") (drop 7 s)) (on_t Exact _ (drop 7 s) (end_t_lem _ w (drop 7 s) b refl)) (λ d e.
      let b = next_marked s w 7 (code "-") d (lit< tt) b e in
      let w = w ++ marked (code "-") d in
      on_value_lem H (read_marked (code "T") (drop 10 s))
      (on_date Exact _ (drop 10 s) (end_date_lem _ y mo d b refl) (end_t_lem _ w (drop 10 s) b refl)) (λ h e.
      let b = next_marked s w 10 (code "T") h (lit< tt) b e in
      let w = w ++ marked (code "T") h in
      on_value_lem H (read_marked (code ":") (drop 13 s)) tt (λ mi e.
      let b = next_marked s w 13 (code ":") mi (lit< tt) b e in
      let w = w ++ marked (code ":") mi in
      let f = with_hour_and_minute (with_day (with_month (with_year y) mo) d) h mi in
      on_value_lem H (read_marked (code ":") (drop 16 s))
      (on_offset Exact f (drop 16 s) (end_offset_lem f w (drop 16 s) (λ l. b) (λ o. refl))) (λ n e.
      let b = next_marked s w 16 (code ":") n (lit< tt) b e in
      let w = w ++ marked (code ":") n in
      let f = with_second f n in
      on_second Exact f (drop 19 s)
      (end_offset_lem f w (drop 19 s) (λ l. b) (λ o. ap (λ (l : List ℕ). l ++ offset_text (offset_of (raw_of o))) (append-nil w)))
      (end_digits_lem f w (drop 19 s) b (λ x o. refl))))))))

-- ---- what is answered

-- a refusal, or a form whose fields are built
on_built : (P : Result Timestamp Refusal → Type 0) (s : List ℕ) → ((r : Refusal) → P (Err r))
    → ((f : BuilderFields) → read_text s ≡ Some f → build_checks f ≡ Ok tt → P (Ok (build_pair f))) → P (read_text_of s)
unfolding read_text_of build_of
on_built P s h k = go (read_text s) k
  where
    built : (f : BuilderFields) (x : Result Unit Refusal) → (x ≡ Ok tt → P (Ok (build_pair f))) → P (result_and x (Ok (build_pair f)))
    built f (Ok u) k = k refl
    built f (Err r) k = h r

    go : (x : Option BuilderFields) → ((f : BuilderFields) → x ≡ Some f → build_checks f ≡ Ok tt → P (Ok (build_pair f))) → P (built_from x)
    go None k = h refusal.Form
    go (Some f) k = built f (build_checks f) (k f refl)

-- a text in none of the forms is refused as one, and no other is
pub broken_exact : (s : List ℕ)
    → (read_text_of s ≡ Err refusal.Form → read_text s ≡ None) × (read_text s ≡ None → read_text_of s ≡ Err refusal.Form)
unfolding read_text_of build_of
broken_exact s = (go (read_text s), ap built_from)
  where
    other : (f : BuilderFields) (x : Result Unit Refusal) → build_checks f ≡ x → result_and x (Ok (build_pair f)) ≡ Err refusal.Form → ⊥
    other f (Ok u) b e = cc
    other f (Err r) b e =
        let n = build_most f b in
        let z : r ≡ refusal.Form = cc in
        let m : number_of r ≡ 18 = ap number_of z in
        omega arith

    go : (x : Option BuilderFields) → built_from x ≡ Err refusal.Form → x ≡ None
    go None e = refl
    go (Some f) e = absurd (other f (build_checks f) refl e)

-- what is read as a timestamp is one of its texts
pub text_exact : (t : Timestamp) (s : List ℕ) → read_text_of s ≡ Ok t → TextFor t s
text_exact t s =
    on_built (λ (b : Result Timestamp Refusal). b ≡ Ok t → TextFor t s) s (λ r e. absurd cc) (λ f q z e.
    let r = build_range f z in
    let u : build_pair f ≡ t = cc in
    subst (λ (u : Timestamp). TextFor u s) u
    (subst (Holds (Exact s)) q (all_exact s) r.0 (build_pair f) (built_text_lem f r.1)))

pub read_accepted : (t : Timestamp) (s : List ℕ) → read_text_of s ≡ Ok t → Accepted t
read_accepted t s =
    on_built (λ (b : Result Timestamp Refusal). b ≡ Ok t → Accepted t) s (λ r e. absurd cc) (λ f q z e.
    let u : build_pair f ≡ t = cc in
    subst Accepted u (build_accepted f (read_staged s f q) z))

-- what is read, written again, is read again as the same timestamp
pub read_again : (t : Timestamp) (s : List ℕ) → read_text_of s ≡ Ok t → read_text_of (text_of t) ≡ Ok t
read_again t s e = text_back t (read_accepted t s e)
