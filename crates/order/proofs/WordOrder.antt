-- With the same offset two timestamps lie as the dates and times of their packed words do. Assumes nothing.
use mathlib.Core.Path.{◌≡◌, sym, ap, ap₂, ◌∙◌}
use mathlib.Core.Logic.{◌⊎◌, inl, inr}
use Prim.Native.Nat.{ℕ, ◌+◌, ◌*◌, ◌/◌, ◌%◌, ◌^◌, ◌<◌}
use native.Mathlib.Omega.{arith}
use borrow.Author.Differences.{up, down}
use Rattle.std.specs.Ordering.{nat_cmp}
use Rattle.ion.specs.Pair.Offset.{raw_offset, offset_of, minutes_of}
use Rattle.ion.specs.Calendar.Dates.{IsDate, Earlier, day_number}
use Rattle.ion.specs.Pair.Pair.{word_in}
use Rattle.ion.specs.Calls.Accepted.{date_in, Accepted}
use Rattle.ion.specs.Pair.Count.{offset_in, count_of}
use Rattle.ion.specs.Calls.Order.{order_of_pairs}
use Rattle.ion.specs.Pair.Word.{InRange, word_of, fields_of}
use Rattle.ion.specs.declared.Date.{Date}
use Rattle.ion.specs.declared.Fields.{Fields}
use Rattle.ion.specs.declared.Timestamp.{Timestamp}
use Rattle.calendar.proofs.Dates.{month_of_lem, day_of_lem, day_number_mono, date_order}
use Rattle.timestamp.proofs.Valid.{valid_in_range, accepted_word}
use Rattle.order.specs.Local.{IsLocalFields}
use Rattle.order.proofs.Orders.{order_less, order_more, order_same, order_alike, order_shift, pairs_alike}
use Rattle.order.proofs.CountsInSeconds.{pairs_like, digits_alike}
use Rattle.order.proofs.Clocks.{valid_local, utc_seconds, utc_parts}

-- ---- dates

-- the date's part of a word
abbrev date_word : Date → ℕ
date_word t = (t.year * 2 ^ 4 + t.month) * 2 ^ 5 + t.day

word_earlier : (s t : Date) → IsDate s → IsDate t → Earlier s t → date_word s < date_word t
word_earlier s t p q (inl h) = omega (arith, month_of_lem s p, day_of_lem s p)
word_earlier s t p q (inr (e, inl h)) = omega (arith, day_of_lem s p)
word_earlier s t p q (inr (e, inr (f, h))) = omega arith

date_alike : (s t : Date) → IsDate s → IsDate t → nat_cmp (date_word s) (date_word t) ≡ nat_cmp (day_number s) (day_number t)
date_alike s t p q = go (date_order s t)
  where
    go : Earlier s t ⊎ ((s ≡ t) ⊎ Earlier t s) → nat_cmp (date_word s) (date_word t) ≡ nat_cmp (day_number s) (day_number t)
    go (inl h) = order_less _ _ (word_earlier s t p q h) ∙ sym (order_less _ _ (day_number_mono s t p q h))
    go (inr (inl e)) = order_same _ _ (ap date_word e) ∙ sym (order_same _ _ (ap day_number e))
    go (inr (inr h)) = order_more _ _ (word_earlier t s q p h) ∙ sym (order_more _ _ (day_number_mono t s q p h))

-- ---- dates and times

-- the date and the hour, and the minute, and the second
abbrev hour_word : Fields → ℕ
hour_word f = date_word (date_in f) * 2 ^ 5 + f.hour

abbrev minute_word : Fields → ℕ
minute_word f = hour_word f * 2 ^ 6 + f.minute

abbrev time_word : Fields → ℕ
time_word f = minute_word f * 2 ^ 6 + f.second

-- whole hours, minutes and seconds by the local clock
abbrev hours_in : Fields → ℕ
hours_in f = day_number (date_in f) * 24 + f.hour

abbrev minutes_in : Fields → ℕ
minutes_in f = hours_in f * 60 + f.minute

abbrev local_seconds : Fields → ℕ
local_seconds f = minutes_in f * 60 + f.second

module _ (f g : Fields) (p : IsLocalFields f) (q : IsLocalFields g) where
  hours_alike : nat_cmp (hour_word f) (hour_word g) ≡ nat_cmp (hours_in f) (hours_in g)
  hours_alike =
      let s = date_in f in
      let t = date_in g in
      digits_alike (2 ^ 5) 24 (date_word s) (date_word t) (day_number s) (day_number t) f.hour g.hour
      (omega arith) p.time.hours q.time.hours (date_alike s t p.time.date q.time.date)

  minutes_alike : nat_cmp (minute_word f) (minute_word g) ≡ nat_cmp (minutes_in f) (minutes_in g)
  minutes_alike =
      digits_alike (2 ^ 6) 60 (hour_word f) (hour_word g) (hours_in f) (hours_in g) f.minute g.minute
      (omega arith) p.time.minutes q.time.minutes hours_alike

  time_alike : nat_cmp (time_word f) (time_word g) ≡ nat_cmp (local_seconds f) (local_seconds g)
  time_alike =
      digits_alike (2 ^ 6) 60 (minute_word f) (minute_word g) (minutes_in f) (minutes_in g) f.second g.second
      (omega arith) (omega (arith, p.second)) (omega (arith, q.second)) minutes_alike

  -- what the same offset takes from both does not show
  offset_alike : offset_in f ≡ offset_in g → nat_cmp (time_word f) (time_word g) ≡ nat_cmp (utc_seconds f) (utc_seconds g)
  offset_alike e =
      let u = ap up e in
      let d = ap down e in
      time_alike
      ∙ order_shift (local_seconds f) (local_seconds g) (utc_seconds f) (utc_seconds g) (omega (arith, utc_parts f p, utc_parts g q))

-- ---- words cut at the second

-- the year to the second
abbrev pub cut : ℕ → ℕ
cut w = w / 2 ^ 24

cut_word : (f : Fields) → InRange f → cut (word_of f) ≡ time_word f
unfolding word_of
cut_word f h = omega arith

-- what is cut off: the precision and what stands below
abbrev low_word : Fields → ℕ
low_word f = ((f.precision * 2 ^ 5 + f.digits) * 2 ^ 12 + f.offset.0) * 2 ^ 4

low_word_lem : (f : Fields) → InRange f → word_of f % 2 ^ 24 ≡ low_word f
unfolding word_of
low_word_lem f h = omega arith

-- where that is the same the rest decides
same_low : (v w : ℕ) → v % 2 ^ 24 ≡ w % 2 ^ 24 → nat_cmp v w ≡ nat_cmp (cut v) (cut w)
same_low v w e = order_alike v w (cut v) (cut w) (λ h. omega arith) (λ h. omega arith) (λ h. omega arith)

-- ---- accepted timestamps

accepted_cut : {s : Timestamp} → Accepted s → cut (word_in s) ≡ time_word (fields_of (word_in s))
accepted_cut p = ap cut (sym (accepted_word p)) ∙ cut_word _ (valid_in_range p.fields)

accepted_low : {s : Timestamp} → Accepted s → word_in s % 2 ^ 24 ≡ low_word (fields_of (word_in s))
accepted_low p = ap (λ (w : ℕ). w % 2 ^ 24) (sym (accepted_word p)) ∙ low_word_lem _ (valid_in_range p.fields)

module _ (s t : Timestamp) (p : Accepted s) (q : Accepted t) (e : (fields_of (word_in s)).offset.0 ≡ (fields_of (word_in t)).offset.0) where
  -- the cut words lie as the instants do
  cut_alike : nat_cmp (cut (word_in s)) (cut (word_in t))
      ≡ nat_cmp (utc_seconds (fields_of (word_in s))) (utc_seconds (fields_of (word_in t)))
  cut_alike =
      let o = ap (λ (n : ℕ). minutes_of (offset_of (raw_offset n))) e in
      ap₂ nat_cmp (accepted_cut p) (accepted_cut q) ∙ offset_alike _ _ (valid_local p.fields) (valid_local q.fields) o

  pub cut_order : order_of_pairs (cut (word_in s)) s.attoseconds (cut (word_in t)) t.attoseconds ≡ nat_cmp (count_of s) (count_of t)
  unfolding count_of
  cut_order =
      pairs_like (10 ^ 18) (utc_seconds (fields_of (word_in s))) (utc_seconds (fields_of (word_in t))) s.attoseconds t.attoseconds
      p.fields.attoseconds q.fields.attoseconds (cut (word_in s)) (cut (word_in t)) cut_alike

  -- with the same precision and digits too, whole words do
  pub word_order :
      (fields_of (word_in s)).precision ≡ (fields_of (word_in t)).precision →
      (fields_of (word_in s)).digits ≡ (fields_of (word_in t)).digits →
      order_of_pairs (word_in s) s.attoseconds (word_in t) t.attoseconds ≡ nat_cmp (count_of s) (count_of t)
  word_order h k =
      let v = word_in s in
      let w = word_in t in
      let l = accepted_low p in
      let r = accepted_low q in
      pairs_alike v w (cut v) (cut w) s.attoseconds t.attoseconds (same_low v w (omega arith)) ∙ cut_order
