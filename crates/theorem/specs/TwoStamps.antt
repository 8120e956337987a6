-- What demand 3 says of any two accepted timestamps, sentence by sentence, of the definitions that the contracts cite. Assumes nothing.
use Rattle.std.specs.Prelude.{◌≡◌, ◌⊎◌, true, List, ◌++◌, ℕ, ◌+◌, ◌*◌, ◌^◌, ◌≤◌}
use Rattle.std.specs.Prelude.{◌<◌, ℤ, pos, negsuc, nat_abs, ◌-ℤ◌, ◌*ℤ◌, length, get_or, take, drop, Result, Ok, IsOk, IsOkAnd, IfOk}
use Rattle.std.specs.declared.cmp.Ordering.{Ordering}
use Rattle.std.specs.declared.cmp.Ordering.TheVariants.{Less, Equal, Greater}
use Rattle.ion.specs.Pair.Pair.{word_in}
use Rattle.ion.specs.Pair.Word.{fields_of}
use Rattle.ion.specs.Calls.Output.{over, put_after, wrote_after}
use Rattle.ion.specs.Calendar.Shift.{minute_number}
use Rattle.ion.specs.Calls.Check.{given_at, check_of}
use Rattle.ion.specs.Calls.Accepted.{time_in}
use Rattle.ion.specs.Pair.Count.{attoseconds_in, offset_in, count_of}
use Rattle.ion.specs.Calls.Order.{cmp_of, eq_of, distance_of}
use Rattle.ion.specs.Text.Format.{text_of}
use Rattle.ion.specs.Text.ReadText.{read_text_of}
use Rattle.ion.specs.Value.Encode.{value_of}
use Rattle.ion.specs.Value.ReadValue.{read_value}
use Rattle.ion.specs.Value.Forms.{Form}
use Rattle.ion.specs.Value.ReadPaddedValue.{read_padded_value}
use Rattle.ion.specs.declared.Timestamp.{Timestamp}
use Rattle.ion.specs.declared.Fields.{Fields}
use Rattle.ion.specs.declared.refusal.Refusal.{Refusal}
use Rattle.text_reader.specs.Texts.{TextFor}
use Rattle.scans.specs.Number.{largest}
use Rattle.scans.specs.Scan.{scan_bytes, scan_check, read_scan}
use Rattle.scans.specs.declared.Layout.TheVariants.{New}
use Rattle.scans.specs.declared.Scan.{Scan}

-- the fields, with the first value of each that the precision does not have
abbrev pub with_first_values : Fields → Fields
with_first_values f =
    record {
      year = f.year;
      month = given_at 1 f.precision f.month 1;
      day = given_at 2 f.precision f.day 1;
      hour = given_at 3 f.precision f.hour 0;
      minute = given_at 3 f.precision f.minute 0;
      second = given_at 4 f.precision f.second 0;
      precision = f.precision;
      digits = f.digits;
      offset = f.offset;
    }

-- the UTC count in signed numbers: the local count less the offset's attoseconds
abbrev pub utc_count_in : Fields → ℕ → ℤ
utc_count_in f a = pos (attoseconds_in (minute_number (time_in f)) f.second a) -ℤ offset_in f *ℤ pos (60 * 10 ^ 18)

abbrev pub utc_count : Timestamp → ℤ
utc_count s = utc_count_in (with_first_values (fields_of (word_in s))) s.attoseconds

-- an order, and the sign of a signed number
pub data SignOf : Ordering → ℤ → Type 0 where
  below : (n : ℕ) → SignOf Less (negsuc n)
  none : SignOf Equal (pos 0)
  above : (n : ℕ) → 0 < n → SignOf Greater (pos n)

-- the words or the attoseconds are not the same
abbrev pub Differ : Timestamp → Timestamp → Type 0
Differ a b = (word_in a ≡ word_in b → ⊥) ⊎ (a.attoseconds ≡ b.attoseconds → ⊥)

-- what a writer of the bytes b that first makes the check c does in any buffer with room for them: it answers their number, and
-- writes them
abbrev pub Writes : Result Timestamp Refusal → List ℕ → Type 0
Writes c b =
    (d : List ℕ) (at : ℕ) → at + length b ≤ length d → (wrote_after c d at b ≡ Ok (length b)) × (put_after c d at b ≡ over d at b)

-- P holds of the bytes that such a writer wrote, and of the number of bytes that it answered
abbrev pub AsWritten : Result Timestamp Refusal → List ℕ → (List ℕ → ℕ → Type 0) → Type 0
AsWritten c b P = (d : List ℕ) (at : ℕ) → IfOk (wrote_after c d at b) (λ n. P (take n (drop at (put_after c d at b))) n)

-- what the value writer wrote is read back with any bytes or none after it: the pair, and as many taken as were written
abbrev pub ReadsBack : Timestamp → Type 0
ReadsBack s = AsWritten (check_of s) (value_of s) (λ v n. (r : List ℕ) → read_value (v ++ r) ≡ Ok (s, n))

-- what the text writer wrote, and nothing after it, is read back: the pair
abbrev pub TextReadsBack : Timestamp → Type 0
TextReadsBack s = AsWritten (check_of s) (text_of s) (λ x n. read_text_of x ≡ Ok s)

-- what the scan writer wrote is read back with any bytes or none after it: the scan, and as many taken as were written
abbrev pub ScanReadsBack : Scan → Type 0
ScanReadsBack x = AsWritten (scan_check x) (scan_bytes x) (λ v n. (r : List ℕ) → read_scan New (v ++ r) ≡ Ok (x, n))

-- x is a scan of the timestamp s, with any site, tag and guard up to 4,294,967,295
pub record IsScan (s : Timestamp) (x : Scan) : Type 0 where
  pub site : x.site ≤ largest
  pub tag : x.tag ≤ largest
  pub guard : x.guard ≤ largest
  pub stamp : x.stamp ≡ s

-- P holds of each
abbrev pub EachScan : Timestamp → (Scan → Type 0) → Type 0
EachScan s P = (x : Scan) → IsScan s x → P x

-- P holds of any scan of a and any scan of b
abbrev pub EachTwo : Timestamp → Timestamp → (Scan → Scan → Type 0) → Type 0
EachTwo a b P = EachScan a (λ x. EachScan b (λ y. P x y))

-- the texts that are read as the timestamp s are its own, and no others
abbrev pub ReadFromTexts : Timestamp → Type 0
ReadFromTexts s = (x : List ℕ) → (read_text_of x ≡ Ok s → TextFor s x) × (TextFor s x → read_text_of x ≡ Ok s)

-- P holds of every form of the value of the timestamp s
abbrev pub EachForm : Timestamp → (List ℕ → Type 0) → Type 0
EachForm s P = (x : List ℕ) → Form s x → P x

-- each form is read back with any bytes or none after it: the pair, and as many taken as the form has
abbrev pub FormsReadBack : Timestamp → Type 0
FormsReadBack s = EachForm s (λ x. (r : List ℕ) → read_padded_value (x ++ r) ≡ Ok (s, length x))

-- the bytes that are taken for the timestamp s are one of its forms
abbrev pub ReadFromForms : Timestamp → Type 0
ReadFromForms s = (x : List ℕ) (n : ℕ) → ((i : ℕ) → get_or x i 0 < 256) → read_padded_value x ≡ Ok (s, n) → Form s (take n x)

-- the value that is written is a form, no form is shorter, and another is longer
abbrev pub ShortestForm : Timestamp → Type 0
ShortestForm s =
    Form s (value_of s) × EachForm s (λ x. (length (value_of s) ≤ length x) × (length x ≡ length (value_of s) → x ≡ value_of s))

-- both are accepted, and P holds of their values
abbrev pub BothOk : {A B : Type 0} → Result A Refusal → Result B Refusal → (A → B → Type 0) → Type 0
BothOk r q P = IsOkAnd r (λ x. IsOkAnd q (λ y. P x y))

-- x and y give the answers of a and b
abbrev pub SameAnswers : Timestamp → Timestamp → Timestamp → Timestamp → Type 0
SameAnswers x y a b = (distance_of x y ≡ distance_of a b) × (cmp_of x y ≡ cmp_of a b) × (eq_of x y ≡ eq_of a b)

pub record TwoStamps (a b : Timestamp) : Type 0 where
  -- distance, `cmp` and `==` follow the UTC attosecond counts exactly
  pub count_exact : (pos (count_of a) ≡ utc_count a) × (pos (count_of b) ≡ utc_count b)
  pub distance_accepted : IsOk (distance_of a b)
  pub distance_exact : IsOkAnd (distance_of a b) (λ d. d.seconds * 10 ^ 18 + d.attoseconds ≡ nat_abs (utc_count a -ℤ utc_count b))
  pub distance_parts : IsOkAnd (distance_of a b) (λ d. d.attoseconds < 10 ^ 18)
  pub distance_sign : IsOkAnd (distance_of a b) (λ d. SignOf d.order (utc_count a -ℤ utc_count b))
  pub cmp_accepted : IsOk (cmp_of a b)
  pub cmp_exact : IsOkAnd (cmp_of a b) (λ o. SignOf o (utc_count a -ℤ utc_count b))
  pub eq_accepted : IsOk (eq_of a b)
  pub eq_exact : IsOkAnd (eq_of a b) (λ e. (e ≡ true → utc_count a ≡ utc_count b) × (utc_count a ≡ utc_count b → e ≡ true))
  -- through the packed pair and back
  pub pair_back : (check_of a ≡ Ok a) × (check_of b ≡ Ok b)
  -- through the value bytes and back, with whatever bytes after them
  pub value_back : ReadsBack a × ReadsBack b
  -- through every form of the value and back, and from no other bytes; the value that is written is the shortest
  pub forms_back : FormsReadBack a × FormsReadBack b
  pub forms_exact : ReadFromForms a × ReadFromForms b
  pub forms_least : ShortestForm a × ShortestForm b
  -- through the text and back, and from no text but its own
  pub text_back : TextReadsBack a × TextReadsBack b
  pub texts_exact : ReadFromTexts a × ReadFromTexts b
  -- through a scan and back, with any site, tag and guard, and whatever bytes after it
  pub scan_back : EachScan a ScanReadsBack × EachScan b ScanReadsBack
  -- and then the same answers
  pub same_by_pair : BothOk (check_of a) (check_of b) (λ x y. SameAnswers x y a b)
  pub same_by_value : (d e : List ℕ) → BothOk (read_value (value_of a ++ d)) (read_value (value_of b ++ e)) (λ x y. SameAnswers x.0 y.0 a b)
  pub same_by_form : EachForm a (λ x. EachForm b (λ y. (d e : List ℕ)
      → BothOk (read_padded_value (x ++ d)) (read_padded_value (y ++ e)) (λ u v. SameAnswers u.0 v.0 a b)))
  pub same_by_text : BothOk (read_text_of (text_of a)) (read_text_of (text_of b)) (λ x y. SameAnswers x y a b)
  pub same_by_scan : EachTwo a b (λ x y. (d e : List ℕ)
      → BothOk (read_scan New (scan_bytes x ++ d)) (read_scan New (scan_bytes y ++ e)) (λ u v. SameAnswers u.0.stamp v.0.stamp a b))
  -- text, value and scan are what the writers, given room for them, write
  pub texts_written : Writes (check_of a) (text_of a) × Writes (check_of b) (text_of b)
  pub values_written : Writes (check_of a) (value_of a) × Writes (check_of b) (value_of b)
  pub scans_written : EachScan a (λ x. Writes (scan_check x) (scan_bytes x)) × EachScan b (λ x. Writes (scan_check x) (scan_bytes x))
  -- different timestamps have different texts, values and scans, no text that is read as the one is read as the other, no form of a value
  -- of the one is a form of the other's, and no value, form of it or scan of the one is the beginning of the other's
  pub texts_differ : Differ a b → text_of a ≡ text_of b → ⊥
  pub texts_apart : Differ a b → (s : List ℕ) → TextFor a s → TextFor b s → ⊥
  pub values_differ : Differ a b → value_of a ≡ value_of b → ⊥
  pub no_beginning : Differ a b → (r : List ℕ) → (value_of a ++ r ≡ value_of b → ⊥) × (value_of b ++ r ≡ value_of a → ⊥)
  pub forms_apart : Differ a b → EachForm a (λ x. EachForm b (λ y. (x ≡ y → ⊥) × ((r : List ℕ) → (x ++ r ≡ y → ⊥) × (y ++ r ≡ x → ⊥))))
  pub scans_differ : Differ a b → EachTwo a b (λ x y. scan_bytes x ≡ scan_bytes y → ⊥)
  pub no_scan_beginning : Differ a b → EachTwo a b (λ x y. (r : List ℕ)
      → (scan_bytes x ++ r ≡ scan_bytes y → ⊥) × (scan_bytes y ++ r ≡ scan_bytes x → ⊥))
