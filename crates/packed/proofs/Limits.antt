-- Fields of a word compared with their limits all at once. Between two of them stands another that is masked out, so that each
-- has room above it; each gains what its limit lacks of its width, and so one beyond its limit reaches into that room.
-- Assumes nothing.
use mathlib.Core.Path.{◌≡◌, sym, ap, ap₂, ◌∙◌}
use mathlib.Core.List.{List, [], ◌∷◌}
use Prim.Native.Nat.{ℕ, suc, ◌+◌, ◌-◌, ◌*◌, ◌/◌, ◌%◌, ◌^◌, ◌≤◌, ◌<◌}
use native.Mathlib.Nat.{pow-suc, mod-lt, lt_of_lt_of_le, mul-le-mul_right}
use native.Mathlib.Decide.{dec_le}
use native.Mathlib.Omega.{arith}
use lib.Arith.{digits_lt}
use lib.Pow.{pow_pos, pow-add, split, add-lt-pow}
use lib.Bits.{bit_and, and_zero_r, and_comm, and_self, and_mask, and_shifted, and_block}
use Rattle.ion.specs.Pair.Layout.{field_at}

-- a field: how many bits, but for one, are masked out above it, its width, and its largest value
pub record Limited : Type 0 where
  pub above : ℕ
  pub width : ℕ
  pub limit : ℕ

abbrev pub limited : ℕ → ℕ → ℕ → Limited
limited a w m = record { above = a; width = w; limit = m }

-- the bits from the lowest on, of which b stand below all the fields
abbrev pub size : ℕ → List Limited → ℕ
size b [] = b
size b (x ∷ l) = x.above + (suc x.width + size b l)

-- what is masked, what each field gains, and the bits that one beyond its limit reaches
abbrev pub masks : ℕ → List Limited → ℕ
masks b [] = 0
masks b (x ∷ l) = (2 ^ x.width - 1) * 2 ^ size b l + masks b l

abbrev pub spares : ℕ → List Limited → ℕ
spares b [] = 0
spares b (x ∷ l) = (2 ^ x.width - 1 - x.limit) * 2 ^ size b l + spares b l

abbrev pub bits_above : ℕ → List Limited → ℕ
bits_above b [] = 0
bits_above b (x ∷ l) = 2 ^ x.width * 2 ^ size b l + bits_above b l

abbrev pub Fits : List Limited → Type 0
Fits [] = Unit
Fits (x ∷ l) = (x.limit < 2 ^ x.width) × Fits l

-- every field is at most its limit
abbrev pub WithinLimits : ℕ → List Limited → ℕ → Type 0
WithinLimits b [] w = Unit
WithinLimits b (x ∷ l) w = (field_at (size b l) x.width w ≤ x.limit) × WithinLimits b l w

-- ---- sizes

top_lt : {a r : ℕ} (g k p : ℕ) → a < 2 ^ k → r < 2 ^ p → a * 2 ^ p + r < 2 ^ (g + (k + p))
top_lt g k p h l =
    rw (pow-add 2 g (k + p), pow-add 2 k p) (lt_of_lt_of_le (digits_lt h l) (omega (arith, mul-le-mul_right (2 ^ k * 2 ^ p) (pow_pos g))))

double : (k : ℕ) → 2 ^ suc k ≡ 2 * 2 ^ k
double k = pow-suc 2 k ∙ omega arith

masks_lt : (b : ℕ) (l : List Limited) → masks b l < 2 ^ size b l
masks_lt b [] = pow_pos b
masks_lt b (x ∷ l) = top_lt x.above (suc x.width) (size b l) (omega (arith, pow_pos x.width, double x.width)) (masks_lt b l)

overs_lt : (b : ℕ) (l : List Limited) → bits_above b l < 2 ^ size b l
overs_lt b [] = pow_pos b
overs_lt b (x ∷ l) = top_lt x.above (suc x.width) (size b l) (omega (arith, pow_pos x.width, double x.width)) (overs_lt b l)

-- ---- the masked word with what each field gains

low_and : (w p m : ℕ) → m < 2 ^ p → bit_and w m ≡ bit_and (w % 2 ^ p) m
low_and w p m h =
    ap₂ bit_and (sym (split w p)) (omega arith)
    ∙ and_block p (w / 2 ^ p) 0 (w % 2 ^ p) m (mod-lt w (pow_pos p)) h
    ∙ ap (λ (n : ℕ). n * 2 ^ p + bit_and (w % 2 ^ p) m) (and_zero_r (w / 2 ^ p))
    ∙ omega arith

mask_step : (w p k m : ℕ) → m < 2 ^ p → bit_and w ((2 ^ k - 1) * 2 ^ p + m) ≡ field_at p k w * 2 ^ p + bit_and w m
mask_step w p k m h =
    ap (λ (n : ℕ). bit_and n ((2 ^ k - 1) * 2 ^ p + m)) (sym (split w p))
    ∙ and_block p (w / 2 ^ p) (2 ^ k - 1) (w % 2 ^ p) m (mod-lt w (pow_pos p)) h
    ∙ ap₂ (λ (a r : ℕ). a * 2 ^ p + r) (and_mask (w / 2 ^ p) k) (sym (low_and w p m h))

abbrev gained : ℕ → List Limited → ℕ → ℕ
gained b l w = bit_and w (masks b l) + spares b l

-- a field with its gain
abbrev raised : ℕ → Limited → ℕ → ℕ
raised p x w = field_at p x.width w + (2 ^ x.width - 1 - x.limit)

gained_step : (b : ℕ) (x : Limited) (l : List Limited) (w : ℕ) → gained b (x ∷ l) w ≡ raised (size b l) x w * 2 ^ size b l + gained b l w
gained_step b x l w = ap (λ (n : ℕ). n + spares b (x ∷ l)) (mask_step w (size b l) x.width (masks b l) (masks_lt b l)) ∙ omega arith

raised_lt : (p : ℕ) (x : Limited) (w : ℕ) → raised p x w < 2 ^ suc x.width
raised_lt p x w = add-lt-pow x.width (mod-lt (w / 2 ^ p) (pow_pos x.width)) (omega (arith, pow_pos x.width))

gained_lt : (b : ℕ) (l : List Limited) (w : ℕ) → gained b l w < 2 ^ size b l
gained_lt b [] w = rw (and_zero_r w) (pow_pos b)
gained_lt b (x ∷ l) w =
    rw (gained_step b x l w) (top_lt x.above (suc x.width) (size b l) (raised_lt (size b l) x w) (gained_lt b l w))

-- ---- the bits beyond the limits

abbrev pub beyond : ℕ → List Limited → ℕ → ℕ
beyond b l w = bit_and (bit_and w (masks b l) + spares b l) (bits_above b l)

beyond_step : (b : ℕ) (x : Limited) (l : List Limited) (w : ℕ)
    → beyond b (x ∷ l) w ≡ bit_and (raised (size b l) x w) (2 ^ x.width) * 2 ^ size b l + beyond b l w
beyond_step b x l w =
    ap (λ (n : ℕ). bit_and n (bits_above b (x ∷ l))) (gained_step b x l w)
    ∙ and_block (size b l) (raised (size b l) x w) (2 ^ x.width) (gained b l w) (bits_above b l) (gained_lt b l w) (overs_lt b l)

-- the bit of a number that is below it, and of one that has it
bit_clear : (n k : ℕ) → n < 2 ^ k → bit_and n (2 ^ k) ≡ 0
bit_clear n k h =
    let e : 2 ^ k ≡ 1 * 2 ^ k = omega arith in
    and_comm n (2 ^ k) ∙ ap (λ (m : ℕ). bit_and m n) e ∙ and_shifted 1 k n h

bit_set : (n k : ℕ) → 2 ^ k ≤ n → n < 2 ^ suc k → bit_and n (2 ^ k) ≡ 2 ^ k
bit_set n k h l =
    let e : n ≡ 1 * 2 ^ k + (n - 2 ^ k) = omega arith in
    let o : 2 ^ k ≡ 1 * 2 ^ k + 0 = omega arith in
    ap₂ bit_and e o
    ∙ and_block k 1 1 (n - 2 ^ k) 0 (omega (arith, l, double k)) (pow_pos k)
    ∙ ap₂ (λ (a r : ℕ). a * 2 ^ k + r) (and_self 1) (and_zero_r (n - 2 ^ k))
    ∙ omega arith

-- where no bit is beyond, every field is at most its limit, and the other way round
pub beyond_within : (b : ℕ) (l : List Limited) (w : ℕ) → Fits l → beyond b l w ≡ 0 → WithinLimits b l w
beyond_within b [] w f e = tt
beyond_within b (x ∷ l) w f e =
    let z : bit_and (raised (size b l) x w) (2 ^ x.width) * 2 ^ size b l + beyond b l w ≡ 0 = sym (beyond_step b x l w) ∙ e in
    (at z (dec_le (field_at (size b l) x.width w) x.limit), beyond_within b l w f.1 (omega arith))
  where
    at : bit_and (raised (size b l) x w) (2 ^ x.width) * 2 ^ size b l + beyond b l w ≡ 0 → Dec (field_at (size b l) x.width w ≤ x.limit)
        → field_at (size b l) x.width w ≤ x.limit
    at z (yes h) = h
    at z (no n) =
        let s = bit_set (raised (size b l) x w) x.width (omega (arith, f.0)) (raised_lt (size b l) x w) in
        absurd (let y : 2 ^ x.width * 2 ^ size b l + beyond b l w ≡ 0 = ap (λ (m : ℕ). m * 2 ^ size b l + beyond b l w) (sym s)
        ∙ z in omega (arith, y, pow_pos (x.width + size b l), pow-add 2 x.width (size b l)))

pub within_beyond : (b : ℕ) (l : List Limited) (w : ℕ) → Fits l → WithinLimits b l w → beyond b l w ≡ 0
within_beyond b [] w f h = and_zero_r (bit_and w 0 + 0)
within_beyond b (x ∷ l) w f h =
    beyond_step b x l w
    ∙ ap₂ (λ (a r : ℕ). a * 2 ^ size b l + r) (bit_clear (raised (size b l) x w) x.width (omega (arith, f.0, h.0)))
    (within_beyond b l w f.1 h.1)
    ∙ omega arith
