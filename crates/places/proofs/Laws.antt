-- The laws of places, for every base above 1 and with the number of places a variable. Assumes nothing.
use mathlib.Core.Path.{◌≡◌, refl, sym, ap, ap₂, ◌∙◌}
use mathlib.Core.List.{List, [], ◌∷◌, ◌++◌}
use Prim.Native.Nat.{ℕ, zero, suc, ◌+◌, ◌-◌, ◌*◌, ◌/◌, ◌%◌, ◌^◌, ◌≤◌, ◌<◌}
use native.Mathlib.Nat.{pow-zero, pow-suc, pow-succ', zero-add, add-zero, add-suc, one-le-pow, div-one, div-div-eq-div-mul}
use native.Mathlib.Nat.{div-lt_iff_lt-mul, div-lt_self, div-add-mod', mod-lt, lt_of_lt_of_le, lt_of_le_of_lt, mul_comm, mul-le-mul_left}
use native.Mathlib.Nat.{mul-suc, pow-le-pow_right, le-div_iff_mul-le, sub-zero}
use native.Mathlib.Decide.{dec_le}
use native.Mathlib.Omega.{arith}
use lib.Arith.{mod-mul, digits_div, digits_mod}
use lib.ListN.{length, drop, set, length-set}
use lib.Seq.{drop_at, drop-cons, get_or-set_same, drop-set-lt}
use Rattle.places.specs.Places.{plain, byte_from, places_on, places, count_in, count, place_count, value_from}

-- a place whose byte is 0 more
pub zero_byte : byte_from 0 ≡ plain
zero_byte = λ i d. zero-add d i

-- ---- the places as lists

module _ (b : ℕ) (f : ℕ → ℕ) where
  pub places_append : (k q : ℕ) (t r : List ℕ) → places_on b f k q t ++ r ≡ places_on b f k q (t ++ r)
  unfolding places_on
  places_append zero q t r = refl
  places_append (suc k) q t r = places_append k (q / b) (f (q % b) ∷ t) r

  length_on : (k q : ℕ) (t : List ℕ) → length (places_on b f k q t) ≡ k + length t
  unfolding places_on
  length_on zero q t = sym (zero-add (length t))
  length_on (suc k) q t = omega (arith, length_on k (q / b) (f (q % b) ∷ t))

  pub length_places : (k n : ℕ) → length (places b f k n) ≡ k
  unfolding places
  length_places k n = omega (arith, length_on k n [])

-- ---- the number of places

module _ (b : ℕ) (hb : 1 < b) where
  pos : 0 < b
  pos = omega arith

  above : (n : ℕ) → 1 ≤ b ^ n
  above n = one-le-pow n b pos

  -- a number below b ^ suc n, without its lowest place
  down : (n q : ℕ) → q < b ^ suc n → q / b < b ^ n
  down n q h = (div-lt_iff_lt-mul pos).1 (rw (pow-suc b n) at h)

  up : (n q : ℕ) → q / b < b ^ n → q < b ^ suc n
  up n q h = rw (pow-suc b n) ((div-lt_iff_lt-mul pos).0 h)

  -- without its lowest place and then without k more
  div_power : (k n : ℕ) → n / b / b ^ k ≡ n / b ^ suc k
  div_power k n = div-div-eq-div-mul n b (b ^ k) ∙ ap (λ (m : ℕ). n / m) (sym (pow-succ' b k))

  less : (q : ℕ) → suc q / b ≤ q
  less q = omega (arith, div-lt_self {n = suc q} (omega arith) hb)

  least_in : (n g q : ℕ) → q < b ^ n → count_in b g q ≤ n
  unfolding count_in
  least_in n zero q h = omega arith
  least_in n (suc g) zero h = omega arith
  least_in zero (suc g) (suc q) h = omega (arith, pow-zero b)
  least_in (suc n) (suc g) (suc q) h = omega (arith, least_in n g (suc q / b) (down n (suc q) h))

  holds_in : (g q : ℕ) → q ≤ g → q < b ^ count_in b g q
  unfolding count_in
  holds_in zero q h = omega (arith, pow-zero b)
  holds_in (suc g) zero h = omega (arith, pow-zero b)
  holds_in (suc g) (suc q) h = up (count_in b g (suc q / b)) (suc q) (holds_in g (suc q / b) (omega (arith, less q)))

  count_fuel : (g h q : ℕ) → q ≤ g → q ≤ h → count_in b g q ≡ count_in b h q
  unfolding count_in
  count_fuel zero zero q l m = refl
  count_fuel zero (suc h) zero l m = refl
  count_fuel zero (suc h) (suc q) l m = absurd (omega arith)
  count_fuel (suc g) zero zero l m = refl
  count_fuel (suc g) zero (suc q) l m = absurd (omega arith)
  count_fuel (suc g) (suc h) zero l m = refl
  count_fuel (suc g) (suc h) (suc q) l m = ap suc (count_fuel g h (suc q / b) (omega (arith, less q)) (omega (arith, less q)))

  pub count_zero : count b 0 ≡ 0
  unfolding count count_in
  count_zero = refl

  pub count_next : (q : ℕ) → 0 < q → count b q ≡ suc (count b (q / b))
  unfolding count count_in
  count_next zero h = absurd (omega arith)
  count_next (suc q) h = ap suc (count_fuel q (suc q / b) (suc q / b) (less q) (omega arith))

  -- the places hold the number, and no fewer do
  pub count_holds : (q : ℕ) → q < b ^ count b q
  unfolding count
  count_holds q = holds_in q q (omega arith)

  pub count_least : (n q : ℕ) → q < b ^ n → count b q ≤ n
  unfolding count
  count_least n q h = least_in n q q h

  fewer : (n q : ℕ) → q < b ^ n → b * b ^ n ≤ b * q + (b - 1) → ⊥
  fewer n q r l =
      let m : b * suc q ≤ b * b ^ n = mul-le-mul_left b r in
      let e : b * suc q ≡ b * q + b = mul-suc b q in
      omega arith

  -- a number below b ^ n that has no fewer places has n
  count_unique : (n q : ℕ) → q < b ^ n → b ^ n ≤ b * q + (b - 1) → count b q ≡ n
  count_unique zero q h l = omega (arith, count_least 0 q h)
  count_unique (suc n) q h l = go (count_least (suc n) q h) (dec_le (count b q) n)
    where
      go : count b q ≤ suc n → Dec (count b q ≤ n) → count b q ≡ suc n
      go m (no k) = omega arith
      go m (yes k) =
          let r : q < b ^ n = lt_of_lt_of_le (count_holds q) (pow-le-pow_right pos k) in
          absurd (fewer n q r (rw (pow-succ' b n) at l))

  -- the same where 0 has one place
  pub held : (n : ℕ) → n < b ^ place_count b n
  unfolding place_count
  held n = up (count b (n / b)) n (count_holds (n / b))

  pub fewest : (k n : ℕ) → 1 ≤ k → n < b ^ k → place_count b n ≤ k
  unfolding place_count
  fewest zero n l h = absurd (omega arith)
  fewest (suc k) n l h = omega (arith, count_least k (n / b) (down k n h))

  pub place_some : (n : ℕ) → 0 < place_count b n
  unfolding place_count
  place_some n = omega arith

  -- a number without its lowest place has one place fewer, until no number is left
  pub place_next : (n : ℕ) → 0 < n / b → place_count b n ≡ 1 + place_count b (n / b)
  unfolding place_count
  place_next n h = omega (arith, count_next (n / b) h)

  pub place_last : (n : ℕ) → n / b ≡ 0 → place_count b n ≡ 1
  unfolding place_count
  place_last n e = ap suc (ap (count b) e ∙ count_zero)

  -- a number without its k lowest places has k fewer
  pub place_split : (k n : ℕ) → b ^ k ≤ n → place_count b n ≡ k + place_count b (n / b ^ k)
  place_split zero n h = rw (pow-zero b, div-one) (sym (zero-add (place_count b n)))
  place_split (suc k) n h =
      let l : b ^ k ≤ n / b = (le-div_iff_mul-le pos).1 (rw (pow-suc b k) at h) in
      rw (← div_power k n) (omega (arith, place_next n (omega (arith, above k)), place_split k (n / b) l))

  pub place_monotone : (m n : ℕ) → m ≤ n → place_count b m ≤ place_count b n
  place_monotone m n h = fewest (place_count b n) m (place_some n) (lt_of_le_of_lt h (held n))

  pub place_is : (n m : ℕ) → b ^ n ≤ m → m < b ^ suc n → place_count b m ≡ suc n
  unfolding place_count
  place_is n m l h = ap suc (count_unique n (m / b) (down n m h) (omega (arith, div-add-mod' m b, mod-lt m pos, mul_comm b (m / b))))

  -- ---- the last places

  module _ (f : ℕ → ℕ) where
    pub places_add : (j k q : ℕ) (t : List ℕ) → places_on b f (j + k) q t ≡ places_on b f j (q / b ^ k) (places_on b f k q t)
    unfolding places_on
    places_add j zero q t = rw (add-zero, pow-zero b, div-one)
    places_add j (suc k) q t = rw (add-suc, ← div_power k q) (places_add j k (q / b) (f (q % b) ∷ t))

    pub places_mod : (k n : ℕ) (t : List ℕ) → places_on b f k (n % b ^ k) t ≡ places_on b f k n t
    unfolding places_on
    places_mod zero n t = refl
    places_mod (suc k) n t =
        let e : n % b ^ suc k ≡ n / b % b ^ k * b + n % b = ap (λ (p : ℕ). n % p) (pow-suc b k) ∙ mod-mul n (above k) pos in
        let l = mod-lt n pos in
        rw (e, digits_div (n / b % b ^ k) l, digits_mod (n / b % b ^ k) l) (places_mod k (n / b) (f (n % b) ∷ t))

    pub drop_places : (j k n : ℕ) → drop j (places b f (j + k) n) ≡ places b f k n
    unfolding places
    drop_places j k n =
        ap (drop j) (places_add j k n [] ∙ sym (places_append b f j (n / b ^ k) [] (places_on b f k n [])))
        ∙ drop_at (places_on b f j (n / b ^ k) []) (places_on b f k n []) j (length_places b f j (n / b ^ k))

    -- ---- the law of the value: the k places of a number below b ^ k make it up again

    module _ (g : ℕ → ℕ) (inv : (d : ℕ) → d < b → g (f d) ≡ d) where
      pub value_on : (k q : ℕ) (t : List ℕ) → q < b ^ k → value_from b g 0 (places_on b f k q t) ≡ value_from b g q t
      unfolding places_on value_from
      value_on zero q t h = ap (λ (x : ℕ). value_from b g x t) (omega (arith, pow-zero b))
      value_on (suc k) q t h =
          value_on k (q / b) (f (q % b) ∷ t) (down k q h)
          ∙ rw (inv (q % b) (mod-lt q pos), div-add-mod' q b)

      pub value_places : (k n : ℕ) → n < b ^ k → value_from b g 0 (places b f k n) ≡ n
      unfolding places value_from
      value_places k n h = value_on k n [] h

-- ---- the loop that stores from the back

-- a store in front of what stands from i on
pub store_front : (l : List ℕ) (i x : ℕ) → 0 < i → i ≤ length l → drop (i - 1) (set l (i - 1) x) ≡ x ∷ drop i l
store_front l i x h k =
    let e : suc (i - 1) ≡ i = omega arith in
    drop-cons (set l (i - 1) x) (i - 1) 0 (simp length-set (omega arith))
    ∙ ap₂ ◌∷◌ (get_or-set_same l (i - 1) x 0 (omega arith)) (rw e (drop-set-lt i l (i - 1) x (omega arith)))

-- a turn of the loop: a place in front of those that are stored, of which the last is to stand at index at
pub place_stored : (b : ℕ) (f : ℕ → ℕ) (l : List ℕ) (at i q : ℕ) → at < i → i ≤ length l
    → places_on b f (i - 1 - at) (q / b) (drop (i - 1) (set l (i - 1) (f (q % b)))) ≡ places_on b f (i - at) q (drop i l)
unfolding places_on
place_stored b f l at i q h k =
    let e : i - at ≡ suc (i - 1 - at) = omega arith in
    rw (store_front l i (f (q % b)) (omega arith) k, e)

-- the same where that is the first index
pub first_stored : (b : ℕ) (f : ℕ → ℕ) (l : List ℕ) (i q : ℕ) → 0 < i → i ≤ length l
    → places_on b f (i - 1) (q / b) (drop (i - 1) (set l (i - 1) (f (q % b)))) ≡ places_on b f i q (drop i l)
first_stored b f l i q h k = simp sub-zero at (place_stored b f l 0 i q h k)
