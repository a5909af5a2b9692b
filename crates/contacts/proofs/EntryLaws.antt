-- Numbers, texts and entries of a list. Assumes nothing.
use mathlib.Core.Path.{◌≡◌, refl, sym, ◌∙◌}
use mathlib.Core.Bool.{Bool, true, false}
use mathlib.Core.Logic.{◌⊎◌, inl, inr}
use mathlib.Core.List.{List, []}
use Prim.Native.Nat.{ℕ, zero, suc, ◌+◌, ◌-◌, ◌*◌, ◌^◌, ◌≤◌, ◌<◌}
use native.Mathlib.Numerals.{add-one}
use native.Mathlib.Omega.{arith}
use Rattle.std.proofs.Math.Nat.{pow-suc, pow-le-pow_right}
use lib.ListN.{length, get_or, take, drop, length-drop, drop_of_length-le}
use lib.Dec.{leb}
use lib.Seq.{take_all, take-nil, get_or-drop, get_or-take}
use borrow.Author.Tests.{le-leb, lt-leb, eq-eqb, ne_eqb}
use Rattle.text.specs.Pick.{both}
use Rattle.text.specs.Utf8.{utf8}
use Rattle.decimal.specs.Decimal.{all_digits}
use Rattle.contacts.specs.Contacts.{plain, is_date, is_time, sound, sound_head, sound_texts}
use Rattle.contacts.specs.Lists.{number_at, text_at, after, call_at, date_at, time_at, band_at, mode_at, end_at, id_at, services_at, contact_at, fits, good_at}

-- ---- texts, dates, times of day, heads
module _ (t : List ℕ) where
  pub is_short : length t ≤ 255 → (u : Bool) → u ≡ utf8 t → u ≡ plain t
  unfolding plain
  is_short h u e = e ∙ rw (le-leb (length t) 255 h) refl

  pub too_long : 255 < length t → false ≡ plain t
  unfolding plain
  too_long h = rw (lt-leb (length t) 255 h) refl

module _ (d : List ℕ) where
  pub no_date : (length d ≡ 8 → ⊥) → false ≡ is_date d
  unfolding is_date
  no_date n = rw (ne_eqb (length d) 8 n) refl

  pub date_is : length d ≡ 8 → (t : Bool) → t ≡ all_digits d → t ≡ is_date d
  unfolding is_date
  date_is e t q = q ∙ rw (eq-eqb (length d) 8 e) refl

  pub time_is : (length d ≡ 4) ⊎ ((length d ≡ 4 → ⊥) × (length d ≡ 6)) → (t : Bool) → t ≡ all_digits d → t ≡ is_time d
  unfolding is_time
  time_is (inl e) t q = q ∙ rw (eq-eqb (length d) 4 e) refl
  time_is (inr n) t q = q ∙ rw (ne_eqb (length d) 4 n.0, eq-eqb (length d) 6 n.1) refl

  pub no_time : (length d ≡ 4 → ⊥) × (length d ≡ 6 → ⊥) → (t : Bool) → t ≡ false → t ≡ is_time d
  unfolding is_time
  no_time n t e = e ∙ rw (ne_eqb (length d) 4 n.0, ne_eqb (length d) 6 n.1) refl

module _ (id services : ℕ) where
  pub head_is : (1 ≤ id) × (id ≤ 9223372036854775807) → leb services 15 ≡ sound_head id services
  unfolding sound_head
  head_is h = rw (le-leb 1 id h.0, le-leb id 9223372036854775807 h.1) refl

  pub no_head : ((1 ≤ id) × (9223372036854775807 < id)) ⊎ (id < 1) → (t : Bool) → t ≡ false → t ≡ sound_head id services
  unfolding sound_head
  no_head (inl h) t e = e ∙ rw (le-leb 1 id h.0, lt-leb id 9223372036854775807 h.1) refl
  no_head (inr h) t e = e ∙ rw (lt-leb 1 id h) refl

-- ---- numbers
pub number_on : (s : List ℕ) (at i n b : ℕ) → n ≡ number_at s at i → b ≡ get_or s (at + i) 0 → n * 256 + b ≡ number_at s at (i + 1)
unfolding number_at
number_on s at i n b e f = rw (add-one i, e, f) refl

pub number_below : (n b i : ℕ) → n < 256 ^ i → b < 256 → n * 256 + b < 256 ^ (i + 1)
number_below n b i h l = rw (add-one i, pow-suc 256 i) (omega (arith, h, l))

pub number_fits : (n b i k : ℕ) → n < 256 ^ i → b < 256 → i < k → k ≤ 8 → n * 256 + b < 18446744073709551616
number_fits n b i k h l m e =
    let le : i + 1 ≤ 8 = omega arith in
    let z : 256 ^ (i + 1) ≤ 256 ^ 8 = pow-le-pow_right (omega arith) le in
    omega (arith, number_below n b i h l, z)

pub id_far : (s : List ℕ) (at n : ℕ) → n ≡ number_at s (at + 2) 8 → n ≡ id_at s at
unfolding id_at
id_far s at n e = e

-- a number of a part is that of the whole, as far as the part goes
number_part : (s : List ℕ) (from n k : ℕ) → k ≤ n → number_at (take n (drop from s)) 0 k ≡ number_at s from k
unfolding number_at
number_part s from n zero h = refl
number_part s from n (suc k) h =
    let z : 0 + k ≡ k = omega arith in
    rw (number_part s from n k (omega arith), z, get_or-take n (drop from s) k 0 (omega arith), get_or-drop) refl

-- the number of eight bytes by its halves
halves : (s : List ℕ) (from : ℕ) → number_at s from 4 * 4294967296 + number_at s (from + 4) 4 ≡ number_at s from 8
unfolding number_at
halves s from =
    let z0 : from + 4 + 0 ≡ from + 4 = omega arith in
    let z1 : from + 4 + 1 ≡ from + 5 = omega arith in
    let z2 : from + 4 + 2 ≡ from + 6 = omega arith in
    let z3 : from + 4 + 3 ≡ from + 7 = omega arith in
    rw (z0, z1, z2, z3) (omega arith)

pub id_near : (s : List ℕ) (at a b : ℕ) → a ≡ number_at (take (at + 6 - (at + 2)) (drop (at + 2) s)) 0 4 → b ≡ number_at (take (at + 10 - (at + 6)) (drop (at + 6) s)) 0 4 → a * 4294967296 + b ≡ id_at s at
unfolding id_at
id_near s at a b ea eb =
    let z : at + 2 + 4 ≡ at + 6 = omega arith in
    rw (ea ∙ number_part s (at + 2) (at + 6 - (at + 2)) 4 (omega arith), eb ∙ number_part s (at + 6) (at + 10 - (at + 6)) 4 (omega arith), ← z) (halves s (at + 2))

-- ---- texts
pub text_out : (s : List ℕ) (p : ℕ) → length s ≤ p → [] ≡ text_at s p
unfolding text_at
text_out s p h = rw (drop_of_length-le s {i = p + 1} (omega arith), take-nil (get_or s p 0))

pub text_cut : (s : List ℕ) (p n k : ℕ) → p < length s → n ≡ get_or s p 0 → length s - (p + 1) ≤ n → k ≡ length s - (p + 1) → take k (drop (p + 1) s) ≡ text_at s p
unfolding text_at
text_cut s p n k h e l ek = take_all k (drop (p + 1) s) (rw length-drop (omega arith)) ∙ sym (take_all (get_or s p 0) (drop (p + 1) s) (rw length-drop (omega arith)))

pub text_mid : (s : List ℕ) (p n : ℕ) → n ≡ get_or s p 0 → take (p + 1 + n - (p + 1)) (drop (p + 1) s) ≡ text_at s p
unfolding text_at
text_mid s p n e = let z : p + 1 + n - (p + 1) ≡ n = omega arith in rw (z, e)

-- ---- an entry
module _ (s : List ℕ) (at end : ℕ) (ee : end ≡ end_at s at) where
  pub good_long : length s < end → false ≡ good_at s at
  unfolding good_at fits
  good_long h = rw (← ee, lt-leb end (length s) h) refl

  module _ (l : end ≤ length s) (size : ℕ) (es : size ≡ number_at s at 2) where
    pub good_size : (at + 2 + size ≡ end → ⊥) → false ≡ good_at s at
    unfolding good_at fits
    good_size n = rw (← ee, le-leb end (length s) l, ← es, ne_eqb (at + 2 + size) end n) refl

    module _ (f : at + 2 + size ≡ end) (id services : ℕ) (ei : id ≡ id_at s at) (ev : services ≡ get_or s (at + 10) 0) (h : Bool) (eh : h ≡ sound_head id services) where
      split_good : good_at s at ≡ both h (sound_texts (text_at s (call_at at)) (text_at s (date_at s at)) (text_at s (time_at s at)) (text_at s (band_at s at)) (text_at s (mode_at s at)))
      unfolding good_at fits sound contact_at services_at
      split_good = rw (← ee, le-leb end (length s) l, ← es, eq-eqb (at + 2 + size) end f, ← ei, ← ev, ← eh) refl

      pub good_head : h ≡ false → false ≡ good_at s at
      good_head n = let z : h ≡ false = n in sym (split_good ∙ rw z refl)

      pub good_texts : h ≡ true → (t : Bool) → t ≡ sound_texts (text_at s (at + 11)) (text_at s (after s (at + 11))) (text_at s (after s (after s (at + 11)))) (text_at s (after s (after s (after s (at + 11))))) (text_at s (after s (after s (after s (after s (at + 11))))))
          → t ≡ good_at s at
      unfolding call_at date_at time_at band_at mode_at
      good_texts n t e = let z : h ≡ true = n in e ∙ sym (split_good ∙ rw z refl)
