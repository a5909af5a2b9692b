-- A frequency of up to 10 ^ 12 Hz, written as megahertz, is read back as itself. Assumes nothing.
use Rattle.std.specs.Prelude.{Ok}
use mathlib.Core.Path.{◌≡◌, refl, sym, ap, ◌∙◌, subst}
use mathlib.Core.Bool.{Bool, true, false}
use mathlib.Core.List.{List, [], ◌∷◌, ◌++◌, append-nil, append_assoc, reverse, reverse-append}
use Prim.Native.Nat.{ℕ, zero, suc, ◌+◌, ◌-◌, ◌*◌, ◌/◌, ◌%◌, ◌^◌, ◌≤◌, ◌<◌}
use native.Mathlib.Nat.{mul_assoc, pow-suc, div-lt_iff_lt-mul, div-add-mod', mod-lt, le_trans, lt_of_le_of_lt}
use native.Mathlib.Omega.{arith}
use lib.ListN.{length, get_or, take, drop}
use lib.Seq.{take_all, sets, sets-eq, take_at, drop_at, length-take-le}
use lib.Dec.{eqb, lit<, lit≤}
use borrow.Author.Tests.{le-leb, lt-leb, ne_eqb}
use Rattle.text.specs.Pick.{either, within}
use Rattle.text.specs.Space.{space_len, space_back, trim_start, trim_end, trimmed}
use Rattle.text.proofs.Walks.{stops}
use Rattle.text.proofs.SpaceLaws.{plain_front, plain_back}
use Rattle.decimal.specs.Decimal.{number}
use Rattle.decimal.specs.Digits.{digits, decimal}
use Rattle.decimal.proofs.ReadBack.{Digits, are_digits, number_append, number_is, some_digit}
use Rattle.hertz.specs.Value.{signed}
use Rattle.hertz.proofs.Back.{back, not_negative}
use Rattle.mhz.specs.Digits.{is_digit, digits_of, after_digits, number_of, last_digits}
use Rattle.mhz.specs.Number.{decimal as decimalNumber, negative, unsigned, pointed, whole_part, fraction_part, after_decimal, decimal_of, number_in}
use Rattle.mhz.specs.Reading.{up, down, near, in_window, hertz_of, decimal_hertz, number_hertz, read_hertz}
use Rattle.mhz.specs.Writing.{six_decimals, mhz_text, formatted, answer_to}
use Rattle.mhz.specs.Theorems.{ReadBack, Carried}
use Rattle.mhz.specs.declared.Hz.TheVariants.{Is}
use Rattle.mhz.proofs.Formatted.{formatted_is}
use Rattle.mhz.proofs.TextLaws.{below_words}
use Rattle.mhz.proofs.WriteLaws.{length_last, last_digits_lem}

-- ---- digits, and what follows them
is_digit_lem : (b : ℕ) → 0x30 ≤ b → b ≤ 0x39 → is_digit b ≡ true
is_digit_lem b l h = rw (le-leb 0x30 b l, le-leb b 0x39 h)

digits_then : (ds ys : List ℕ) → Digits ds → digits_of ys ≡ [] → digits_of (ds ++ ys) ≡ ds
digits_then [] ys p e = e
digits_then (d ∷ ds) ys p e = rw (is_digit_lem d p.0.0 p.0.1) (ap (λ (z : List ℕ). d ∷ z) (digits_then ds ys p.1 e))

after_then : (ds ys : List ℕ) → Digits ds → after_digits ys ≡ ys → after_digits (ds ++ ys) ≡ ys
after_then [] ys p e = e
after_then (d ∷ ds) ys p e = rw (is_digit_lem d p.0.0 p.0.1) (after_then ds ys p.1 e)

digits_all : (ds : List ℕ) → Digits ds → digits_of ds ≡ ds
digits_all ds p = ap digits_of (sym (append-nil ds)) ∙ digits_then ds [] p refl

after_all : (ds : List ℕ) → Digits ds → after_digits ds ≡ []
after_all ds p = ap after_digits (sym (append-nil ds)) ∙ after_then ds [] p refl

-- the last k digits of a number below 10 ^ k stand for it
number_last : (k n a : ℕ) → n < 10 ^ k → number a (last_digits k n) ≡ a * 10 ^ k + n
number_last zero n a h = go n h
  where
    go : (n : ℕ) → n < 1 → a ≡ a * 1 + n
    go n h = omega arith
number_last (suc k) n a h =
    let q : n / 10 < 10 ^ k = (div-lt_iff_lt-mul (lit< tt)).1 (subst (λ (z : ℕ). n < z) (pow-suc 10 k) h) in
    number_append a (last_digits k (n / 10)) ((0x30 + n % 10) ∷ [])
    ∙ ap (λ (z : ℕ). z * 10 + (0x30 + n % 10 - 0x30)) (number_last k (n / 10) a q)
    ∙ go (a * 10 ^ k) n
    ∙ ap (λ (z : ℕ). z + n) (mul_assoc a (10 ^ k) 10 ∙ ap (λ (z : ℕ). a * z) (sym (pow-suc 10 k)))
  where
    go : (p n : ℕ) → (p + n / 10) * 10 + (0x30 + n % 10 - 0x30) ≡ p * 10 + n
    go p n = omega arith

-- ---- the first byte and the last
leads_digit : (ds ys : List ℕ) → Digits ds → 0 < length ds → (0x30 ≤ get_or (ds ++ ys) 0 0) × (get_or (ds ++ ys) 0 0 ≤ 0x39)
leads_digit [] ys p h = absurd (omega arith)
leads_digit (d ∷ ds) ys p h = p.0

is_plain : (b : ℕ) → 0x30 ≤ b → b ≤ 0x39 → within b 0x21 0x7F ≡ true
is_plain b l h = rw (le-leb 0x21 b (omega arith), le-leb b 0x7F (omega arith))

ends_plain : (d : ℕ) (xs ys : List ℕ) → d < 10 → xs ≡ (0x30 + d) ∷ ys → 0 ≡ space_back xs
ends_plain d xs ys h e = rw e (plain_back ((0x30 + d) ∷ ys) 0 (0x30 + d) true refl (sym (is_plain (0x30 + d) (omega arith) (omega arith))) refl)

module _ (hz : ℕ) (most : hz ≤ 10 ^ 12) where
  whole : List ℕ
  whole = decimal (hz / 1000000)

  six : List ℕ
  six = last_digits 6 (hz % 1000000)

  whole_digits : Digits whole
  unfolding whole decimal
  whole_digits = are_digits 20 (hz / 1000000)

  six_digits : Digits six
  unfolding six
  six_digits = last_digits_lem 6 (hz % 1000000)

  six_length : length six ≡ 6
  unfolding six
  six_length = length_last 6 (hz % 1000000)

  -- all the digits stand for hz
  number_all : number_of (whole ++ six) ≡ hz
  unfolding number_of whole six decimal
  number_all =
      number_append 0 (digits 20 (hz / 1000000)) (last_digits 6 (hz % 1000000))
      ∙ number_last 6 (hz % 1000000) (number 0 (digits 20 (hz / 1000000))) (mod-lt hz (lit< tt))
      ∙ ap (λ (z : ℕ). z * 1000000 + hz % 1000000) (number_is 20 (hz / 1000000) (small hz most))
      ∙ div-add-mod' hz 1000000
    where
      small : (n : ℕ) → n ≤ 1000000000000 → n / 1000000 < 100000000000000000000
      small n h = omega arith

  text : List ℕ
  text = whole ++ (0x2E ∷ six)

  -- ---- what the text says
  text_whole : whole_part text ≡ whole
  unfolding text whole_part
  text_whole = digits_then whole (0x2E ∷ six) whole_digits refl

  text_after : after_digits text ≡ 0x2E ∷ six
  unfolding text
  text_after = after_then whole (0x2E ∷ six) whole_digits refl

  text_fraction : fraction_part text ≡ six
  unfolding fraction_part pointed
  text_fraction = rw text_after (digits_all six six_digits)

  text_ends : after_decimal text ≡ []
  unfolding after_decimal pointed
  text_ends = rw text_after (after_all six six_digits)

  text_decimal : decimal_of false text ≡ decimalNumber false hz 6 false 0
  unfolding decimal_of
  text_decimal = rw (text_whole, text_fraction, text_ends) (rw number_all (rw six_length (rw (ne_eqb (length whole + 6) 0 (λ z. omega arith)))))

  -- ---- the text begins and ends with a digit, so it has no sign, is no word, and is trimmed
  first_digit : (0x30 ≤ get_or text 0 0) × (get_or text 0 0 ≤ 0x39)
  unfolding text whole decimal
  first_digit = leads_digit (digits 20 (hz / 1000000)) (0x2E ∷ six) whole_digits (some_digit 19 (hz / 1000000))

  no_sign : (negative text ≡ false) × (unsigned text ≡ text)
  unfolding negative unsigned
  no_sign =
      let a = first_digit.0 in
      (ne_eqb (get_or text 0 0) 0x2D (λ e. omega arith), rw (ne_eqb (get_or text 0 0) 0x2B (λ e. omega arith), ne_eqb (get_or text 0 0) 0x2D (λ e. omega arith)))

  text_number : number_in text ≡ decimalNumber false hz 6 false 0
  unfolding number_in
  text_number = rw (no_sign.0, no_sign.1) (below_words false text first_digit.1 ∙ text_decimal)

  starts : trim_start text ≡ 0
  unfolding trim_start
  starts =
      stops space_len text
      (sym (plain_front text 0 (get_or text 0 0) true refl (sym (is_plain (get_or text 0 0) first_digit.0 first_digit.1)) refl))

  backwards : reverse text ≡ (0x30 + hz % 1000000 % 10) ∷ reverse (whole ++ (0x2E ∷ last_digits 5 (hz % 1000000 / 10)))
  unfolding text six
  backwards =
      ap reverse (sym (append_assoc whole (0x2E ∷ last_digits 5 (hz % 1000000 / 10)) ((0x30 + hz % 1000000 % 10) ∷ [])))
      ∙ reverse-append (whole ++ (0x2E ∷ last_digits 5 (hz % 1000000 / 10))) ((0x30 + hz % 1000000 % 10) ∷ [])

  ends : trim_end text ≡ length text
  unfolding trim_end
  ends =
      ap (λ (k : ℕ). length text - k) (stops space_back (reverse text) (sym (ends_plain (hz % 1000000 % 10) (reverse text) _ (mod-lt (hz % 1000000) (lit< tt)) backwards)))
      ∙ none (length text)
    where
      none : (n : ℕ) → n - 0 ≡ n
      none n = omega arith

  text_trimmed : trimmed text ≡ text
  unfolding trimmed
  text_trimmed = rw starts (rw ends (take_all (length text) text (omega arith)))

  -- ---- inside the window, and back
  inside : in_window hz 6 false 0 ≡ true
  unfolding in_window near up down
  inside = rw (le-leb hz 9007199254740992 (le_trans most (lit≤ tt))) (last (eqb hz 0))
    where
      last : (t : Bool) → either t true ≡ true
      last true = refl
      last false = refl

  hertz_back : decimal_hertz false hz 6 false 0 ≡ Is hz
  unfolding decimal_hertz hertz_of signed up down
  hertz_back = rw inside (rw (not_negative hz most) (ap Is (back hz most)))

pub read_back_lem : ReadBack mhz_text
unfolding read_hertz six_decimals text whole six
read_back_lem hz h = ap (λ (xs : List ℕ). number_hertz (number_in xs)) (text_trimmed hz h) ∙ ap number_hertz (text_number hz h) ∙ hertz_back hz h

pub rust_back : ReadBack formatted
rust_back hz h = ap read_hertz (sym (formatted_is hz (lt_of_le_of_lt h (lit< tt)))) ∙ read_back_lem hz h

-- ---- the bytes that were written
module _ (hz at : ℕ) (was : List ℕ) (room : at + length (mhz_text hz) ≤ length was) where
  abbrev behind : List ℕ
  behind = drop (at + length (mhz_text hz)) was

  set_there : take (length (mhz_text hz)) (drop at (sets was at (mhz_text hz))) ≡ mhz_text hz
  set_there =
      rw (sets-eq (mhz_text hz) was at room, append_assoc (take at was) (mhz_text hz) behind, drop_at (take at was) (mhz_text hz ++ behind) at (length-take-le at was (omega arith)))
      (take_at (mhz_text hz) behind (length (mhz_text hz)) refl)

  has_room : hz < 8589934592000000 → answer_to hz at was ≡ Ok (at + length (mhz_text hz))
  unfolding answer_to
  has_room low = rw (lt-leb 8589934592000000 hz low, le-leb (at + length (mhz_text hz)) (length was) room) refl

pub carried : Carried
carried hz at was now wrote read h room w r =
    let fits : answer_to hz at was ≡ Ok (at + length (mhz_text hz)) = has_room hz at was room (lt_of_le_of_lt h (lit< tt)) in
    let there : now ≡ sets was at (mhz_text hz) = w.output ∙ rw fits refl in
    (w.answer ∙ fits, r ∙ ap read_hertz (rw there (set_there hz at was room)) ∙ read_back_lem hz h)
