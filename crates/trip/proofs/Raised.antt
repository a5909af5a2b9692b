-- Raising a name's letters changes neither its characters, nor its colons. Assumes nothing.
use mathlib.Core.Path.{◌≡◌, refl, sym, ◌∙◌}
use mathlib.Core.Bool.{Bool, true, false}
use mathlib.Core.Logic.{inr}
use mathlib.Core.List.{List, [], ◌∷◌}
use Prim.Native.Nat.{ℕ, ◌-◌, ◌≤◌, ◌<◌}
use native.Mathlib.Omega.{arith}
use lib.ListN.{get_or}
use lib.Dec.{leb}
use borrow.Author.Tests.{le-leb, lt-leb, leb-true}
use Rattle.text.specs.Pick.{pick, within}
use Rattle.text.specs.Utf8.{char_len, long_char, second3, second4, valid_up_to}
use Rattle.letters.specs.Capitals.{raised, capitals}
use Rattle.letters.specs.Same.{same_raised}
use Rattle.letters.proofs.CapitalLaws.{capitals_twice}
use Rattle.letters.proofs.SpaceLaws.{within_raised, byte_raised, lead_capitals}
use Rattle.tags.specs.Tags.{kind_of, eoh, eor, eof}
use Rattle.adif.specs.Grammar.{Without}

-- a byte by whether it is a small letter
data Letter (b : ℕ) : Type 0 where
  small : 0x61 ≤ b → b ≤ 0x7A → raised b ≡ b - 0x20 → Letter b
  other : raised b ≡ b → Letter b

letter : (b : ℕ) → Letter b
unfolding raised
letter b = by (leb 0x61 b) (leb b 0x7A) refl refl
  where
    by : (s t : Bool) → leb 0x61 b ≡ s → leb b 0x7A ≡ t → Letter b
    by true true e d = small (leb-true 0x61 b e) (leb-true b 0x7A d) (rw (e, d))
    by true false e d = other (rw (e, d))
    by false t e d = other (rw e)

-- tests that do not tell the two apart: against a bound above all letters
module _ (b : ℕ) where
  pub low_raised_high : (x : ℕ) → 0x7A < x → leb x (raised b) ≡ leb x b
  low_raised_high x h = by (letter b)
    where
      by : Letter b → leb x (raised b) ≡ leb x b
      by (small p q e) = rw (e, lt-leb x (b - 0x20) (omega arith), lt-leb x b (omega arith))
      by (other e) = rw e

  pub high_raised_high : (x : ℕ) → 0x79 < x → leb (raised b) x ≡ leb b x
  high_raised_high x h = by (letter b)
    where
      by : Letter b → leb (raised b) x ≡ leb b x
      by (small p q e) = rw (e, le-leb (b - 0x20) x (omega arith), le-leb b x (omega arith))
      by (other e) = rw e

pick_high : (t : Bool) (x y : ℕ) → 0x7A < x → 0x7A < y → 0x7A < pick t x y
pick_high true x y p q = p
pick_high false x y p q = q

-- ---- characters
long_raised : (a b c d : ℕ) → long_char (raised a) (raised b) (raised c) (raised d) ≡ long_char a b c d
unfolding long_char second3 second4
long_raised a b c d =
    rw
    (within_raised a 0xC2 0xDF (inr (omega arith)), within_raised b 0x80 0xBF (inr (omega arith)), within_raised a 0xE0 0xEF (inr (omega arith)), high_raised_high a 0xE0 (omega arith), within_raised a 0xED 0xED (inr (omega arith)), within_raised b (pick (leb a 0xE0) 0xA0 0x80) (pick (within a 0xED 0xED) 0x9F 0xBF) (inr (pick_high (leb a 0xE0) 0xA0 0x80 (omega arith) (omega arith))), within_raised c 0x80 0xBF (inr (omega arith)), within_raised a 0xF0 0xF4 (inr (omega arith)), high_raised_high a 0xF0 (omega arith), low_raised_high a 0xF4 (omega arith), within_raised b (pick (leb a 0xF0) 0x90 0x80) (pick (leb 0xF4 a) 0x8F 0xBF) (inr (pick_high (leb a 0xF0) 0x90 0x80 (omega arith) (omega arith))), within_raised d 0x80 0xBF (inr (omega arith)))

char_raised : (xs : List ℕ) → char_len (capitals xs) ≡ char_len xs
unfolding char_len
char_raised xs = simp (byte_raised, high_raised_high (get_or xs 0 0) 0x7F (omega arith), long_raised)

pub good_raised : (xs : List ℕ) → valid_up_to (capitals xs) ≡ valid_up_to xs
unfolding valid_up_to
good_raised xs = lead_capitals char_len char_raised xs

pub word_raised : (xs w : List ℕ) → same_raised (capitals xs) w ≡ same_raised xs w
unfolding same_raised
word_raised xs w = rw (capitals_twice xs) refl

pub kind_raised : (xs : List ℕ) → kind_of (capitals xs) ≡ kind_of xs
unfolding kind_of
kind_raised xs = rw (word_raised xs eoh, word_raised xs eor, word_raised xs eof)

pub without_raised : (b : ℕ) (xs : List ℕ) → b < 0x41 → Without b xs → Without b (capitals xs)
without_raised b [] h w = tt
without_raised b (x ∷ xs) h w = (by (letter x), without_raised b xs h w.1)
  where
    by : Letter x → raised x ≡ b → ⊥
    by (small p q e) z = omega arith
    by (other e) z = w.0 (sym e ∙ z)
