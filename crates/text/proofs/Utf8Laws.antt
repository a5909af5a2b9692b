-- Laws of `specs/Utf8.antt`. Assumes nothing.
use mathlib.Core.Path.{◌≡◌}
use mathlib.Core.Bool.{Bool, true, false}
use Prim.Native.Nat.{ℕ, ◌+◌, ◌≤◌, ◌<◌}
use native.Mathlib.Nat.{add-zero}
use native.Mathlib.Omega.{arith}
use mathlib.Core.List.{List, [], ◌∷◌}
use lib.ListN.{length, drop, get_or, length-drop}
use lib.Seq.{get_or-drop}
use lib.Dec.{T, leb, ltb, ltb→lt, lit≤}
use borrow.Author.Tests.{le-leb, lt-leb}
use Rattle.text.specs.Pick.{pick, within}
use Rattle.text.specs.Utf8.{long_char, char_len, second3, second4}
use Rattle.text.proofs.BoolLaws.{both_no}

-- the character at i, by its bytes
module _ (s : List ℕ) (i : ℕ) where
  pub ascii : get_or s i 0 ≤ 0x7F → 1 ≡ char_len (drop i s)
  unfolding char_len
  ascii h = simp (get_or-drop, add-zero, le-leb (get_or s i 0) 0x7F h)

  pub longer : (n x y z : ℕ) → 0x7F < get_or s i 0 → x ≡ get_or s (i + 1) 0 → y ≡ get_or s (i + 2) 0 → z ≡ get_or s (i + 3) 0
      → n ≡ long_char (get_or s i 0) x y z → n ≡ char_len (drop i s)
  unfolding char_len
  longer n x y z h ex ey ez e = simp (get_or-drop, add-zero, lt-leb (get_or s i 0) 0x7F h, ← ex, ← ey, ← ez) e

-- a character ends within its list
pub pick_le : (t : Bool) (m a b : ℕ) → a ≤ m → b ≤ m → pick t a b ≤ m
pick_le true m a b p q = p
pick_le false m a b p q = q

low : (t : Bool) (x y u : ℕ) → T (ltb 0 x) → T (ltb 0 y) → within 0 (pick t x y) u ≡ false
low true x y u p q = simp (lt-leb x 0 (ltb→lt 0 x p))
low false x y u p q = simp (lt-leb y 0 (ltb→lt 0 y q))

no_second3 : (a : ℕ) → second3 a 0 ≡ false
unfolding second3
no_second3 a = low (leb a 0xE0) 0xA0 0x80 (pick (within a 0xED 0xED) 0x9F 0xBF) tt tt

no_second4 : (a : ℕ) → second4 a 0 ≡ false
unfolding second4
no_second4 a = low (leb a 0xF0) 0x90 0x80 (pick (leb 0xF4 a) 0x8F 0xBF) tt tt

ruleset small = (pick_le, lit≤, tt)

four_le : (a b c d : ℕ) → long_char a b c d ≤ 4
unfolding long_char
four_le a b c d = search small depth 9

three_le : (a b c : ℕ) → long_char a b c 0 ≤ 3
unfolding long_char
three_le a b c = simp both_no (search small depth 9)

two_le : (a b : ℕ) → long_char a b 0 0 ≤ 2
unfolding long_char
two_le a b = simp both_no (search small depth 9)

one_le : (a : ℕ) → long_char a 0 0 0 ≤ 1
unfolding long_char
one_le a = simp (no_second3, no_second4) (search small depth 9)

pub char_within : (xs : List ℕ) → 0 < length xs → char_len xs ≤ length xs
unfolding char_len
char_within [] h = h
char_within (a ∷ []) h = search (small, one_le)
char_within (a ∷ b ∷ []) h = search (small, two_le)
char_within (a ∷ b ∷ c ∷ []) h = search (small, three_le)
char_within (a ∷ b ∷ c ∷ d ∷ r) h =
    pick_le (leb a 0x7F) (length (a ∷ b ∷ c ∷ d ∷ r)) 1 (long_char a b c d) (omega arith) (omega (arith, four_le a b c d))

pub char_fits : (s : List ℕ) (i n : ℕ) → i < length s → n ≡ char_len (drop i s) → i + n ≤ length s
char_fits s i n h e = rw e (omega (arith, length-drop i s, char_within (drop i s) (simp length-drop (omega arith))))
