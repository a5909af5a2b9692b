-- UTF-8: the well-formed byte sequences of Unicode's table 3-7. A byte past the end counts as 0, which continues nothing.
use Rattle.std.specs.Prelude.{ℕ, ◌≡◌, Bool, false, List, length, get_or, leb, eqb}
use Rattle.text.specs.Pick.{pick, both, within}
use Rattle.text.specs.Walk.{lead}

-- a byte that continues a character
abbrev pub cont : ℕ → Bool
cont b = within b 0x80 0xBF

-- the second byte b is in the range that the first byte a of three asks; of four
unfoldable pub second3 : ℕ → ℕ → Bool
second3 a b = within b (pick (leb a 0xE0) 0xA0 0x80) (pick (within a 0xED 0xED) 0x9F 0xBF)

unfoldable pub second4 : ℕ → ℕ → Bool
second4 a b = within b (pick (leb a 0xF0) 0x90 0x80) (pick (leb 0xF4 a) 0x8F 0xBF)

-- how many bytes the character of more than one byte at a b c d .. has: 0 where they begin none
unfoldable pub long_char : ℕ → ℕ → ℕ → ℕ → ℕ
long_char a b c d =
    pick (within a 0xC2 0xDF) (pick (cont b) 2 0)
    (pick (within a 0xE0 0xEF) (pick (both (second3 a b) (cont c)) 3 0)
    (pick (within a 0xF0 0xF4) (pick (both (second4 a b) (both (cont c) (cont d))) 4 0)
    0))

unfoldable pub char_len : List ℕ → ℕ
char_len xs = pick (leb (get_or xs 0 0) 0x7F) 1 (long_char (get_or xs 0 0) (get_or xs 1 0) (get_or xs 2 0) (get_or xs 3 0))

-- how many bytes from the front are whole characters: where the list stops being UTF-8, or its length
unfoldable pub valid_up_to : List ℕ → ℕ
valid_up_to xs = lead char_len xs

-- it is UTF-8 throughout
unfoldable pub utf8 : List ℕ → Bool
utf8 xs = eqb (valid_up_to xs) (length xs)

abbrev pub Utf8 : List ℕ → Type 0
Utf8 xs = valid_up_to xs ≡ length xs

-- the place i lies between two characters: what stands there continues none
abbrev pub Between : List ℕ → ℕ → Type 0
Between xs i = cont (get_or xs i 0) ≡ false
