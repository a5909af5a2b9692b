-- White space (Unicode's White_Space) as the bytes of UTF-8, at the front and at the end of a list.
use Rattle.std.specs.Prelude.{ℕ, ◌-◌, Bool, true, false, List, reverse, length, get_or, take, drop, eqb}
use Rattle.text.specs.Pick.{pick, both, either, within}
use Rattle.text.specs.Walk.{lead}

-- U+0009 to U+000D, U+0020
unfoldable pub space1 : ℕ → Bool
space1 a = either (within a 0x09 0x0D) (eqb a 0x20)

-- U+0085, U+00A0
unfoldable pub space2 : ℕ → ℕ → Bool
space2 a b = both (eqb a 0xC2) (either (eqb b 0x85) (eqb b 0xA0))

-- the last byte of U+2000 to U+200A, U+2028, U+2029, U+202F
unfoldable pub space80 : ℕ → Bool
space80 c = either (within c 0x80 0x8A) (either (within c 0xA8 0xA9) (eqb c 0xAF))

-- U+1680, those, U+205F, U+3000
unfoldable pub space3 : ℕ → ℕ → ℕ → Bool
space3 a b c =
    either (both (both (eqb a 0xE1) (eqb b 0x9A)) (eqb c 0x80))
    (either (both (both (eqb a 0xE2) (eqb b 0x80)) (space80 c))
    (either (both (both (eqb a 0xE2) (eqb b 0x81)) (eqb c 0x9F))
    (both (both (eqb a 0xE3) (eqb b 0x80)) (eqb c 0x80))))

-- which of the three it is, as a number of bytes
unfoldable pub width : Bool → Bool → Bool → ℕ
width p q r = pick p 1 (pick q 2 (pick r 3 0))

-- how many bytes the white space at the front has, 0 where there is none; and the same of a list that is read from its end
unfoldable pub space_len : List ℕ → ℕ
space_len xs = width (space1 (get_or xs 0 0)) (space2 (get_or xs 0 0) (get_or xs 1 0)) (space3 (get_or xs 0 0) (get_or xs 1 0) (get_or xs 2 0))

unfoldable pub space_back : List ℕ → ℕ
space_back xs = width (space1 (get_or xs 0 0)) (space2 (get_or xs 1 0) (get_or xs 0 0)) (space3 (get_or xs 2 0) (get_or xs 1 0) (get_or xs 0 0))

-- the one read from the end, or the other
abbrev pub space_ahead : Bool → List ℕ → ℕ
space_ahead true xs = space_back xs
space_ahead false xs = space_len xs

-- where the text starts, after white space; where it ends, before white space
unfoldable pub trim_start : List ℕ → ℕ
trim_start xs = lead space_len xs

unfoldable pub trim_end : List ℕ → ℕ
trim_end xs = length xs - lead space_back (reverse xs)

-- the text without the white space at both ends
unfoldable pub trimmed : List ℕ → List ℕ
trimmed xs = take (trim_end (drop (trim_start xs) xs)) (drop (trim_start xs) xs)

-- nothing but white space
unfoldable pub blank : List ℕ → Bool
blank xs = eqb (trim_start xs) (length xs)
