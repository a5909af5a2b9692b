-- Worked examples.
use Rattle.std.specs.Prelude.{◌≡◌, refl, [], ◌∷◌}
use Prim.Native.String.{String}
use Rattle.text.specs.Ascii.{ascii}
use Rattle.adif.specs.Grammar.{Field}
use Rattle.merge.specs.Merge.{merged}

abbrev said : String → String → Field
said name value = record { name = ascii name; value = ascii value }

-- of two fields called MODE that of the first list stands; all in byte order
one_wins : merged (said "CALL" "W1AW" ∷ said "MODE" "" ∷ []) (said "AGE" "7" ∷ said "MODE" "FM" ∷ said "ZZ" "" ∷ [])
    ≡ said "AGE" "7" ∷ said "CALL" "W1AW" ∷ said "MODE" "" ∷ said "ZZ" "" ∷ []
one_wins = refl

-- a name that begins another is below it
shorter_first : merged (said "FREQ_RX" "" ∷ []) (said "FREQ" "" ∷ said "FREQ_RY" "" ∷ []) ≡ said "FREQ" "" ∷ said "FREQ_RX" "" ∷ said "FREQ_RY" "" ∷ []
shorter_first = refl
