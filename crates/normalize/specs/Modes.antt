-- The submodes, each with its parent; the aliases, each with the mode that it stands for.
use Rattle.std.specs.Prelude.{ℕ, List, [], ◌∷◌}
use Prim.Native.String.{String}
use Rattle.text.specs.Ascii.{ascii}

-- a name that is not itself a mode, and the mode that goes with it
pub record Known : Type 0 where
  pub name : List ℕ
  pub mode : List ℕ

abbrev pub known : String → String → Known
known n m = record { name = ascii n; mode = ascii m }

unfoldable pub submodes : List Known
submodes =
    known "PSK31" "PSK"
    ∷ known "PSK63" "PSK"
    ∷ known "PSK125" "PSK"
    ∷ known "QPSK31" "PSK"
    ∷ known "QPSK63" "PSK"
    ∷ known "FT4" "MFSK"
    ∷ known "JS8" "MFSK"
    ∷ known "JT65A" "JT65"
    ∷ known "JT65B" "JT65"
    ∷ known "JT65C" "JT65"
    ∷ []

unfoldable pub aliases : List Known
aliases =
    known "USB" "SSB"
    ∷ known "LSB" "SSB"
    ∷ known "CWU" "CW"
    ∷ known "CWL" "CW"
    ∷ known "PKTUSB" "MFSK"
    ∷ known "DIG" "MFSK"
    ∷ known "DATA" "MFSK"
    ∷ []
