-- The modes, each with its class.
use Rattle.std.specs.Prelude.{ℕ, List, [], ◌∷◌, map}
use Prim.Native.String.{String}
use Rattle.text.specs.Ascii.{ascii}
use Rattle.tables.specs.declared.ModeClass.{ModeClass}
use Rattle.tables.specs.declared.ModeClass.TheVariants.{Phone, Cw, Digital, Image}

pub record Mode : Type 0 where
  pub name : List ℕ
  pub class : ModeClass

abbrev pub mode : String → ModeClass → Mode
mode n c = record { name = ascii n; class = c }

unfoldable pub modes : List Mode
modes =
    mode "SSB" Phone
    ∷ mode "AM" Phone
    ∷ mode "FM" Phone
    ∷ mode "DIGITALVOICE" Phone
    ∷ mode "CW" Cw
    ∷ mode "FT8" Digital
    ∷ mode "MFSK" Digital
    ∷ mode "JT65" Digital
    ∷ mode "JT9" Digital
    ∷ mode "JT4" Digital
    ∷ mode "Q65" Digital
    ∷ mode "FSK441" Digital
    ∷ mode "ISCAT" Digital
    ∷ mode "MSK144" Digital
    ∷ mode "PSK" Digital
    ∷ mode "RTTY" Digital
    ∷ mode "OLIVIA" Digital
    ∷ mode "CONTESTIA" Digital
    ∷ mode "DOMINO" Digital
    ∷ mode "THOR" Digital
    ∷ mode "THRB" Digital
    ∷ mode "MT63" Digital
    ∷ mode "HELL" Digital
    ∷ mode "ARDOP" Digital
    ∷ mode "PACKET" Digital
    ∷ mode "PACTOR" Digital
    ∷ mode "VARA" Digital
    ∷ mode "WINMOR" Digital
    ∷ mode "SSTV" Image
    ∷ mode "ATV" Image
    ∷ mode "FAX" Image
    ∷ []

unfoldable pub mode_names : List (List ℕ)
mode_names = map (λ (m : Mode). m.name) modes
