-- The bands: bounds in Hz, both ends inside, and the name.
use Rattle.std.specs.Prelude.{ℕ, Bool, List, [], ◌∷◌, map, length, Option}
use Prim.Native.String.{String}
use Rattle.text.specs.Ascii.{ascii}
use Rattle.text.specs.Pick.{within}
use Rattle.text.specs.Space.{trimmed}
use Rattle.tables.specs.Table.{first_from, named}
use Rattle.tables.specs.declared.Span.{Span}

pub record Band : Type 0 where
  pub low : ℕ
  pub high : ℕ
  pub name : List ℕ

abbrev pub band : ℕ → ℕ → String → Band
band l h n = record { low = l; high = h; name = ascii n }

unfoldable pub bands : List Band
bands =
    band 135_700 137_800 "2190m"
    ∷ band 472_000 479_000 "630m"
    ∷ band 1_800_000 2_000_000 "160m"
    ∷ band 3_500_000 4_000_000 "80m"
    ∷ band 5_060_000 5_450_000 "60m"
    ∷ band 7_000_000 7_300_000 "40m"
    ∷ band 10_100_000 10_150_000 "30m"
    ∷ band 14_000_000 14_350_000 "20m"
    ∷ band 18_068_000 18_168_000 "17m"
    ∷ band 21_000_000 21_450_000 "15m"
    ∷ band 24_890_000 24_990_000 "12m"
    ∷ band 28_000_000 29_700_000 "10m"
    ∷ band 50_000_000 54_000_000 "6m"
    ∷ band 70_000_000 71_000_000 "4m"
    ∷ band 144_000_000 148_000_000 "2m"
    ∷ band 222_000_000 225_000_000 "1.25m"
    ∷ band 420_000_000 450_000_000 "70cm"
    ∷ band 902_000_000 928_000_000 "33cm"
    ∷ band 1_240_000_000 1_300_000_000 "23cm"
    ∷ []

unfoldable pub band_names : List (List ℕ)
band_names = map (λ (b : Band). b.name) bands

-- the frequency is in the band
abbrev pub holds : ℕ → Band → Bool
holds hz b = within hz b.low b.high

-- a column of lower bounds and a column of upper bounds, as bands without names
unfoldable pub bounded : List ℕ → List ℕ → List Band
bounded [] hs = []
bounded (l ∷ ls) [] = []
bounded (l ∷ ls) (h ∷ hs) = record { low = l; high = h; name = [] } ∷ bounded ls hs

-- the band of a frequency
unfoldable pub band_for : ℕ → Option ℕ
band_for hz = first_from (holds hz) 0 bands

-- the band that a text names, white space at its ends and the case of its letters aside
unfoldable pub band_named : List ℕ → Option ℕ
band_named text = named (trimmed text) band_names

-- the entries of every band
unfoldable pub every_band : Span
every_band = record { first = 0; count = length bands }
