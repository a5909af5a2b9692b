-- ASCII capitals.
use Rattle.std.specs.Prelude.{ℕ, ◌-◌, List, map}
use Rattle.text.specs.Pick.{pick, within}

-- a letter a to z as A to Z, any other byte as it is
unfoldable pub raised : ℕ → ℕ
raised b = pick (within b 0x61 0x7A) (b - 0x20) b

abbrev pub capitals : List ℕ → List ℕ
capitals xs = map raised xs
