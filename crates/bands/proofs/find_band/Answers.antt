use mathlib.Core.Path.{refl, ap, ◌∙◌}
use mathlib.Core.List.{List}
use Prim.Native.Nat.{ℕ}
use Rattle.letters.specs.Capitals.{raised}
use Rattle.tables.specs.Table.{named, key_of}
use Rattle.tables.specs.Bands.{bands, band_names, band_named}
use Rattle.tables.proofs.KeyLaws.{keys_named}
use Rattle.bands.proofs.find_band.Goals as goal

pub returns : goal.returns
unfolding band_named band_names bands key_of raised
returns c = c.first_key.ensures ∙ keys_named _ _ band_names refl c.text_key.ensures ∙ ap (λ (x : List ℕ). named x band_names) c.trim.ensures
