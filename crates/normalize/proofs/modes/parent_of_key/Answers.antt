use Rattle.std.specs.Prelude.{Option, ℕ}
use mathlib.Core.Path.{ap, ◌∙◌}
use Rattle.letters.specs.Capitals.{raised}
use Rattle.tables.specs.Table.{key_of}
use Rattle.tables.specs.Modes.{modes, mode_names}
use Rattle.normalize.specs.Modes.{submodes}
use Rattle.normalize.specs.Normal.{entry_at, mode_numbers, parent_of_key}
use Rattle.normalize.proofs.modes.parent_of_key.Goals as goal

pub returns : goal.returns
unfolding parent_of_key submodes mode_names modes key_of raised
returns c = c.mode_at.ensures ∙ ap (λ (f : Option ℕ). entry_at (mode_numbers submodes) f) c.first_key.ensures
