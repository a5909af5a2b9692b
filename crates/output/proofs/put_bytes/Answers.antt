use native.Mathlib.Omega.{arith}
use Rattle.std.proofs.lemmas.Grind.{common_steps}
use Rattle.std.proofs.lemmas.List.Edits.{sets-eq}
use Rattle.output.specs.Put.{Put, Room}
use Rattle.output.proofs.put_bytes.Goals as goal

pub returns : goal.returns
unfolding Put Room
returns c = grind (arith, common_steps, sets-eq)
