use Rattle.std.proofs.Common.{[], ◌∷◌, w64}
use mir.ValLaws.{to_z-of_z}
use Rattle.index.proofs.ContactLaws.{plain_length}
use Rattle.showplan.proofs.PrintedLaws.{planned_alone}
use Rattle.showplan.proofs.planned_in.Goals as goal

pub returns : goal.returns
returns c =
    planned_alone _ _ _ _ _ _ (c.no_contact.result ∷ []) (plain_length (c.no_contact.result ∷ [])) _ _ _ _ _ (rw (to_z-of_z w64 _ c.ranges.window) at c.plan.ensures)
