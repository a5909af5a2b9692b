use mathlib.Core.Path.{sym}
use Rattle.index.proofs.ContactLaws.{contact_back}
use Rattle.indexing.proofs.in_front.Goals as goal

pub returns : goal.returns
returns c = sym (contact_back _)
