use Rattle.contacts.specs.Contacts.{sound_texts}
use Rattle.contacts.proofs.is_sound_texts.Goals as goal

pub returns : goal.returns
unfolding sound_texts
returns c = cc
