use Rattle.contacts.proofs.are_texts_sound.Goals as goal

pub returns : goal.returns
returns c = cc
