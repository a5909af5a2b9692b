use Rattle.std.specs.List.{each_same}
use Rattle.wiped.proofs.clear_cards.Goals as goal

pub returns : goal.returns
returns c = c.fill.ensures.after (λ y h. each_same _ y h.whole)
