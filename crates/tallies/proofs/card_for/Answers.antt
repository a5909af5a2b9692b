use Rattle.tallies.proofs.TallyLaws.{card_is}
use borrow.Author.Rules.{rules}
use Rattle.tallies.proofs.card_for.Goals as goal

pub returns : goal.returns
returns c = search (rules, card_is)
