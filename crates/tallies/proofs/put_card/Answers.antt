use Rattle.tallies.proofs.TallyLaws.{put_in, put_out}
use borrow.Author.Rules.{rules}
use Rattle.tallies.proofs.put_card.Goals as goal

pub returns-then-at-cards : goal.returns-then-at-cards
returns-then-at-cards c = search (rules, put_in)

pub returns-else-at-cards : goal.returns-else-at-cards
returns-else-at-cards c = search (rules, put_out)
