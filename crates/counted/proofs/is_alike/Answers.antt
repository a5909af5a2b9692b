use Rattle.counted.proofs.AlikeLaws.{other_fate, same_contact, same_key}
use borrow.Author.Rules.{rules}
use Rattle.counted.proofs.is_alike.Goals as goal

pub returns-then-r-fate : goal.returns-then-r-fate
returns-then-r-fate c = search (rules, other_fate)

pub returns-then-fate-eq-CONFIRMED : goal.returns-then-fate-eq-CONFIRMED
returns-then-fate-eq-CONFIRMED c = search (rules, same_contact)

pub returns : goal.returns
returns c = search (rules, same_key)
