use borrow.Author.Rules.{rules}
use Rattle.contacts.specs.Lists.{count_of}
use Rattle.contacts.proofs.count_of.Goals as goal

pub returns-clause-value : goal.returns-clause-value
unfolding count_of
returns-clause-value c = search rules

pub returns-clause-upper_bound : goal.returns-clause-upper_bound
unfolding count_of
returns-clause-upper_bound c = search rules
