use Rattle.listwriter.proofs.AppendLaws.{unsound, low, all_counted, entered}
use borrow.Author.Rules.{rules}
use Rattle.listwriter.proofs.enter.Goals as goal

pub returns-then-not-all : goal.returns-then-not-all
returns-then-not-all c = search (rules, unsound)

pub returns-then-e-largest : goal.returns-then-e-largest
returns-then-e-largest c = search (rules, low)

pub put_behind-requires : goal.put_behind-requires
put_behind-requires c = (search rules, search rules, search rules, search (rules, all_counted))

pub returns : goal.returns
returns c = search (rules, entered)
