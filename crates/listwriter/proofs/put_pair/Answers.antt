use Rattle.listwriter.proofs.PartLaws.{pair_first, pair_next, pair_put}
use borrow.Author.Rules.{rules}
use Rattle.listwriter.proofs.put_pair.Goals as goal

pub put_counted-p-requires : goal.put_counted-p-requires
put_counted-p-requires c = (search (rules, pair_first), search rules)

pub put_counted-requires : goal.put_counted-requires
put_counted-requires c = (search (rules, pair_next), search rules)

pub returns : goal.returns
returns c = search (rules, pair_put)
