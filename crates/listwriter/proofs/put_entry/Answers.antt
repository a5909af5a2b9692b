use Rattle.listwriter.proofs.PartLaws.{entry_first, entry_next, entry_put}
use borrow.Author.Rules.{rules}
use Rattle.listwriter.proofs.put_entry.Goals as goal

pub put_head-a-requires : goal.put_head-a-requires
put_head-a-requires c = search (rules, entry_first)

pub put_texts-requires : goal.put_texts-requires
put_texts-requires c = (search (rules, entry_next), search rules)

pub returns : goal.returns
returns c = search (rules, entry_put)
