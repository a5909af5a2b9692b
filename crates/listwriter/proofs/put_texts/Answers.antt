use Rattle.listwriter.proofs.PartLaws.{texts_first, texts_second, texts_third, texts_put}
use borrow.Author.Rules.{rules}
use Rattle.listwriter.proofs.put_texts.Goals as goal

pub put_counted-a-requires : goal.put_counted-a-requires
put_counted-a-requires c = (search (rules, texts_first), search rules)

pub put_pair-b-requires : goal.put_pair-b-requires
put_pair-b-requires c = (search (rules, texts_second), search rules, search rules)

pub put_pair-requires : goal.put_pair-requires
put_pair-requires c = (search (rules, texts_third), search rules, search rules)

pub returns : goal.returns
returns c = search texts_put
