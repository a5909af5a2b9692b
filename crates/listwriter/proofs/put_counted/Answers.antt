use Rattle.listwriter.proofs.PartLaws.{counted_first, counted_next, counted_put}
use borrow.Author.Rules.{rules}
use Rattle.listwriter.proofs.put_counted.Goals as goal

pub put_byte-a-requires : goal.put_byte-a-requires
put_byte-a-requires c = search (rules, counted_first)

pub put_bytes-requires : goal.put_bytes-requires
put_bytes-requires c = search (rules, counted_next)

pub returns : goal.returns
returns c = search (rules, counted_put)
