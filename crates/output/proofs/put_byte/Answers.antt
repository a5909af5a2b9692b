use Rattle.output.specs.Put.{Room}
use Rattle.output.proofs.PutLaws.{put_one}
use borrow.Author.Rules.{rules}
use Rattle.output.proofs.put_byte.Goals as goal

pub bounds-out-at : goal.bounds-out-at
unfolding Room
bounds-out-at c = search rules

pub overflow_add-result : goal.overflow_add-result
unfolding Room
overflow_add-result c = search rules

pub returns : goal.returns
returns c = search put_one
