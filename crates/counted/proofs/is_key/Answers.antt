use Rattle.counted.proofs.AlikeLaws.{key_other, key_same}
use borrow.Author.Rules.{rules}
use Rattle.counted.proofs.is_key.Goals as goal

pub returns-else-r-s : goal.returns-else-r-s
returns-else-r-s c = search (rules, key_other)

pub returns-then-r-s : goal.returns-then-r-s
returns-then-r-s c = search (rules, key_same)
