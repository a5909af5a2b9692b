use borrow.Author.Rules.{rules}
use Rattle.decimal.specs.Digits.{decimal}
use Rattle.output.proofs.decimal_size.Goals as goal

pub returns : goal.returns
unfolding decimal
returns c = search rules
