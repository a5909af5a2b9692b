use borrow.Author.Rules.{rules}
use Rattle.decimal.specs.Digits.{decimal}
use Rattle.output.proofs.put_decimal.Goals as goal

pub put_digits-requires : goal.put_digits-requires
unfolding decimal
put_digits-requires c = search rules

pub returns : goal.returns
unfolding decimal
returns c = search rules
