use Rattle.counted.proofs.AlikeLaws.{code_contact, code_key}
use borrow.Author.Rules.{rules}
use Rattle.counted.proofs.code_in.Goals as goal

pub returns-then-r-eq-CONFIRMED : goal.returns-then-r-eq-CONFIRMED
returns-then-r-eq-CONFIRMED c = search (rules, code_contact)

pub returns : goal.returns
returns c = search (rules, code_key)
