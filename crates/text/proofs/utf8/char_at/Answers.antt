use Rattle.text.proofs.Utf8Laws.{ascii, longer, char_fits}
use Rattle.text.proofs.Utf8Laws.{ascii, longer}
use borrow.Author.Rules.{rules}
use Rattle.text.proofs.utf8.char_at.Goals as goal

pub returns-then-a-le127-clause-value : goal.returns-then-a-le127-clause-value
returns-then-a-le127-clause-value c = search (rules, ascii)

pub returns-then-a-le127-clause-result_in_bounds : goal.returns-then-a-le127-clause-result_in_bounds
returns-then-a-le127-clause-result_in_bounds c = search (rules, ascii)

pub returns-clause-value : goal.returns-clause-value
returns-clause-value c = search (longer, char_fits)

pub returns-clause-result_in_bounds : goal.returns-clause-result_in_bounds
returns-clause-result_in_bounds c = search (longer, char_fits)
