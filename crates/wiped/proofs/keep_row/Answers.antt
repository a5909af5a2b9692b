use borrow.Author.Rules.{rules}
use Rattle.wiped.proofs.KeptLaws.{rest_blank}
use Rattle.wiped.proofs.keep_row.Goals as goal

pub returns : goal.returns
returns c = rest_blank _ _ _ c.told-row (search rules) (c.fill.ensures.after (λ y h. h))
