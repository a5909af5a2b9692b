use Rattle.std.proofs.Common.{◌∙◌, rules, tests}
use Rattle.std.proofs.lemmas.Iterator.{YieldsList-from_slice}
use Rattle.std.proofs.lemmas.Iterator.Search.{any_from_yields_List}
use Rattle.entries.proofs.RowLaws.{bears_is}
use Rattle.entries.proofs.bears_any.Goals as goal

pub returns : goal.returns
returns c =
    any_from_yields_List (λ a. a.present) _ _ _ c.any.ensures.ran (YieldsList-from_slice c.args.answers cc) (λ x b q k. search (rules, tests))
    ∙ bears_is c.args.answers
