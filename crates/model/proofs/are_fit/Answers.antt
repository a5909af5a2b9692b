use Rattle.std.proofs.Common.{◌∙◌, rules, tests}
use Rattle.std.proofs.lemmas.Iterator.{YieldsList-from_slice}
use Rattle.std.proofs.lemmas.Iterator.Search.{all_from_yields_List}
use Rattle.model.specs.Answer.{is_fit}
use Rattle.model.proofs.PlaceLaws.{fit_all}
use Rattle.model.proofs.are_fit.Goals as goal

pub returns : goal.returns
returns c =
    all_from_yields_List (is_fit c.args.text.now) _ _ _ c.all.ensures.ran (YieldsList-from_slice c.args.columns cc) (λ x b q k. search (rules, tests))
    ∙ fit_all c.args.text.now c.args.columns
