use Rattle.std.proofs.Common.{◌≡◌, sym, ◌∙◌, eqb, rules, tests}
use Rattle.std.proofs.lemmas.Iterator.{YieldsList-from_slice}
use Rattle.std.proofs.lemmas.Iterator.Search.{position_from_yields_List}
use Rattle.tables.specs.Table.{first_from}
use Rattle.tables.proofs.KeyLaws.{first_at}
use Rattle.tables.proofs.first_key.Goals.{After-position}
use Rattle.tables.proofs.first_key.Goals as goal

found : (c : After-position) → c.position.result ≡ first_from (eqb c.args.k) 0 c.args.keys.now
found c =
    position_from_yields_List (eqb c.args.k) _ _ c.position.result c.position.ensures.ran (YieldsList-from_slice c.args.keys.now cc)
    (λ x b q k. search (rules, tests)) ∙ first_at (eqb c.args.k) c.args.keys.now

pub returns-in_err-i : goal.returns-in_err-i
returns-in_err-i c = c.from_residual.ensures ∙ sym c.in_err-i.was ∙ found (goal.at.returns-in_err-i c).After-position

pub returns : goal.returns
returns c = sym c.in_ok-i.was ∙ found (goal.at.returns c).After-position
