use Rattle.std.proofs.Common.{◌≡◌, sym, ◌∙◌, rules, tests}
use Rattle.std.proofs.lemmas.Iterator.{YieldsList-from_slice}
use Rattle.std.proofs.lemmas.Iterator.Search.{position_from_yields_List}
use Rattle.text.specs.Pick.{within}
use Rattle.tables.specs.Table.{first_from}
use Rattle.tables.proofs.KeyLaws.{first_at}
use Rattle.bands.proofs.band_in.Goals.{After-position}
use Rattle.bands.proofs.band_in.Goals as goal

found : (c : After-position) → c.position.result ≡ first_from (λ b. within c.args.hz b.0 b.1) 0 c.args.bounds.now
found c =
    position_from_yields_List (λ b. within c.args.hz b.0 b.1) _ _ c.position.result c.position.ensures.ran (YieldsList-from_slice c.args.bounds.now cc)
    (λ x b q k. search (rules, tests)) ∙ first_at (λ b. within c.args.hz b.0 b.1) c.args.bounds.now

pub returns-in_err-i : goal.returns-in_err-i
returns-in_err-i c = c.from_residual.ensures ∙ sym c.in_err-i.was ∙ found (goal.at.returns-in_err-i c).After-position

pub returns : goal.returns
returns c = sym c.in_ok-i.was ∙ found (goal.at.returns c).After-position
