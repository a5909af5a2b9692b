use mathlib.Core.Path.{refl}
use borrow.Author.Rules.{rules}
use Rattle.index.proofs.RowLaws.{mix_raised_on, mix_raised_end}
use Rattle.index.proofs.stir_in_capitals.Goals as goal

pub loop-b-init : goal.loop-b-init
loop-b-init c = refl

pub loop-b-preserved : goal.loop-b-preserved
loop-b-preserved c = search (rules, mix_raised_on)

pub returns : goal.returns
returns c = search (rules, mix_raised_end)
