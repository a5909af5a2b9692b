use mathlib.Core.Path.{◌∙◌}
use Rattle.index.proofs.RowLaws.{seconds_are}
use Rattle.index.proofs.seconds_in.Goals as goal

pub returns : goal.returns
returns c = c.unwrap_or.ensures ∙ seconds_are c.args.m
