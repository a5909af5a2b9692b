use lib.Seq.{length-take-le}
use Rattle.text.proofs.SpaceLaws.{trim_part}
use borrow.Author.Rules.{rules}
use Rattle.text.proofs.space.cut.Goals as goal

pub slice_bounds-result-end : goal.slice_bounds-result-end
slice_bounds-result-end c = search (rules, length-take-le)

pub returns : goal.returns
returns c = search trim_part
