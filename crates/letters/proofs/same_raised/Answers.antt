use Rattle.letters.proofs.FoldLaws.{same_is}
use Rattle.letters.proofs.same_raised.Goals as goal

pub returns : goal.returns
returns c = same_is _ _ _ c.eq_ignore_ascii_case.ensures.test
