use Rattle.tags.proofs.TagLaws.{value_bad, value_cut, value_torn, value_whole}
use Rattle.tags.proofs.value_of.Goals as goal

pub returns-in_default : goal.returns-in_default
returns-in_default c = search value_bad

pub returns-then-left-wanted : goal.returns-then-left-wanted
returns-then-left-wanted c = search value_cut

pub returns-then-inside : goal.returns-then-inside
returns-then-inside c = search value_torn

pub returns : goal.returns
returns c = search value_whole
