use Rattle.summary.proofs.SizeLaws.{none_size, some_size}
use Rattle.summary.proofs.part_size.Goals as goal

pub returns-then-n-eq0-clause-value : goal.returns-then-n-eq0-clause-value
returns-then-n-eq0-clause-value c = search none_size

pub returns-clause-value : goal.returns-clause-value
returns-clause-value c = search some_size
