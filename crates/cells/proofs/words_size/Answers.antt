use Rattle.cells.proofs.CellLaws.{size_in_lem, size_out}
use Rattle.cells.proofs.words_size.Goals as goal

pub returns-then-in_text : goal.returns-then-in_text
returns-then-in_text c = search size_in_lem

pub returns : goal.returns
returns c = search size_out
