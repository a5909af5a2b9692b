use borrow.Author.Rules.{rules}
use Rattle.text.specs.Utf8.{char_len}
use Rattle.text.proofs.Walks.{out}
use Rattle.text.proofs.BlockLaws.{walk_starts, ascii_block, passed_on, passed_bad}
use Rattle.text.proofs.utf8.blocks_up_to.Goals as goal

pub loop-i-init : goal.loop-i-init
loop-i-init c = search (rules, walk_starts)

pub loop-i-preserved-then-largest-le127 : goal.loop-i-preserved-then-largest-le127
loop-i-preserved-then-largest-le127 c = (search rules, search ascii_block)

pub returns-then-j-e : goal.returns-then-j-e
returns-then-j-e c = search passed_bad

pub loop-i-preserved : goal.loop-i-preserved
loop-i-preserved c = (search rules, search passed_on)

pub returns : goal.returns
returns c = search (out char_len)
