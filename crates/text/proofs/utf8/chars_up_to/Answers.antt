use mathlib.Core.Path.{refl}
use borrow.Author.Rules.{rules}
use Rattle.text.specs.Utf8.{char_len}
use Rattle.text.proofs.Walks.{on}
use Rattle.text.proofs.BlockLaws.{ascii_on}
use Rattle.text.proofs.utf8.chars_up_to.Goals as goal

pub loop-i-init : goal.loop-i-init
loop-i-init c = (search rules, (search rules, refl))

pub loop-i-preserved-then-s-i-le127 : goal.loop-i-preserved-then-s-i-le127
loop-i-preserved-then-s-i-le127 c = (search rules, (search rules, ascii_on _ _ _ (search rules) c.if-s-i-le127.true c.loop-i.invariant.1.1))

pub loop-i-preserved : goal.loop-i-preserved
loop-i-preserved c = (search rules, (search rules, search (on char_len)))
