use Rattle.tables.proofs.TableLaws.{named_start, named_here, named_on, named_none}
use Rattle.tables.proofs.named_in.Goals as goal

pub loop-i-init : goal.loop-i-init
loop-i-init c = named_start _ _ _

pub is_cut-requires : goal.is_cut-requires
is_cut-requires c = c.requires.short c.loop-i.i

pub returns-then-is_cut : goal.returns-then-is_cut
returns-then-is_cut c = search named_here

pub loop-i-preserved : goal.loop-i-preserved
loop-i-preserved c = search named_on

pub returns : goal.returns
returns c = search named_none
