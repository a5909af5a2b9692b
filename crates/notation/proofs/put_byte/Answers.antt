use native.Mathlib.Omega.{arith}
use Rattle.output.specs.Put.{Room}
use Rattle.output.proofs.PutLaws.{put_inside}
use borrow.Author.Rules.{rules}
use Rattle.notation.proofs.put_byte.Goals as goal

pub put_byte-requires : goal.put_byte-requires
unfolding Room
put_byte-requires c = search rules

pub returns : goal.returns
unfolding Room
returns c = put_inside _ _ _ _ _ c.put_byte.ensures (omega arith)
