use native.Mathlib.Omega.{arith}
use Rattle.output.specs.Put.{Room}
use Rattle.output.proofs.PutLaws.{put_inside}
use borrow.Author.Rules.{rules}
use Rattle.notation.proofs.put_number.Goals as goal

pub put_decimal-requires : goal.put_decimal-requires
unfolding Room
put_decimal-requires c = search rules

pub returns : goal.returns
unfolding Room
returns c = put_inside _ _ _ _ _ c.put_decimal.ensures (omega arith)
