use native.Mathlib.Omega.{arith}
use Rattle.output.specs.Put.{Room}
use Rattle.output.proofs.PutLaws.{put_inside}
use Rattle.notation.proofs.put_bytes.Goals as goal

pub put_bytes-requires : goal.put_bytes-requires
unfolding Room
put_bytes-requires c = omega arith

pub returns : goal.returns
unfolding Room
returns c = put_inside _ _ _ _ _ c.put_bytes.ensures (omega arith)
