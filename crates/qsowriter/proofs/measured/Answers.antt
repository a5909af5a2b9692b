use Rattle.qsowriter.proofs.AnswerLaws.{accepted_short, accepted_rows, measured_is}
use Rattle.qsowriter.proofs.measured.Goals as goal

pub merged_size-requires : goal.merged_size-requires
merged_size-requires c = (
  accepted_short _ _ _ _ _ c.verdict_of.ensures c.in_ok-verdict_of.was,
  accepted_rows _ _ _ _ _ c.verdict_of.ensures c.in_ok-verdict_of.was,
)

pub returns : goal.returns
returns c = measured_is _ c.in_ok-verdict_of.was _ _ _ _ c.verdict_of.ensures _ c.requires _ c.merged_size.ensures
