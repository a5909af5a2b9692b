use Rattle.mhz.proofs.PartLaws.{power_none, power_goes_on, power_is}
use Rattle.mhz.proofs.number.power_from.Goals.{then-run-from-via-then-run-from, then-run-from-via-else-run-from+then-run-s}
use Rattle.mhz.proofs.number.power_from.Goals as goal

pub returns-then-run-from : goal.returns-then-run-from
returns-then-run-from c = elim c.then-run-from.branch [
  | then-run-from-via-then-run-from w ↦ search power_none
  | then-run-from-via-else-run-from+then-run-s w ↦ search power_goes_on
]

pub returns : goal.returns
returns c = search power_is
