use Rattle.mhz.proofs.HeldLaws.{decimal_none, decimal_malformed, decimal_is}
use Rattle.mhz.proofs.number.decimal.Goals as goal

pub returns-then-m-eq0 : goal.returns-then-m-eq0
returns-then-m-eq0 c = search decimal_none

pub returns-in-None : goal.returns-in-None
returns-in-None c = search decimal_malformed

pub returns-in-Some : goal.returns-in-Some
returns-in-Some c = search decimal_is
