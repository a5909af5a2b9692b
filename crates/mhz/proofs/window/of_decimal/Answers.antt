use Rattle.mhz.proofs.WindowLaws.{zero_digits}
use Rattle.mhz.proofs.window.of_decimal.Goals as goal

pub returns-then-digits-eq0 : goal.returns-then-digits-eq0
returns-then-digits-eq0 c = search zero_digits
