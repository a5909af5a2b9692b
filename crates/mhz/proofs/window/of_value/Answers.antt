use mathlib.Core.Path.{sym, ap, ◌∙◌}
use mathlib.Core.Bool.{Bool}
use lib.Ieee.{of_bits}
use Rattle.text.specs.Pick.{pick}
use Rattle.hertz.specs.Whole.{to_hz, below_zero}
use Rattle.mhz.specs.Reading.{hertz_of}
use Rattle.mhz.specs.declared.Hz.TheVariants.{Absent, Is}
use Rattle.mhz.proofs.window.of_value.Goals as goal

pub returns-then-v : goal.returns-then-v
unfolding hertz_of below_zero of_bits
returns-then-v c = ap (λ (b : Bool). pick b Absent (Is (to_hz c.args.v))) (sym c.if-v.true)

pub returns-else-v : goal.returns-else-v
unfolding hertz_of below_zero of_bits
returns-else-v c = ap Is c.to_hz.ensures ∙ ap (λ (b : Bool). pick b Absent (Is (to_hz c.args.v))) (sym c.if-v.false)
