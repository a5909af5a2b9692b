use mathlib.Core.Path.{ap}
use lib.ListN.{length}
use native.Mathlib.Omega.{arith}
use Rattle.tables.proofs.PlaceLaws.{tidy_part, tidy_other, part_length}
use Rattle.tables.proofs.places.tidy.Goals as goal

pub overflow_cast-a : goal.overflow_cast-a
overflow_cast-a c = omega (arith, ap length c.part-s.ensures, part_length c.args.text.now c.args.p)

pub overflow_add-p : goal.overflow_add-p
overflow_add-p c = omega (arith, ap length c.part-s.ensures, part_length c.args.text.now c.args.p)

pub overflow_cast-n : goal.overflow_cast-n
overflow_cast-n c = omega (arith, ap length c.part-s.ensures, part_length c.args.text.now c.args.p)

pub returns-then-in_text : goal.returns-then-in_text
returns-then-in_text c = search tidy_part

pub returns-else-in_text : goal.returns-else-in_text
returns-else-in_text c = search tidy_other
