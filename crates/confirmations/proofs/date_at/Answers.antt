use Rattle.confirmations.proofs.AnswerLaws.{no_date, a_date}
use Rattle.tables.proofs.PlaceLaws.{part_length}
use mathlib.Core.Path.{ap}
use lib.ListN.{length}
use native.Mathlib.Omega.{arith}
use Rattle.confirmations.proofs.date_at.Goals as goal

pub returns-then-a-s : goal.returns-then-a-s
returns-then-a-s c = search no_date

pub overflow_cast-a : goal.overflow_cast-a
overflow_cast-a c = omega (arith, ap length c.part-s.ensures, part_length c.args.text.now c.args.p)

pub overflow_add-p : goal.overflow_add-p
overflow_add-p c = omega (arith, ap length c.part-s.ensures, part_length c.args.text.now c.args.p)

pub overflow_cast-n : goal.overflow_cast-n
overflow_cast-n c = omega (arith, ap length c.part-s.ensures, part_length c.args.text.now c.args.p)

pub returns : goal.returns
returns c = search a_date
