use Rattle.mhz.proofs.DigitLaws.{reads_start, reads_on, here_place, here_held, here_after, end_place, end_held, end_after}
use borrow.Author.Rules.{rules}
use Rattle.mhz.proofs.number.digits_from.Goals as goal

pub loop-at-init : goal.loop-at-init
loop-at-init c = (search rules, search reads_start)

pub loop-at-preserved : goal.loop-at-preserved
loop-at-preserved c = (search rules, search reads_on)

pub returns-then-not-is_digit-clause-at_value : goal.returns-then-not-is_digit-clause-at_value
returns-then-not-is_digit-clause-at_value c = search here_place

pub returns-then-not-is_digit-clause-s_value : goal.returns-then-not-is_digit-clause-s_value
returns-then-not-is_digit-clause-s_value c = search here_after

pub returns-then-not-is_digit-clause-held_value : goal.returns-then-not-is_digit-clause-held_value
returns-then-not-is_digit-clause-held_value c = search here_held

pub returns-clause-at_value : goal.returns-clause-at_value
returns-clause-at_value c = search end_place

pub returns-clause-s_value : goal.returns-clause-s_value
returns-clause-s_value c = search end_after

pub returns-clause-held_value : goal.returns-clause-held_value
returns-clause-held_value c = search end_held
