use Rattle.usable.proofs.ReasonLaws.{no_call, no_date, no_time, no_mode, inexact, usable}
use Rattle.usable.proofs.check.Goals as goal

pub returns-then-is_blank : goal.returns-then-is_blank
returns-then-is_blank c = search no_call

pub returns-then-not-is_date : goal.returns-then-not-is_date
returns-then-not-is_date c = search no_date

pub returns-then-not-is_time : goal.returns-then-not-is_time
returns-then-not-is_time c = search no_time

pub returns-then-blank_mode : goal.returns-then-blank_mode
returns-then-blank_mode c = search no_mode

pub returns-then-inexact : goal.returns-then-inexact
returns-then-inexact c = search inexact

pub returns : goal.returns
returns c = search usable
