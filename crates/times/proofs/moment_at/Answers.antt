use Rattle.times.proofs.MomentLaws.{day_asked, seconds_asked}
use Rattle.times.proofs.moment_at.Goals as goal

pub day_number-requires : goal.day_number-requires
day_number-requires c = day_asked _ _ c.requires c.is_day.ensures c.if-not-is_day.false

pub seconds-requires : goal.seconds-requires
seconds-requires c = seconds_asked _ _ _ c.day_number.ensures.upper_bound c.is_clock.ensures c.if-not-is_clock.false
