use native.Mathlib.Omega.{arith}
use Rattle.output.proofs.DigitLaws.{put_zero, room_last, put_last, room_more, room_digit, put_more}
use Rattle.output.proofs.+put_digits.Goals as goal

pub returns-then-k-eq0 : goal.returns-then-k-eq0
returns-then-k-eq0 t c = search put_zero

pub put_byte-requires : goal.put_byte-requires
put_byte-requires t c = search room_last

pub returns-then-n-lt10 : goal.returns-then-n-lt10
returns-then-n-lt10 t c = search put_last

pub put_digits-e-requires : goal.put_digits-e-requires
put_digits-e-requires t c = (omega arith, search room_more)

pub put_byte-requires-2 : goal.put_byte-requires-2
put_byte-requires-2 t c = search room_digit

pub returns : goal.returns
returns t c = search put_more
