use Rattle.cellfields.proofs.TextLaws.{put_dropped, room_words, put_words, room_megahertz, put_megahertz, room_number, put_number}
use Rattle.cellfields.proofs.put_cell.Goals as goal

pub put_words-requires : goal.put_words-requires
put_words-requires c = search room_words

pub put_mhz-requires : goal.put_mhz-requires
put_mhz-requires c = search room_megahertz

pub put_number-requires : goal.put_number-requires
put_number-requires c = search room_number

pub returns-in-Dropped : goal.returns-in-Dropped
returns-in-Dropped c = search put_dropped

pub returns-in-Words : goal.returns-in-Words
returns-in-Words c = search put_words

pub returns-in-Megahertz : goal.returns-in-Megahertz
returns-in-Megahertz c = search put_megahertz

pub returns-in-Number : goal.returns-in-Number
returns-in-Number c = search put_number
