-- the sign ends within the text
use native.Mathlib.Omega.{arith}
use Rattle.mhz.proofs.TextLaws.{text_word, text_decimal, start_fits}
use Rattle.mhz.proofs.number.of_text.Goals as goal

pub slice_bounds-word-count : goal.slice_bounds-word-count
slice_bounds-word-count c = omega (arith, start_fits c.args.s.now c.byte-first.result c.one_if-start.result c.is_sign.result c.byte-first.ensures c.is_sign.ensures c.one_if-start.ensures)

pub decimal-requires : goal.decimal-requires
decimal-requires c = start_fits c.args.s.now c.byte-first.result c.one_if-start.result c.is_sign.result c.byte-first.ensures c.is_sign.ensures c.one_if-start.ensures

pub returns-then-byte-gt57 : goal.returns-then-byte-gt57
returns-then-byte-gt57 c = search text_word

pub returns-else-byte-gt57 : goal.returns-else-byte-gt57
returns-else-byte-gt57 c = search text_decimal
